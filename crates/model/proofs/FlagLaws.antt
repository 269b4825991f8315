-- The flags of an instance and of a writer, put together and taken apart.
--     digits_of       the digits of the flags of an instance
--     flags_apart     what the flags of an instance say is the instance's
--     flags_again     the flags of what was read are those that were read
--     writer_apart, writer_again      the same of a writer
use Prim.Native.Nat.{ℕ, zero, suc, ◌+◌, ◌*◌, ◌/◌, ◌%◌, ◌<◌}
use mathlib.Core.Bool.{Bool, true, false}
use mathlib.Core.Path.{◌≡◌, refl, ap, ◌∙◌}
use mathlib.Core.List.{List}
use native.Mathlib.Nat.{div-div-eq-div-mul, div-add-mod'}
use native.Mathlib.Omega.{arith}
use lib.Dec.{eqb}
use Rattle.model.specs.declared.InstanceState.{InstanceState}
use Rattle.model.specs.declared.InstanceStateKind.{InstanceStateKind}
use Rattle.model.specs.declared.InstanceStateKind.TheVariants.{Alive, NotAliveDisposed, NotAliveNoWriters}
use Rattle.model.specs.declared.LivelinessKind.{LivelinessKind}
use Rattle.model.specs.declared.LivelinessKind.TheVariants.{Automatic, ManualByParticipant, ManualByTopic}
use Rattle.model.specs.declared.Writer.{Writer}
use Rattle.model.specs.declared.WriterState.{WriterState}
use Rattle.model.specs.declared.WriterState.TheVariants.{Unasserted, Alive as AliveState, NotAlive, Departed}
use Rattle.model.specs.InstanceRecord.{bit, kind_number, kind_numbered, flag, flags_of, state_by}
use Rattle.model.specs.WriterRecord.{liveliness_number, liveliness_numbered, state_number, state_numbered, writer_flags, writer_by}

pub bit_small : (b : Bool) → bit b < 2
bit_small true = omega arith
bit_small false = omega arith

-- a digit that is a bit says whether
flag_is : (b : Bool) (n : ℕ) → n ≡ bit b → eqb n 1 ≡ b
flag_is true n e = rw e
flag_is false n e = rw e

bit_is : (n : ℕ) → n < 2 → bit (eqb n 1) ≡ n
bit_is zero h = refl
bit_is (suc zero) h = refl
bit_is (suc (suc n)) h = absurd (omega arith)

kind_small : (k : InstanceStateKind) → kind_number k < 3
kind_small Alive = omega arith
kind_small NotAliveDisposed = omega arith
kind_small NotAliveNoWriters = omega arith

kind_back : (k : InstanceStateKind) → kind_numbered (kind_number k) ≡ k
kind_back Alive = refl
kind_back NotAliveDisposed = refl
kind_back NotAliveNoWriters = refl

kind_forth : (n : ℕ) → n < 3 → kind_number (kind_numbered n) ≡ n
kind_forth zero h = refl
kind_forth (suc zero) h = refl
kind_forth (suc (suc zero)) h = refl
kind_forth (suc (suc (suc n))) h = absurd (omega arith)

-- ---- the digits of the flags of an instance

pub record Digits (f k a b c d e g h i j n : ℕ) : Type 0 where
  pub kind : f / 16384 ≡ k
  pub view : f / 8192 % 2 ≡ a
  pub sample : f / 4096 % 2 ≡ b
  pub delivered : f / 2048 % 2 ≡ c
  pub filter : f / 1024 % 2 ≡ d
  pub disposed : f / 512 % 2 ≡ e
  pub no_writers : f / 256 % 2 ≡ g
  pub owner : f / 128 % 2 ≡ h
  pub owner_at : f / 64 % 2 ≡ i
  pub holder : f / 32 % 2 ≡ j
  pub size : f % 32 ≡ n

digits_of : (k a b c d e g h i j n : ℕ) → k < 3 → a < 2 → b < 2 → c < 2 → d < 2 → e < 2 → g < 2 → h < 2 → i < 2 → j < 2 → n < 32 →
    Digits ((((((((((k * 2 + a) * 2 + b) * 2 + c) * 2 + d) * 2 + e) * 2 + g) * 2 + h) * 2 + i) * 2 + j) * 32 + n) k a b c d e g h i j n
digits_of k a b c d e g h i j n hk ha hb hc hd he hg hh hi hj hn =
    record {
      kind = omega arith;
      view = omega arith;
      sample = omega arith;
      delivered = omega arith;
      filter = omega arith;
      disposed = omega arith;
      no_writers = omega arith;
      owner = omega arith;
      owner_at = omega arith;
      holder = omega arith;
      size = omega arith;
    }

pub record Apart (x : InstanceState) (f : ℕ) : Type 0 where
  pub kind : kind_numbered (f / 16384) ≡ x.life.kind
  pub view : flag 8192 f ≡ x.life.view_new
  pub sample : flag 4096 f ≡ x.times.last_sample.present
  pub delivered : flag 2048 f ≡ x.times.last_delivered.present
  pub filter : flag 1024 f ≡ x.times.last_filter.present
  pub disposed : flag 512 f ≡ x.times.disposed_at.present
  pub no_writers : flag 256 f ≡ x.times.no_writers_at.present
  pub owner : flag 128 f ≡ x.owner.present
  pub owner_at : flag 64 f ≡ x.times.owner_at.present
  pub holder : flag 32 f ≡ x.holder.present
  pub size : f % 32 ≡ x.writers.len

module _ (x : InstanceState) (few : x.writers.len < 32) where
  pub flags_apart : Apart x (flags_of x)
  unfolding flags_of
  flags_apart =
      let t = x.times in
      let d =
      digits_of (kind_number x.life.kind) (bit x.life.view_new) (bit t.last_sample.present) (bit t.last_delivered.present)
      (bit t.last_filter.present) (bit t.disposed_at.present) (bit t.no_writers_at.present) (bit x.owner.present)
      (bit t.owner_at.present) (bit x.holder.present) x.writers.len
      (kind_small x.life.kind) (bit_small x.life.view_new) (bit_small t.last_sample.present) (bit_small t.last_delivered.present)
      (bit_small t.last_filter.present) (bit_small t.disposed_at.present) (bit_small t.no_writers_at.present) (bit_small x.owner.present)
      (bit_small t.owner_at.present) (bit_small x.holder.present) few in
      record {
        kind = ap kind_numbered d.kind ∙ kind_back x.life.kind;
        view = flag_is x.life.view_new _ d.view;
        sample = flag_is t.last_sample.present _ d.sample;
        delivered = flag_is t.last_delivered.present _ d.delivered;
        filter = flag_is t.last_filter.present _ d.filter;
        disposed = flag_is t.disposed_at.present _ d.disposed;
        no_writers = flag_is t.no_writers_at.present _ d.no_writers;
        owner = flag_is x.owner.present _ d.owner;
        owner_at = flag_is t.owner_at.present _ d.owner_at;
        holder = flag_is x.holder.present _ d.holder;
        size = d.size;
      }

  pub flags_small : flags_of x < 49152
  unfolding flags_of
  flags_small =
      let t = x.times in
      omega (
        arith,
        few,
        kind_small x.life.kind,
        bit_small x.life.view_new,
        bit_small t.last_sample.present,
        bit_small t.last_delivered.present,
        bit_small t.last_filter.present,
        bit_small t.disposed_at.present,
        bit_small t.no_writers_at.present,
        bit_small x.owner.present,
        bit_small t.owner_at.present,
        bit_small x.holder.present,
      )

-- ---- put together again: one bit more, from weight 2w to weight w

half : (w v f : ℕ) → w * 2 ≡ v → f / v * 2 + f / w % 2 ≡ f / w
half w v f e = rw (← e, ← div-div-eq-div-mul f w 2) (div-add-mod' (f / w) 2)

flag-bit : (w f : ℕ) → bit (flag w f) ≡ f / w % 2
flag-bit w f = bit_is (f / w % 2) (omega arith)

pub flags_again : (r : List ℕ) (f : ℕ) → f < 49152 → flags_of (state_by r f) ≡ f
unfolding flags_of
flags_again r f h =
    rw (
      kind_forth (f / 16384) (omega arith),
      flag-bit 8192 f,
      flag-bit 4096 f,
      flag-bit 2048 f,
      flag-bit 1024 f,
      flag-bit 512 f,
      flag-bit 256 f,
      flag-bit 128 f,
      flag-bit 64 f,
      flag-bit 32 f,
    )
    (rw (
      half 8192 16384 f refl,
      half 4096 8192 f refl,
      half 2048 4096 f refl,
      half 1024 2048 f refl,
      half 512 1024 f refl,
      half 256 512 f refl,
      half 128 256 f refl,
      half 64 128 f refl,
      half 32 64 f refl,
    ) (div-add-mod' f 32))

-- ---- the flags of a writer

liveliness_small : (k : LivelinessKind) → liveliness_number k < 3
liveliness_small Automatic = omega arith
liveliness_small ManualByParticipant = omega arith
liveliness_small ManualByTopic = omega arith

liveliness_back : (k : LivelinessKind) → liveliness_numbered (liveliness_number k) ≡ k
liveliness_back Automatic = refl
liveliness_back ManualByParticipant = refl
liveliness_back ManualByTopic = refl

liveliness_forth : (n : ℕ) → n < 3 → liveliness_number (liveliness_numbered n) ≡ n
liveliness_forth zero h = refl
liveliness_forth (suc zero) h = refl
liveliness_forth (suc (suc zero)) h = refl
liveliness_forth (suc (suc (suc n))) h = absurd (omega arith)

state_small : (s : WriterState) → state_number s < 4
state_small Unasserted = omega arith
state_small AliveState = omega arith
state_small NotAlive = omega arith
state_small Departed = omega arith

state_back : (s : WriterState) → state_numbered (state_number s) ≡ s
state_back Unasserted = refl
state_back AliveState = refl
state_back NotAlive = refl
state_back Departed = refl

state_forth : (n : ℕ) → n < 4 → state_number (state_numbered n) ≡ n
state_forth zero h = refl
state_forth (suc zero) h = refl
state_forth (suc (suc zero)) h = refl
state_forth (suc (suc (suc zero))) h = refl
state_forth (suc (suc (suc (suc n)))) h = absurd (omega arith)

pub record WriterApart (w : Writer) (f : ℕ) : Type 0 where
  pub kind : liveliness_numbered (f / 64) ≡ w.liveliness.kind
  pub state : state_numbered (f / 16 % 4) ≡ w.liveliness.state
  pub lease : flag 8 f ≡ w.liveliness.lease.present
  pub spare : f % 8 ≡ 0
  pub small : f < 192

writer-digits : (k s l : ℕ) → k < 3 → s < 4 → l < 2 → (((k * 4 + s) * 2 + l) * 8 / 64 ≡ k) × (((k * 4 + s) * 2 + l) * 8 / 16 % 4 ≡ s)
    × (((k * 4 + s) * 2 + l) * 8 / 8 % 2 ≡ l) × (((k * 4 + s) * 2 + l) * 8 % 8 ≡ 0) × (((k * 4 + s) * 2 + l) * 8 < 192)
writer-digits k s l hk hs hl = omega arith

pub writer_apart : (w : Writer) → WriterApart w (writer_flags w)
unfolding writer_flags
writer_apart w =
    let v = w.liveliness in
    let d =
    writer-digits (liveliness_number v.kind) (state_number v.state) (bit v.lease.present) (liveliness_small v.kind) (state_small v.state)
    (bit_small v.lease.present) in
    record {
      kind = ap liveliness_numbered d.0 ∙ liveliness_back v.kind;
      state = ap state_numbered d.1 ∙ state_back v.state;
      lease = flag_is v.lease.present _ d.2;
      spare = d.3;
      small = d.4;
    }

writer_again_by : (f : ℕ) → f % 8 ≡ 0 → ((f / 64 * 4 + f / 16 % 4) * 2 + f / 8 % 2) * 8 ≡ f
writer_again_by f e = omega arith

pub writer_again : (r : List ℕ) (f : ℕ) → f < 192 → f % 8 ≡ 0 → writer_flags (writer_by r f) ≡ f
unfolding writer_flags
writer_again r f h e =
    rw (liveliness_forth (f / 64) (omega arith), state_forth (f / 16 % 4) (omega arith), flag-bit 8 f) (writer_again_by f e)
