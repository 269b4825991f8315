-- The bytes of an instance with some of its fields written, and its flags then.
--     alive_flags                      what they say of the kind
--     emptied-same, emptied_some, emptied_dead, emptied-all      whether the new set leaves it writerless
--     flags_in, flags_old              the flags are read from the bytes
--     strengthened, cleared_by         the owner's bytes written
--     set_replaced                     the set's bytes written
--     set_same, set-less               the set replaced by one as long, and by a shorter one
--     silent_by, given_by              it was the last set of an alive instance: without a time, and with one
--     settled_same, settled-left, settled-less      what `write_remainder` writes of it: nothing, the end of its last set, a length
use Prim.Native.Nat.{ℕ, zero, suc, ◌+◌, ◌-◌, ◌/◌, ◌≤◌, ◌<◌}
use mathlib.Core.Bool.{Bool, true, false, not, ◌&&◌, cond, and-false}
use mathlib.Core.List.{List, [], ◌∷◌, ◌++◌, append_assoc, append-nil}
use mathlib.Core.Path.{◌≡◌, refl, sym, ap, ◌∙◌}
use native.Mathlib.Omega.{arith}
use borrow.Author.Tests.{eq-eqb, ne_eqb, eqb-true, eqb-false}
use lib.Dec.{eqb}
use lib.ListN.{length, get_or, set, take, length-append}
use Rattle.octets.specs.Octets.{be, put}
use Rattle.octets.specs.Fields.{total}
use Rattle.octets.specs.Patch.{fields, patch, Same}
use Rattle.octets.proofs.PatchLaws.{length_fields, patch-at}
use Rattle.model.specs.declared.Guid.{Guid}
use Rattle.model.specs.declared.Instance.{Instance}
use Rattle.model.specs.declared.InstanceState.{InstanceState}
use Rattle.model.specs.declared.InstanceStateKind.{InstanceStateKind}
use Rattle.model.specs.declared.InstanceStateKind.TheVariants.{Alive, NotAliveDisposed, NotAliveNoWriters}
use Rattle.model.specs.declared.MaybeTime.{MaybeTime}
use Rattle.model.specs.Guids.{guids_bytes}
use Rattle.model.specs.InstanceRecord.{flags_of, instance_bytes, instance_values, instance_widths, kind_number, kind_numbered}
use Rattle.model.specs.Instances.{is_alive, no_owner, with_kind, with_last_sample, with_life, with_no_writers_at, with_owner, with_set, with_times}
use Rattle.model.specs.Sets.{set_of, is_empty}
use Rattle.model.proofs.FlagLaws.{flags_apart, flags_small}
use Rattle.model.proofs.GuidLaws.{length_guids}
use Rattle.model.proofs.Tests.{split}
use Rattle.writer_set.specs.Places.{Sound, padded}
use Rattle.writer_set.proofs.PlaceLaws.{empty_members}
use Rattle.instance_edits.specs.Edits.{OwnerCleared, Settled, WriterlessLeft, changed, emptied_to, left_at, settled, settled_if, unsettled, with_bit, with_strength}
use Rattle.instance_edits.proofs.FieldEdits.{put_field, read_field}

-- ---- the flags of a changed instance

alive-number : (k : InstanceStateKind) → is_alive k ≡ true → kind_number k ≡ 0
alive-number Alive e = refl
alive-number NotAliveDisposed e = let z : ◌≡◌ {A = ℕ} 0 1 = cc in absurd (omega arith)
alive-number NotAliveNoWriters e = let z : ◌≡◌ {A = ℕ} 0 1 = cc in absurd (omega arith)

module _ (x : InstanceState) where
  flags_owner : x.owner.present ≡ true → flags_of (with_owner no_owner x) ≡ flags_of x - 128
  unfolding flags_of
  flags_owner e = rw e (omega arith)

  flags_set : (o : List Guid) → length o ≤ x.writers.len → flags_of (with_set o x) ≡ flags_of x - (x.writers.len - length o)
  unfolding flags_of set_of
  flags_set o h = omega arith

  flags_left : is_alive x.life.kind ≡ true → flags_of (with_life (with_kind NotAliveNoWriters x.life) x) ≡ flags_of x + 32768
  unfolding flags_of
  flags_left e = omega (arith, alive-number x.life.kind e)

  module _ (at : MaybeTime) (few : x.writers.len < 32) (given : at.present ≡ true) where
    flags_sample : flags_of (with_times (with_last_sample at x.times) x) ≡ with_bit 4096 (flags_of x)
    unfolding with_bit flags_of
    flags_sample = rw (flags_apart x few).sample (by x.times.last_sample.present refl)
      where
        by : (b : Bool) → x.times.last_sample.present ≡ b → flags_of (with_times (with_last_sample at x.times) x) ≡ cond b (flags_of x) (flags_of x + 4096)
        by true q = rw (given, q)
        by false q = rw (given, q) (omega arith)

    flags_none : flags_of (with_times (with_no_writers_at at x.times) x) ≡ with_bit 256 (flags_of x)
    unfolding with_bit flags_of
    flags_none = rw (flags_apart x few).no_writers (by x.times.no_writers_at.present refl)
      where
        by : (b : Bool) → x.times.no_writers_at.present ≡ b → flags_of (with_times (with_no_writers_at at x.times) x) ≡ cond b (flags_of x) (flags_of x + 256)
        by true q = rw (given, q)
        by false q = rw (given, q) (omega arith)

-- left writerless, with these two times
abbrev left_with : MaybeTime → MaybeTime → InstanceState → InstanceState
left_with sample none x =
    with_times (with_last_sample sample (with_no_writers_at none x.times)) (with_life (with_kind NotAliveNoWriters x.life) x)

-- a time that is given, or none
left_by_lem : (at : MaybeTime) (x : InstanceState) (b : Bool) → at.present ≡ b →
    left_at at x ≡ left_with (cond b at x.times.last_sample) (cond b at x.times.no_writers_at) x
left_by_lem at x b e = ap (λ (y : Bool). left_with (cond y at x.times.last_sample) (cond y at x.times.no_writers_at) x) e

flags_given : (x : InstanceState) (at : MaybeTime) → x.writers.len < 32 → is_alive x.life.kind ≡ true → at.present ≡ true →
    flags_of (left_with at at x) ≡ with_bit 4096 (with_bit 256 (flags_of x + 32768))
flags_given x at few a given =
    let w : InstanceState = with_life (with_kind NotAliveNoWriters x.life) x in
    let z : InstanceState = with_times (with_no_writers_at at w.times) w in
    flags_sample z at few given ∙ ap (with_bit 4096) (flags_none w at few given ∙ ap (with_bit 256) (flags_left x a))

-- ---- alive, from the flags

alive-kind : (n : ℕ) → is_alive (kind_numbered n) ≡ eqb n 0
alive-kind zero = refl
alive-kind (suc zero) = refl
alive-kind (suc (suc n)) = sym (ne_eqb (suc (suc n)) 0 (λ e. absurd (omega arith)))

alive_flags : (x : InstanceState) → x.writers.len < 32 → is_alive x.life.kind ≡ eqb (flags_of x / 16384) 0
alive_flags x few = ap is_alive (sym (flags_apart x few).kind) ∙ alive-kind (flags_of x / 16384)

-- ---- the set emptied

empty_length : (o : List Guid) → is_empty o ≡ eqb (length o) 0
empty_length [] = refl
empty_length (g ∷ gs) = sym (ne_eqb (suc (length gs)) 0 (λ e. absurd (omega arith)))

module _ (o : List Guid) (x : InstanceState) (sound : Sound x.writers) where
  -- by the numbers of GUIDs before and after
  emptied_by_lem : emptied_to o x ≡ (not (eqb x.writers.len 0) && (eqb (length o) 0 && is_alive x.life.kind))
  unfolding emptied_to
  emptied_by_lem = rw (← empty_members x.writers sound, empty_length o)

  emptied-same : length o ≡ x.writers.len → emptied_to o x ≡ false
  emptied-same e = emptied_by_lem ∙ rw e (by (eqb x.writers.len 0))
    where
      by : (b : Bool) → (not b && (b && is_alive x.life.kind)) ≡ false
      by true = refl
      by false = refl

  emptied_some : (length o ≡ 0 → ⊥) → emptied_to o x ≡ false
  emptied_some n = emptied_by_lem ∙ rw (ne_eqb (length o) 0 n) (and-false (not (eqb x.writers.len 0)))

  emptied_dead : is_alive x.life.kind ≡ false → emptied_to o x ≡ false
  emptied_dead e = emptied_by_lem ∙ rw (e, and-false (eqb (length o) 0)) (and-false (not (eqb x.writers.len 0)))

  emptied-all : length o ≡ 0 → (x.writers.len ≡ 0 → ⊥) → is_alive x.life.kind ≡ true → emptied_to o x ≡ true
  emptied-all e n a = emptied_by_lem ∙ rw (e, ne_eqb x.writers.len 0 n, a)

-- ---- fields in front of the rest

read_flags : (x : Instance) (rest : List ℕ) → x.state.writers.len < 32 → be 2 (fields instance_widths (instance_values x) ++ rest) 24 ≡ flags_of x.state
read_flags x rest h = read_field instance_widths (instance_values x) rest 3 (omega arith) tt (omega (arith, flags_small x.state h))

-- field i of the layout written
field : (vs rest : List ℕ) (i v : ℕ) → i < 24 → Same instance_widths vs →
    put (get_or instance_widths i 0) (fields instance_widths vs ++ rest) (total (take i instance_widths)) v ≡ fields instance_widths (set vs i v) ++ rest
field vs rest i v h e = put_field instance_widths vs rest i v h e

-- ---- the owner's bytes

module _ (x : Instance) where
  abbrev behind : List ℕ
  behind = x.state.holder.bytes ++ guids_bytes x.state.writers.items

  pub flags_in : x.state.writers.len < 32 → be 2 (instance_bytes x) 24 ≡ flags_of x.state
  unfolding instance_bytes
  flags_in h = read_flags x behind h

  pub strengthened : (strength : ℕ) → put 4 (instance_bytes x) 108 strength ≡ instance_bytes (changed (with_strength strength) x)
  unfolding instance_bytes flags_of
  strengthened strength = field (instance_values x) behind 23 strength (omega arith) tt

  cleared : x.state.owner.present ≡ true →
      put 2 (put 4 (put 8 (put 8 (instance_bytes x) 92 0) 100 0) 108 0) 24 (flags_of x.state - 128) ≡ instance_bytes (changed (with_owner no_owner) x)
  unfolding instance_bytes
  cleared h =
      let vs : List ℕ = instance_values x in
      let f : ℕ = flags_of x.state - 128 in
      ap (λ (r : List ℕ). put 2 (put 4 (put 8 r 100 0) 108 0) 24 f) (field vs behind 21 0 (omega arith) tt)
      ∙ ap (λ (r : List ℕ). put 2 (put 4 r 108 0) 24 f) (field (set vs 21 0) behind 22 0 (omega arith) tt)
      ∙ ap (λ (r : List ℕ). put 2 r 24 f) (field (set (set vs 21 0) 22 0) behind 23 0 (omega arith) tt)
      ∙ field (set (set (set vs 21 0) 22 0) 23 0) behind 3 f (omega arith) tt
      ∙ rw (flags_owner x.state h)

-- the four writes, one after the other
pub cleared_by : (r a b d s : List ℕ) (f : ℕ) → f ≡ be 2 r 24 → a ≡ put 8 r 92 0 → b ≡ put 8 a 100 0 → d ≡ put 4 b 108 0 → s ≡ put 2 d 24 (f - 128) →
    OwnerCleared r s
cleared_by r a b d s f g p q t u x e few own = u ∙ rw (t, q, p, g, e, flags_in x few) (cleared x own)

-- ---- the set replaced

module _ (o : List Guid) (x : Instance) where
  abbrev rest : List ℕ
  rest = x.state.holder.bytes ++ guids_bytes (padded o)

  pub flags_old : x.state.writers.len < 32 → be 2 (unsettled o x) 24 ≡ flags_of x.state
  unfolding unsettled
  flags_old h = read_flags x rest h

  pub set_replaced : length x.state.holder.bytes ≡ 144 → length x.state.writers.items ≡ 16 →
      patch (instance_bytes x) 256 256 (guids_bytes (padded o)) ≡ unsettled o x
  unfolding unsettled instance_bytes
  set_replaced h w =
      let p : List ℕ = fields instance_widths (instance_values x) in
      let b : List ℕ = x.state.holder.bytes in
      let q : List ℕ = guids_bytes x.state.writers.items in
      let r : List ℕ = guids_bytes (padded o) in
      let wide : length (p ++ b) ≡ 256 = omega (arith, length-append p b, length_fields instance_widths (instance_values x) tt) in
      ap (λ (z : List ℕ). patch z 256 256 r) (sym (append_assoc p b q) ∙ ap (λ (z : List ℕ). (p ++ b) ++ z) (sym (append-nil q)))
      ∙ patch-at (p ++ b) q [] 256 256 r wide (omega (arith, length_guids x.state.writers.items))
      ∙ ap (λ (z : List ℕ). (p ++ b) ++ z) (append-nil r) ∙ append_assoc p b r

  set_same : length o ≡ x.state.writers.len → unsettled o x ≡ instance_bytes (changed (with_set o) x)
  unfolding unsettled instance_bytes flags_of set_of
  set_same e = rw e

  set-less : length o ≤ x.state.writers.len →
      put 2 (unsettled o x) 24 (flags_of x.state - (x.state.writers.len - length o)) ≡ instance_bytes (changed (with_set o) x)
  unfolding unsettled instance_bytes set_of
  set-less h =
      field (instance_values x) rest 3 (flags_of x.state - (x.state.writers.len - length o)) (omega arith) tt
      ∙ rw (flags_set x.state o h)

  module _ (at : MaybeTime) (few : length o < 32) (alive : is_alive x.state.life.kind ≡ true) where
    abbrev left : InstanceState → InstanceState
    left y = left_at at (with_set o y)

    -- in the state y
    abbrev bytes : InstanceState → List ℕ
    bytes y = instance_bytes (changed (λ (z : InstanceState). y) x)

    left-silent : at.present ≡ false →
        put 2 (unsettled o x) 24 (flags_of (with_set o x.state) + 32768) ≡ instance_bytes (changed left x)
    unfolding unsettled instance_bytes set_of
    left-silent none =
        field (instance_values x) rest 3 (flags_of (with_set o x.state) + 32768) (omega arith) tt
        ∙ rw (← flags_left (with_set o x.state) alive) (ap bytes (sym (left_by_lem at (with_set o x.state) false none)))

    left-given : at.present ≡ true →
        put 4 (put 4 (put 4 (put 4 (put 2 (unsettled o x) 24 (with_bit 4096 (with_bit 256 (flags_of (with_set o x.state) + 32768)))) 44 at.sec) 48 at.nanosec) 76 at.sec) 80 at.nanosec
        ≡ instance_bytes (changed left x)
    unfolding unsettled instance_bytes set_of
    left-given given =
        let f : ℕ = with_bit 4096 (with_bit 256 (flags_of (with_set o x.state) + 32768)) in
        let a : ℕ = at.sec in
        let b : ℕ = at.nanosec in
        let v0 : List ℕ = set (instance_values x) 3 f in
        let v1 : List ℕ = set v0 9 a in
        let v2 : List ℕ = set v1 10 b in
        let v3 : List ℕ = set v2 17 a in
        ap (λ (r : List ℕ). put 4 (put 4 (put 4 (put 4 r 44 a) 48 b) 76 a) 80 b) (field (instance_values x) rest 3 f (omega arith) tt)
        ∙ ap (λ (r : List ℕ). put 4 (put 4 (put 4 r 48 b) 76 a) 80 b) (field v0 rest 9 a (omega arith) tt)
        ∙ ap (λ (r : List ℕ). put 4 (put 4 r 76 a) 80 b) (field v1 rest 10 b (omega arith) tt)
        ∙ ap (λ (r : List ℕ). put 4 r 80 b) (field v2 rest 17 a (omega arith) tt)
        ∙ field v3 rest 18 b (omega arith) tt
        ∙ rw (← flags_given (with_set o x.state) at few alive given) (ap bytes (sym (left_by_lem at (with_set o x.state) true given)))

module _ (at : MaybeTime) (r : List ℕ) (f : ℕ) where
  pub silent_by : (s : List ℕ) → at.present ≡ false → s ≡ put 2 r 24 (f + 32768) → WriterlessLeft f at r s
  silent_by s none p x o e few alive g = p ∙ rw (e, g) (left-silent o x at few alive none)

  -- the five writes, one after the other
  pub given_by : (a b c d s : List ℕ) (u v : ℕ) → at.present ≡ true → u ≡ with_bit 256 (f + 32768) → v ≡ with_bit 4096 u →
      a ≡ put 2 r 24 v → b ≡ put 4 a 44 at.sec → c ≡ put 4 b 48 at.nanosec → d ≡ put 4 c 76 at.sec → s ≡ put 4 d 80 at.nanosec →
      WriterlessLeft f at r s
  given_by a b c d s u v given hu hv pa pb pc pd ps x o e few alive g =
      ps ∙ rw (pd, pc, pb, pa, hv, hu, e, g) (left-given o x at few alive given)

-- ---- the record settled

module _ (o : List Guid) (at : MaybeTime) (x : Instance) where
  settled_by : (b : Bool) → emptied_to o x.state ≡ b →
      instance_bytes (changed (settled_if b o at) x) ≡ instance_bytes (changed (settled o at) x)
  unfolding settled
  settled_by b e = ap (λ (d : Bool). instance_bytes (changed (settled_if d o at) x)) (sym e)

module _ (n k : ℕ) (at : MaybeTime) (r s : List ℕ) (f : ℕ) where
  pub settled_same : k ≡ n → Settled n k at r r false
  settled_same q x o e sound m l =
      let none : emptied_to o x.state ≡ false = emptied-same o x.state sound (omega arith) in
      (e ∙ set_same o x (omega arith) ∙ settled_by o at x false none, sym none)

  -- the flags that were read
  old_flags : f ≡ be 2 r 24 → (x : Instance) (o : List Guid) → r ≡ unsettled o x → Sound x.state.writers → f ≡ flags_of x.state
  old_flags q x o e sound = q ∙ ap (λ (t : List ℕ). be 2 t 24) e ∙ flags_old o x (omega (arith, sound.few))

  pub settled-left : k < n → k ≡ 0 → f ≡ be 2 r 24 → f < 16384 → WriterlessLeft (f - (n - k)) at r s → Settled n k at r s true
  settled-left h z q a w x o e sound m l =
      let g : f ≡ flags_of x.state = old_flags q x o e sound in
      let alive : is_alive x.state.life.kind ≡ true =
      alive_flags x.state (omega (arith, sound.few)) ∙ eq-eqb (flags_of x.state / 16384) 0 (omega arith) in
      let all : emptied_to o x.state ≡ true = emptied-all o x.state sound (omega arith) (λ i. omega arith) alive in
      let fewer : f - (n - k) ≡ flags_of (with_set o x.state) = rw (g, ← m, ← l) (sym (flags_set x.state o (omega arith))) in
      (w x o e (omega arith) alive fewer ∙ settled_by o at x true all, sym all)

  pub settled-less : k < n → f ≡ be 2 r 24 → (k ≡ 0 → 16384 ≤ f) → s ≡ put 2 r 24 (f - (n - k)) → Settled n k at r s false
  settled-less h q a p x o e sound m l =
      let g : f ≡ flags_of x.state = old_flags q x o e sound in
      let none : emptied_to o x.state ≡ false =
      split (eqb k 0)
      (λ z. emptied_dead o x.state sound
      (alive_flags x.state (omega (arith, sound.few))
      ∙ ne_eqb (flags_of x.state / 16384) 0 (λ i. omega (arith, a (eqb-true k 0 z)))))
      (λ z. emptied_some o x.state sound (λ i. eqb-false k 0 z (sym l ∙ i))) in
      (p ∙ rw (e, g, ← m, ← l) (set-less o x (omega arith)) ∙ settled_by o at x false none, sym none)
