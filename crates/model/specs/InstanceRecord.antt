-- Section 2, Pens: the 512 bytes of an instance. The offsets are the document's.
use Rattle.std.specs.Prelude.{ℕ, zero, suc, ◌+◌, ◌*◌, ◌/◌, ◌%◌, Bool, true, false, List, [], ◌∷◌, ◌++◌, eqb, take, drop}
use Rattle.octets.specs.Octets.{be}
use Rattle.octets.specs.Patch.{fields}
use Rattle.model.specs.declared.MaybeTime.{MaybeTime}
use Rattle.model.specs.declared.InstanceStateKind.{InstanceStateKind}
use Rattle.model.specs.declared.InstanceStateKind.TheVariants.{Alive, NotAliveDisposed, NotAliveNoWriters}
use Rattle.model.specs.declared.Life.{Life}
use Rattle.model.specs.declared.Times.{Times}
use Rattle.model.specs.declared.MaybeOwner.{MaybeOwner}
use Rattle.model.specs.declared.Holder.{Holder}
use Rattle.model.specs.declared.WriterSet.{WriterSet}
use Rattle.model.specs.declared.InstanceState.{InstanceState}
use Rattle.model.specs.declared.Instance.{Instance}
use Rattle.model.specs.Guids.{guid_at, guids_in, guids_bytes}
use Rattle.model.specs.Handles.{handle}
use Rattle.model.specs.Sets.{set_places}

abbrev pub instance_size : ℕ
instance_size = 512

-- the most bytes that a holder has
abbrev pub holder_places : ℕ
holder_places = 144

-- ---- numbers for the cases

abbrev pub bit : Bool → ℕ
bit true = 1
bit false = 0

-- kind 2 bits: 0 alive, 1 disposed, 2 no writers
abbrev pub kind_number : InstanceStateKind → ℕ
kind_number Alive = 0
kind_number NotAliveDisposed = 1
kind_number NotAliveNoWriters = 2

-- ---- reading (kind 3 reads as the last case; such a record is not well formed, `kinds_ok`)

-- the bit of weight w
abbrev pub flag : ℕ → ℕ → Bool
flag w f = eqb (f / w % 2) 1

abbrev pub kind_numbered : ℕ → InstanceStateKind
kind_numbered zero = Alive
kind_numbered (suc zero) = NotAliveDisposed
kind_numbered (suc (suc n)) = NotAliveNoWriters

abbrev pub time_at : List ℕ → ℕ → Bool → MaybeTime
time_at r at present = record { present = present; sec = be 4 r at; nanosec = be 4 r (at + 4) }

abbrev pub life_of : List ℕ → ℕ → Life
life_of r flags =
    record {
      kind = kind_numbered (flags / 16384);
      view_new = flag 8192 flags;
      disposed_generations = be 4 r 28;
      no_writers_generations = be 4 r 32;
      writer_count = be 4 r 36;
      samples = be 4 r 40;
    }

abbrev pub times_of : List ℕ → ℕ → Times
times_of r flags =
    record {
      last_sample = time_at r 44 (flag 4096 flags);
      last_delivered = time_at r 52 (flag 2048 flags);
      last_filter = time_at r 60 (flag 1024 flags);
      disposed_at = time_at r 68 (flag 512 flags);
      no_writers_at = time_at r 76 (flag 256 flags);
      owner_at = time_at r 84 (flag 64 flags);
    }

abbrev pub owner_of : List ℕ → ℕ → MaybeOwner
owner_of r flags = record { present = flag 128 flags; guid = guid_at r 92; strength = be 4 r 108 }

abbrev pub holder_of : List ℕ → ℕ → Holder
holder_of r flags = record { present = flag 32 flags; len = be 2 r 26; bytes = take holder_places (drop 112 r) }

abbrev pub writer_set_of : List ℕ → ℕ → WriterSet
writer_set_of r flags = record { len = flags % 32; items = guids_in set_places (drop 256 r) }

abbrev pub state_by : List ℕ → ℕ → InstanceState
state_by r flags =
    record {
      life = life_of r flags;
      times = times_of r flags;
      owner = owner_of r flags;
      holder = holder_of r flags;
      writers = writer_set_of r flags;
    }

-- the flags: 16 bits at offset 24
abbrev pub flags_at : List ℕ → ℕ
flags_at r = be 2 r 24

-- the instance of a record's bytes
unfoldable pub instance_of : List ℕ → Instance
instance_of r = record { key = guid_at r 0; handle = handle (be 8 r 16); state = state_by r (flags_at r) }

-- ---- laying out

unfoldable pub flags_of : InstanceState → ℕ
flags_of x =
    (((((((((kind_number x.life.kind * 2 + bit x.life.view_new) * 2 + bit x.times.last_sample.present) * 2
    + bit x.times.last_delivered.present) * 2 + bit x.times.last_filter.present) * 2
    + bit x.times.disposed_at.present) * 2 + bit x.times.no_writers_at.present) * 2
    + bit x.owner.present) * 2 + bit x.times.owner_at.present) * 2 + bit x.holder.present) * 32
    + x.writers.len

-- the widths of the fields before the holder
abbrev pub instance_widths : List ℕ
instance_widths =
    8 ∷ 8 ∷ 8 ∷ 2 ∷ 2 ∷ 4 ∷ 4 ∷ 4 ∷ 4 ∷ 4 ∷ 4 ∷ 4 ∷ 4 ∷ 4 ∷ 4 ∷ 4 ∷ 4 ∷ 4 ∷ 4 ∷ 4 ∷ 4 ∷ 8 ∷ 8 ∷ 4 ∷ []

abbrev pub instance_values : Instance → List ℕ
instance_values x =
    x.key.hi ∷ x.key.lo ∷ x.handle.0 ∷ flags_of x.state ∷ x.state.holder.len
    ∷ x.state.life.disposed_generations ∷ x.state.life.no_writers_generations
    ∷ x.state.life.writer_count ∷ x.state.life.samples
    ∷ x.state.times.last_sample.sec ∷ x.state.times.last_sample.nanosec
    ∷ x.state.times.last_delivered.sec ∷ x.state.times.last_delivered.nanosec
    ∷ x.state.times.last_filter.sec ∷ x.state.times.last_filter.nanosec
    ∷ x.state.times.disposed_at.sec ∷ x.state.times.disposed_at.nanosec
    ∷ x.state.times.no_writers_at.sec ∷ x.state.times.no_writers_at.nanosec
    ∷ x.state.times.owner_at.sec ∷ x.state.times.owner_at.nanosec
    ∷ x.state.owner.guid.hi ∷ x.state.owner.guid.lo ∷ x.state.owner.strength ∷ []

unfoldable pub instance_bytes : Instance → List ℕ
instance_bytes x =
    fields instance_widths (instance_values x) ++ (x.state.holder.bytes ++ guids_bytes x.state.writers.items)
