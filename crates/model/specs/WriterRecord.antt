-- Section 2, Writers: the 40 bytes of a writer. The offsets are the document's.
use Rattle.std.specs.Prelude.{ℕ, zero, suc, ◌+◌, ◌*◌, ◌/◌, ◌%◌, List, [], ◌∷◌}
use Rattle.octets.specs.Octets.{be}
use Rattle.octets.specs.Patch.{fields}
use Rattle.model.specs.declared.LivelinessKind.{LivelinessKind}
use Rattle.model.specs.declared.LivelinessKind.TheVariants.{Automatic, ManualByParticipant, ManualByTopic}
use Rattle.model.specs.declared.WriterState.{WriterState}
use Rattle.model.specs.declared.WriterState.TheVariants.{Unasserted, Alive, NotAlive, Departed}
use Rattle.model.specs.declared.Writer.{Writer}
use Rattle.model.specs.Guids.{guid_at}
use Rattle.model.specs.InstanceRecord.{bit, flag}

abbrev pub writer_size : ℕ
writer_size = 40

-- ---- numbers for the cases

-- kind 2 bits: 0 automatic, 1 by participant, 2 by topic
abbrev pub liveliness_number : LivelinessKind → ℕ
liveliness_number Automatic = 0
liveliness_number ManualByParticipant = 1
liveliness_number ManualByTopic = 2

abbrev pub liveliness_numbered : ℕ → LivelinessKind
liveliness_numbered zero = Automatic
liveliness_numbered (suc zero) = ManualByParticipant
liveliness_numbered (suc (suc n)) = ManualByTopic

-- state 2 bits: 0 unasserted, 1 alive, 2 not alive, 3 departed
abbrev pub state_number : WriterState → ℕ
state_number Unasserted = 0
state_number Alive = 1
state_number NotAlive = 2
state_number Departed = 3

abbrev pub state_numbered : ℕ → WriterState
state_numbered zero = Unasserted
state_numbered (suc zero) = Alive
state_numbered (suc (suc zero)) = NotAlive
state_numbered (suc (suc (suc n))) = Departed

-- ---- reading (kind 3 reads as the last case; such a record is not well formed, `spares_ok`)

-- kind, state and lease present, in one byte at offset 16
abbrev pub writer_flags_at : List ℕ → ℕ
writer_flags_at r = be 1 r 16

abbrev pub writer_by : List ℕ → ℕ → Writer
writer_by r flags =
    record {
      guid = guid_at r 0;
      liveliness = record {
        kind = liveliness_numbered (flags / 64);
        state = state_numbered (flags / 16 % 4);
        lease = record { present = flag 8 flags; nanos = be 8 r 24 };
        last_assertion = be 8 r 32;
      };
    }

-- the writer of a record's bytes
unfoldable pub writer_of : List ℕ → Writer
writer_of r = writer_by r (writer_flags_at r)

-- ---- laying out

unfoldable pub writer_flags : Writer → ℕ
writer_flags w =
    ((liveliness_number w.liveliness.kind * 4 + state_number w.liveliness.state) * 2
    + bit w.liveliness.lease.present) * 8

-- GUID, flags, seven unused bytes, lease, last assertion
abbrev pub writer_widths : List ℕ
writer_widths = 8 ∷ 8 ∷ 1 ∷ 7 ∷ 8 ∷ 8 ∷ []

abbrev pub writer_values : Writer → List ℕ
writer_values w =
    w.guid.hi ∷ w.guid.lo ∷ writer_flags w ∷ 0 ∷ w.liveliness.lease.nanos ∷ w.liveliness.last_assertion ∷ []

unfoldable pub writer_bytes : Writer → List ℕ
writer_bytes w = fields writer_widths (writer_values w)
