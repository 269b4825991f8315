-- The head's 64 bytes and the answer's 72 bytes, as a recorded list holds them and as they cross the C boundary: fields one
-- after the other, each number most significant byte first, one with a sign by its 32 bits in two's complement.
use Rattle.std.specs.Prelude.{ℕ, zero, suc, Bool, ◌&&◌, ◌||◌, List, [], ◌∷◌, eqb, ltb, None, Some}
use Rattle.std.specs.Int.{w32}
use Rattle.std.proofs.Common.{of_z, to_z}
use Rattle.octets.specs.Octets.{be}
use Rattle.octets.specs.Patch.{fields}
use Rattle.model.specs.declared.Answer.{Answer}
use Rattle.model.specs.declared.Guid.{Guid}
use Rattle.model.specs.declared.Head.{Head}
use Rattle.model.specs.State.{LastWriter}
use Rattle.model.specs.Guids.{nil, guid_at}
use Rattle.model.specs.InstanceRecord.{bit, kind_number}

-- ---- the last writer: 0 and a zero GUID, or 1 and its GUID

abbrev pub last_present : LastWriter → ℕ
last_present None = 0
last_present (Some g) = 1

abbrev pub last_guid : LastWriter → Guid
last_guid None = nil
last_guid (Some g) = g

-- a presence of more than 1 reads as 1; such a head is not laid out, `head_laid`
abbrev pub last_writer : ℕ → Guid → LastWriter
last_writer zero g = None
last_writer (suc n) g = Some g

-- ---- the head (widths and values line by line)

-- 0 instance count, 4 writer count, 8 lost count, 12 alive, 16 not alive, 20 alive change, 24 not alive change,
-- 28 last writer present, 30 instance places, 32 next handle, 40 changes, 48 the last writer's GUID
abbrev pub head_widths : List ℕ
head_widths =
    4 ∷ 4 ∷ 4 ∷ 4 ∷ 4
    ∷ 4 ∷ 4
    ∷ 2 ∷ 2 ∷ 8 ∷ 8
    ∷ 8 ∷ 8 ∷ []

abbrev pub head_values : Head → List ℕ
head_values h =
    h.instance_count ∷ h.writer_count ∷ h.lost_count ∷ h.alive ∷ h.not_alive
    ∷ of_z w32 h.alive_change ∷ of_z w32 h.not_alive_change
    ∷ last_present h.last_writer ∷ h.places ∷ h.next_handle.0 ∷ h.changes
    ∷ (last_guid h.last_writer).hi ∷ (last_guid h.last_writer).lo ∷ []

-- the 64 bytes of a head
unfoldable pub head_bytes : Head → List ℕ
head_bytes h = fields head_widths (head_values h)

-- the head of 64 bytes
unfoldable pub head_in : List ℕ → Head
head_in b =
    record {
      instance_count = be 4 b 0;
      next_handle = record { 0 = be 8 b 32 };
      writer_count = be 4 b 4;
      lost_count = be 4 b 8;
      alive = be 4 b 12;
      not_alive = be 4 b 16;
      alive_change = to_z w32 (be 4 b 20);
      not_alive_change = to_z w32 (be 4 b 24);
      last_writer = last_writer (be 2 b 28) (guid_at b 48);
      changes = be 8 b 40;
      places = be 2 b 30;
    }

-- 64 bytes are those of a head: presence is 0 or 1, and an absent last writer has a zero GUID; its figure is judged apart
unfoldable pub head_laid : List ℕ → Bool
head_laid b =
    ltb (be 2 b 28) 2 && (eqb (be 2 b 28) 1 || (eqb (be 8 b 48) 0 && eqb (be 8 b 56) 0))

-- ---- the answer (widths and values line by line)

-- 0 number, 1 outcome, 2 yes, 3 present, 4 view-new, 5 kind, 6 next due present, 7 zero, 8 handle, 16 samples,
-- 20 disposed generations, 24 no-writers generations, 28 count, 32 listed, 36 alive, 40 not alive, 44 alive change,
-- 48 not alive change, 52 zero, 56 next due, 64 last publication handle
abbrev pub answer_widths : List ℕ
answer_widths =
    1 ∷ 1 ∷ 1 ∷ 1
    ∷ 1 ∷ 1 ∷ 1 ∷ 1
    ∷ 8 ∷ 4
    ∷ 4 ∷ 4 ∷ 4 ∷ 4
    ∷ 4 ∷ 4
    ∷ 4 ∷ 4 ∷ 4
    ∷ 8 ∷ 8 ∷ []

abbrev pub answer_values : Answer → List ℕ
answer_values a =
    a.number ∷ a.outcome ∷ bit a.yes ∷ bit a.present
    ∷ bit a.info.view_new ∷ kind_number a.info.kind ∷ bit a.next_due.present ∷ 0
    ∷ a.handle.0 ∷ a.samples
    ∷ a.info.disposed_generations ∷ a.info.no_writers_generations ∷ a.count ∷ a.listed
    ∷ a.status.alive_count ∷ a.status.not_alive_count
    ∷ of_z w32 a.status.alive_count_change ∷ of_z w32 a.status.not_alive_count_change ∷ 0
    ∷ a.next_due.at ∷ a.status.last_publication_handle.0 ∷ []

-- the 72 bytes of an answer
unfoldable pub answer_bytes : Answer → List ℕ
answer_bytes a = fields answer_widths (answer_values a)
