-- The status by value.
use Rattle.std.specs.Prelude.{ℕ, true, ◌≡◌, List, ℤ}
use Rattle.model.specs.declared.Called.{Called}
use Rattle.model.specs.declared.Head.{Head}
use Rattle.model.specs.declared.Sheet.{Sheet}
use Rattle.model.specs.declared.TrackerCall.{TrackerCall}
use Rattle.model.specs.InstanceCalls.{Turned}
use Rattle.model.specs.State.{head_of, writers_in}
use Rattle.model.specs.WellFormed.{counts_ok}
use Rattle.model.specs.Writers.{tracker_call}
use Rattle.writer_counts.specs.WriterCalls.{held_by}

-- the head with both changes and the number of GUIDs in Lost anew
abbrev pub changed_head : Head → ℕ → ℤ → ℤ → Head
changed_head h m a n =
    record {
      instance_count = h.instance_count;
      next_handle = h.next_handle;
      writer_count = h.writer_count;
      lost_count = m;
      alive = h.alive;
      not_alive = h.not_alive;
      alive_change = a;
      not_alive_change = n;
      last_writer = h.last_writer;
      changes = h.changes;
      places = h.places;
    }

-- what a call returned is the turn's: its answer and its head, which keeps its number of places
pub record Kept (places : ℕ) (t : Turned) (r : Called) : Type 0 where
  pub answer : r.answer ≡ t.answer
  pub head : r.head ≡ head_of places t.state

-- a call by value: it returns what model's turn says, whatever the buffers hold, if the head counts the writers
abbrev pub KeepsWriters : TrackerCall → Sheet → Head → Called → Type 0
KeepsWriters c sheet head r =
    (pens writers lost : List ℕ) → counts_ok head (writers_in head.writer_count writers) ≡ true →
    Kept head.places (tracker_call c sheet (held_by head pens writers lost)) r
