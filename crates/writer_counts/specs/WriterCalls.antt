-- The tracker calls on head and buffers: what a call may rely on, and what it leaves.
use Rattle.std.specs.Prelude.{ℕ, Bool, true, cond, ◌≡◌, List, [], map, pos, ◌-ℤ◌, length}
use Rattle.octets.specs.Lay.{lay}
use Rattle.model.specs.declared.Called.{Called}
use Rattle.model.specs.declared.Head.{Head}
use Rattle.model.specs.declared.Sheet.{Sheet}
use Rattle.model.specs.declared.TrackerCall.{TrackerCall}
use Rattle.model.specs.declared.TrackerCall.TheVariants.{Unmatched, LostWithParticipant}
use Rattle.model.specs.InstanceCalls.{Turned}
use Rattle.model.specs.State.{State, alive_count, not_alive_count, state_of, head_of, writer_key, writers_in, writers_of}
use Rattle.model.specs.Tables.{rising}
use Rattle.model.specs.WellFormed.{within, head_ok, writer_table_ok, counts_ok}
use Rattle.model.specs.Writers.{asserted, tracker_call, is_automatic}
use Rattle.model.specs.WriterRecord.{writer_bytes, liveliness_numbered}
use Rattle.writer_effects.specs.declared.Assertion.{Assertion}
use Rattle.writer_effects.specs.Acts.{assertion_of}
use Rattle.writer_pass.specs.declared.Tally.{Tally}
use Rattle.writer_pass.specs.Passes.{Sound, tally_of}

-- the writers are well formed, and so is the head that counts them
pub record WritersFormed (head : Head) (writers : List ℕ) : Type 0 where
  pub long : length writers ≡ 5120
  pub head_formed : head_ok head ≡ true
  pub table : writer_table_ok head.writer_count writers ≡ true
  pub counted : counts_ok head (writers_in head.writer_count writers) ≡ true

-- the state that the head and the buffers hold. Instances play no part in a tracker call: `pens` may be any bytes
abbrev pub held_by : Head → List ℕ → List ℕ → List ℕ → State
held_by head pens writers lost = state_of record { head = head; pens = pens; writers = writers; lost = lost; out = [] }

-- what a call returned and left of the writers is the turn's, laid out; the number of places is that of the head it was lent
pub record Settles (places : ℕ) (t : Turned) (r : Called) (writers : List ℕ) : Type 0 where
  pub answer : r.answer ≡ t.answer
  pub head : r.head ≡ head_of places t.state
  pub laid : writers ≡ writers_of t.state.writers

-- a call on the writers alone: it leaves what model's turn says, whatever the pens and Lost hold
abbrev pub Turns : TrackerCall → Sheet → Head → List ℕ → Called → List ℕ → Type 0
Turns c sheet head writers r after = (pens lost : List ℕ) → Settles head.places (tracker_call c sheet (held_by head pens writers lost)) r after

-- a writer leaves: with its participant, or by itself
abbrev pub leaving : Bool → TrackerCall
leaving lost = cond lost LostWithParticipant Unmatched

-- ---- the assertion of a turn

-- an assertion as a sheet makes it
abbrev pub assertion_on : Bool → Bool → Sheet → Assertion
assertion_on named manual s = record { guid = s.guid; named = named; manual = manual; clock = s.a }

-- a table that an assertion may run over: it rises, the head counts its classes, and the head's acknowledged amounts are
-- within their bound
pub record Passable (head : Head) (count : ℕ) (writers : List ℕ) : Type 0 where
  pub sound : Sound count writers
  pub rises : rising writer_key (writers_in count writers) ≡ true
  pub alive : head.alive ≡ alive_count (writers_in count writers)
  pub not_alive : head.not_alive ≡ not_alive_count (writers_in count writers)
  pub ack_alive : within (pos head.alive -ℤ head.alive_change) ≡ true
  pub ack_not_alive : within (pos head.not_alive -ℤ head.not_alive_change) ≡ true

abbrev pub automatic : Sheet → Bool
automatic s = is_automatic (liveliness_numbered s.kind)

-- the table after an assertion, and what it leaves by value
abbrev pub asserted_table : Assertion → ℕ → List ℕ → List ℕ
asserted_table a count t = lay writer_bytes 40 (length t) (map (asserted (assertion_of a)) (writers_in count t))

abbrev pub asserted_tally : Head → Assertion → ℕ → List ℕ → Tally
asserted_tally head a count t = tally_of (asserted (assertion_of a)) head.last_writer (writers_in count t)
