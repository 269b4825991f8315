-- Section 4: the calls 32 to 40. Each turns the table of writers; counts, changes and last writer follow from the classes
-- of the writers before and after (`movers`, `last_after`, and the counts of State.antt). Section 6's words on one writer
-- are used beside section 4's names.
use Rattle.std.specs.Prelude.{ℕ, ◌+◌, ◌%◌, ◌^◌, min, Bool, true, false, not, ◌&&◌, ◌||◌, cond, List, [], ◌∷◌, ◌++◌, map, eqb, leb, ltb, ℤ, pos, ◌+ℤ◌, ◌-ℤ◌, length, None, Some}
use Rattle.std.proofs.Math.Option.{Option, none, some}
use Rattle.std.specs.Int.{w32}
use Rattle.std.proofs.Common.{to_z}
use Rattle.model.specs.declared.AcknowledgeUse.{AcknowledgeUse}
use Rattle.model.specs.declared.AcknowledgeUse.TheVariants.{Nothing, Whole, Part}
use Rattle.model.specs.declared.Answer.{Answer}
use Rattle.model.specs.declared.ClockUse.{ClockUse}
use Rattle.model.specs.declared.ClockUse.TheVariants.{NoClock, Clock, ClockAndLease}
use Rattle.model.specs.declared.Guid.{Guid}
use Rattle.model.specs.declared.InstanceHandle.{InstanceHandle}
use Rattle.model.specs.declared.LivelinessChangedStatus.{LivelinessChangedStatus}
use Rattle.model.specs.declared.LivelinessKind.{LivelinessKind}
use Rattle.model.specs.declared.LivelinessKind.TheVariants.{Automatic, ManualByParticipant, ManualByTopic}
use Rattle.model.specs.declared.LostUse.{LostUse}
use Rattle.model.specs.declared.LostUse.TheVariants.{Leaves, Appends, Empties}
use Rattle.model.specs.declared.MaybeDue.{MaybeDue}
use Rattle.model.specs.declared.MaybeLease.{MaybeLease}
use Rattle.model.specs.declared.Sheet.{Sheet}
use Rattle.model.specs.declared.TrackerReport.{TrackerReport}
use Rattle.model.specs.declared.TrackerReport.TheVariants.{Moved, MovedAndDue, Lost, Status, Silent}
use Rattle.model.specs.declared.TrackerRule.{TrackerRule}
use Rattle.model.specs.declared.Writer.{Writer}
use Rattle.model.specs.declared.WriterState.{WriterState}
use Rattle.model.specs.declared.WriterState.TheVariants.{Unasserted, Alive, NotAlive, Departed}
use Rattle.model.specs.Answers.{silent, saying, saying_due, listing, reporting, no_due}
use Rattle.model.specs.Calls.{TrackerCall, matched, unmatched, lost_with_participant, writer_asserted, participant_asserted, expire, take_lost, take_status, acknowledge}
use Rattle.model.specs.Guids.{same, same_prefix, guids_bytes}
use Rattle.model.specs.Handles.{handle, from_guid}
use Rattle.model.specs.InstanceCalls.{Turned, refused}
use Rattle.model.specs.State.{State, Class, alive, not_alive, neither, class_of, writer_key, writer_places, lost_places, alive_count, not_alive_count, LastWriter}
use Rattle.model.specs.Tables.{find, pick, put, sift, is_some}
use Rattle.model.specs.WellFormed.{within}
use Rattle.model.specs.WriterRecord.{liveliness_numbered}

-- ---- the table of the calls: clocks of the sheet; whether it matches, which takes the kind and puts a record in; Lost; what is
-- acknowledged; the answer. What each does to one writer is `writer_acts` below

abbrev row : ClockUse → Bool → LostUse → AcknowledgeUse → TrackerReport → TrackerRule
row clocks matches lost acknowledges report =
    record { clocks = clocks; matches = matches; lost = lost; acknowledges = acknowledges; report = report }

-- code 39 acknowledges the whole, code 40 a part
abbrev pub tracker_rule : TrackerCall → TrackerRule
tracker_rule matched = row ClockAndLease true Leaves Nothing Moved
tracker_rule unmatched = row NoClock false Leaves Nothing Moved
tracker_rule lost_with_participant = row NoClock false Leaves Nothing Moved
tracker_rule writer_asserted = row Clock false Leaves Nothing Moved
tracker_rule participant_asserted = row Clock false Leaves Nothing Moved
tracker_rule expire = row Clock false Appends Nothing MovedAndDue
tracker_rule take_lost = row NoClock false Empties Nothing Lost
tracker_rule take_status = row NoClock false Leaves Whole Status
tracker_rule acknowledge = row NoClock false Leaves Part Silent

-- ---- one writer

abbrev pub has_guid : Guid → Writer → Bool
has_guid g w = same w.guid g

-- tracked: matched and not departed
abbrev pub is_tracked : WriterState → Bool
is_tracked Unasserted = true
is_tracked Alive = true
is_tracked NotAlive = true
is_tracked Departed = false

abbrev pub tracked : Writer → Bool
tracked w = is_tracked w.liveliness.state

abbrev pub with_state : WriterState → ℕ → Writer → Writer
with_state st last w =
    record {
      guid = w.guid;
      liveliness = record {
        kind = w.liveliness.kind;
        state = st;
        lease = w.liveliness.lease;
        last_assertion = last;
      };
    }

-- the lease on the sheet: B, where its presence bit is set
abbrev pub lease_on : Sheet → MaybeLease
lease_on s = cond s.lease_present record { present = true; nanos = s.b } record { present = false; nanos = 0 }

abbrev pub matched_as : Sheet → WriterState → ℕ → Writer
matched_as s st last =
    record {
      guid = s.guid;
      liveliness = record { kind = liveliness_numbered s.kind; state = st; lease = lease_on s; last_assertion = last };
    }

-- matched: a tracked writer takes kind and lease; an absent one is unasserted at the clock; a departed one comes back not
-- alive at 0
abbrev pub matched_from : Sheet → WriterState → ℕ → Writer
matched_from s Unasserted last = matched_as s Unasserted last
matched_from s Alive last = matched_as s Alive last
matched_from s NotAlive last = matched_as s NotAlive last
matched_from s Departed last = matched_as s NotAlive 0

abbrev pub matched_writer : Sheet → Option Writer → Writer
matched_writer s none = matched_as s Unasserted s.a
matched_writer s (some w) = matched_from s w.liveliness.state w.liveliness.last_assertion

-- section 6: whom an assertion covers: the named writer; at the same prefix automatic ones and, if manual, by-participant ones
pub record Assertion : Type 0 where
  pub guid : Guid
  pub named : Bool
  pub manual : Bool
  pub clock : ℕ

abbrev pub covers_kind : LivelinessKind → Bool → Bool
covers_kind Automatic manual = true
covers_kind ManualByParticipant manual = manual
covers_kind ManualByTopic manual = false

unfoldable pub covers : Assertion → Writer → Bool
covers a w =
    (a.named && has_guid a.guid w)
    || (same_prefix w.guid a.guid && covers_kind w.liveliness.kind a.manual)

abbrev pub is_not_alive : WriterState → Bool
is_not_alive Unasserted = false
is_not_alive Alive = false
is_not_alive NotAlive = true
is_not_alive Departed = false

-- section 6: it acts on a tracked writer if later than the last, or equal and not yet not alive
unfoldable pub renews : Assertion → Writer → Bool
renews a w =
    tracked w && (ltb w.liveliness.last_assertion a.clock
    || (eqb w.liveliness.last_assertion a.clock && not (is_not_alive w.liveliness.state)))

unfoldable pub asserted : Assertion → Writer → Writer
asserted a w = cond (covers a w && renews a w) (with_state Alive a.clock w) w

-- expire: alive with a lease that has run out
abbrev pub is_alive_state : WriterState → Bool
is_alive_state Unasserted = false
is_alive_state Alive = true
is_alive_state NotAlive = false
is_alive_state Departed = false

-- when the lease of an alive writer runs out
abbrev pub leased : Writer → Bool
leased w = is_alive_state w.liveliness.state && w.liveliness.lease.present

abbrev pub due_at : Writer → ℕ
due_at w = w.liveliness.last_assertion + w.liveliness.lease.nanos

unfoldable pub expires : ℕ → Writer → Bool
expires clock w = leased w && leb (due_at w) clock

unfoldable pub expired : ℕ → Writer → Writer
expired clock w = cond (expires clock w) (with_state NotAlive w.liveliness.last_assertion w) w

-- unmatched: gone unless departed
unfoldable pub unmatched_from : Writer → Option Writer
unmatched_from w = cond (tracked w) none (some w)

-- a departed record has only GUID and state
abbrev pub departed : Guid → Writer
departed g =
    record {
      guid = g;
      liveliness = record { kind = Automatic; state = Departed; lease = record { present = false; nanos = 0 }; last_assertion = 0 };
    }

-- lost with its participant: an unasserted writer is gone, any other departed
abbrev pub lost_as : WriterState → Writer → Option Writer
lost_as Unasserted w = none
lost_as Alive w = some (departed w.guid)
lost_as NotAlive w = some (departed w.guid)
lost_as Departed w = some (departed w.guid)

-- ---- the turn of the table

-- an automatic match of an untracked GUID then asserts
abbrev pub untracked : Option Writer → Bool
untracked none = true
untracked (some w) = not (tracked w)

abbrev pub is_automatic : LivelinessKind → Bool
is_automatic Automatic = true
is_automatic ManualByParticipant = false
is_automatic ManualByTopic = false

abbrev pub match_asserts : Sheet → List Writer → Bool
match_asserts s ws = is_automatic (liveliness_numbered s.kind) && untracked (find (has_guid s.guid) ws)

-- the assertion that a call makes: code 35 is manual, a match is not; code 36 names a prefix and no writer, and is manual
-- by its bit
abbrev pub assertion : Bool → Bool → Sheet → Assertion
assertion named manual s = record { guid = s.guid; named = named; manual = manual; clock = s.a }

-- the writers before the call acts: with the record that a match puts in
abbrev pub writers_begun : TrackerCall → Sheet → List Writer → List Writer
writers_begun c s ws = cond (tracker_rule c).matches (put writer_key (matched_writer s (find (has_guid s.guid) ws)) ws) ws

-- what the call does to one writer; `matching` says that a match asserts
abbrev pub writer_acts : TrackerCall → Sheet → Bool → Writer → Option Writer
writer_acts matched s matching w = some (cond matching (asserted (assertion true false s) w) w)
writer_acts unmatched s matching w = cond (has_guid s.guid w) (unmatched_from w) (some w)
writer_acts lost_with_participant s matching w = cond (has_guid s.guid w) (lost_as w.liveliness.state w) (some w)
writer_acts writer_asserted s matching w = some (asserted (assertion true true s) w)
writer_acts participant_asserted s matching w = some (asserted (assertion false s.manual s) w)
writer_acts expire s matching w = some (expired s.a w)
writer_acts take_lost s matching w = some w
writer_acts take_status s matching w = some w
writer_acts acknowledge s matching w = some w

abbrev pub writer_step : TrackerCall → Sheet → List Writer → Writer → Option Writer
writer_step c s ws w = writer_acts c s (match_asserts s ws) w

unfoldable pub writers_after : TrackerCall → Sheet → List Writer → List Writer
writers_after c s ws = sift (writer_step c s ws) (writers_begun c s ws)

-- ---- settle: the writers that change class, rising

abbrev pub same_class : Class → Class → Bool
same_class alive alive = true
same_class alive not_alive = false
same_class alive neither = false
same_class not_alive alive = false
same_class not_alive not_alive = true
same_class not_alive neither = false
same_class neither alive = false
same_class neither not_alive = false
same_class neither neither = true

abbrev pub class_after : Option Writer → Class
class_after none = neither
class_after (some w) = class_of w.liveliness.state

abbrev pub moves : (Writer → Option Writer) → Writer → Bool
moves f w = not (same_class (class_of w.liveliness.state) (class_after (f w)))

abbrev pub guid_in : Writer → Guid
guid_in w = w.guid

unfoldable pub movers : TrackerCall → Sheet → List Writer → List Guid
movers c s ws = map guid_in (pick (moves (writer_step c s ws)) (writers_begun c s ws))

-- section 6: the last writer is the greatest that changed class, where one did; movers rise, so it is their last
unfoldable pub last_after : List Guid → LastWriter → LastWriter
last_after [] last = last
last_after (g ∷ gs) last = last_after gs (Some g)

abbrev pub moved : List Guid → Bool
moved [] = false
moved (g ∷ gs) = true

-- ---- Lost, and what is acknowledged

abbrev pub lost_with : LostUse → List Guid → List Guid → List Guid
lost_with Leaves gone lost = lost
lost_with Appends gone lost = lost ++ gone
lost_with Empties gone lost = []

abbrev pub lost_after : TrackerCall → List Guid → List Guid → List Guid
lost_after c gone lost = lost_with (tracker_rule c).lost gone lost

abbrev pub acknowledged_with : AcknowledgeUse → ℕ → ℕ → ℤ → ℤ
acknowledged_with Nothing count part z = z
acknowledged_with Whole count part z = pos count
acknowledged_with Part count part z = z +ℤ to_z w32 part

abbrev pub acknowledged_after : TrackerCall → ℕ → ℕ → ℤ → ℤ
acknowledged_after c count part z = acknowledged_with (tracker_rule c).acknowledges count part z

-- ---- answers

-- when the next lease runs out
abbrev pub sooner_of : Writer → MaybeDue → MaybeDue
sooner_of w d = record { present = true; at = cond d.present (min (due_at w) d.at) (due_at w) }

unfoldable pub next_due : List Writer → MaybeDue
next_due [] = no_due
next_due (w ∷ ws) = cond (leased w) (sooner_of w (next_due ws)) (next_due ws)

-- nil where there is no last writer
abbrev pub publication : LastWriter → InstanceHandle
publication None = handle 0
publication (Some g) = from_guid g

unfoldable pub status_of : State → LivelinessChangedStatus
status_of st =
    record {
      alive_count = alive_count st.writers;
      not_alive_count = not_alive_count st.writers;
      alive_count_change = pos (alive_count st.writers) -ℤ st.acknowledged_alive;
      not_alive_count_change = pos (not_alive_count st.writers) -ℤ st.acknowledged_not_alive;
      last_publication_handle = publication st.last_writer;
    }

-- from the writers that changed class, the writers left, and the state before
abbrev pub told_with : TrackerReport → List Guid → List Writer → State → Answer
told_with Moved gone ws st = saying (moved gone)
told_with MovedAndDue gone ws st = saying_due (moved gone) (next_due ws)
told_with Lost gone ws st = listing (length st.lost)
told_with Status gone ws st = reporting (status_of st)
told_with Silent gone ws st = silent

abbrev pub tracker_told : TrackerCall → Sheet → State → Answer
tracker_told c s st = told_with (tracker_rule c).report (movers c s st.writers) (writers_after c s st.writers) st

-- the list of Lost: 16 bytes each
abbrev pub list_with : TrackerReport → State → List ℕ
list_with Moved st = []
list_with MovedAndDue st = []
list_with Lost st = guids_bytes st.lost
list_with Status st = []
list_with Silent st = []

abbrev pub tracker_list : TrackerCall → State → List ℕ
tracker_list c st = list_with (tracker_rule c).report st

-- ---- late refusals: 11 new GUID, 128 writer records; 12 expiries beyond 256 in Lost

-- a match of a new GUID with every place taken
abbrev pub no_place : Sheet → State → Bool
no_place s st = not (is_some (find (has_guid s.guid) st.writers)) && leb writer_places (length st.writers)

abbrev pub appends : LostUse → Bool
appends Leaves = false
appends Appends = true
appends Empties = false

-- so many that Lost cannot take them
abbrev pub too_many : List Guid → State → Bool
too_many gone st = ltb lost_places (length st.lost + length gone)

abbrev pub tracker_late : TrackerCall → Sheet → State → ℕ
tracker_late c s st =
    cond ((tracker_rule c).matches && no_place s st) 11 (cond (appends (tracker_rule c).lost && too_many (movers c s st.writers) st) 12 0)

-- ---- the call

unfoldable pub tracker_state : TrackerCall → Sheet → State → State
tracker_state c s st =
    record {
      instances = st.instances;
      next_handle = st.next_handle;
      writers = writers_after c s st.writers;
      lost = lost_after c (movers c s st.writers) st.lost;
      acknowledged_alive = acknowledged_after c (alive_count st.writers) s.first st.acknowledged_alive;
      acknowledged_not_alive = acknowledged_after c (not_alive_count st.writers) s.second st.acknowledged_not_alive;
      last_writer = last_after (movers c s st.writers) st.last_writer;
      changes = (st.changes + length (movers c s st.writers)) % 2 ^ 64;
    }

unfoldable pub tracker_turn : TrackerCall → Sheet → State → Turned
tracker_turn c s st = record { answer = tracker_told c s st; state = tracker_state c s st; list = tracker_list c st }

unfoldable pub tracker_call : TrackerCall → Sheet → State → Turned
tracker_call c s st = cond (eqb (tracker_late c s st) 0) (tracker_turn c s st) (refused (tracker_late c s st) st)

-- ---- refusal 8: acknowledge taking count minus change beyond ±2^30

abbrev pub acknowledgeable_with : AcknowledgeUse → Sheet → State → Bool
acknowledgeable_with Nothing s st = true
acknowledgeable_with Whole s st = true
acknowledgeable_with Part s st =
    within (st.acknowledged_alive +ℤ to_z w32 s.first) && within (st.acknowledged_not_alive +ℤ to_z w32 s.second)

abbrev pub acknowledgeable : TrackerCall → Sheet → State → Bool
acknowledgeable c s st = acknowledgeable_with (tracker_rule c).acknowledges s st
