-- Section 6, one writer, from the section's own words: absent (none), or its record, which is unasserted, alive, not alive
-- (these three are tracked) or departed, with kind, lease and last assertion.
use Rattle.std.specs.Prelude.{ℕ, ◌+◌, ◌/◌, ◌^◌, Bool, true, false, not, ◌&&◌, ◌||◌, cond, List, [], ◌++◌, map, eqb, leb, ltb, ℤ, pos, ◌+ℤ◌, ◌-ℤ◌, length, None, Some}
use Rattle.std.proofs.Math.Option.{Option, none, some}
use Rattle.std.specs.Int.{w32}
use Rattle.std.proofs.Common.{to_z}
use Rattle.model.specs.declared.Guid.{Guid}
use Rattle.model.specs.declared.LivelinessKind.{LivelinessKind}
use Rattle.model.specs.declared.LivelinessKind.TheVariants.{Automatic, ManualByParticipant, ManualByTopic}
use Rattle.model.specs.declared.MaybeLease.{MaybeLease}
use Rattle.model.specs.declared.Sheet.{Sheet}
use Rattle.model.specs.declared.Writer.{Writer}
use Rattle.model.specs.declared.WriterState.{WriterState}
use Rattle.model.specs.declared.WriterState.TheVariants.{Unasserted, Alive, NotAlive, Departed}
use Rattle.model.specs.declared.TrackerCall.{TrackerCall}
use Rattle.model.specs.declared.TrackerCall.TheVariants.{Matched as matched, Unmatched as unmatched, LostWithParticipant as lost_with_participant, WriterAsserted as writer_asserted, ParticipantAsserted as participant_asserted, Expire as expire, TakeLost as take_lost, TakeStatus as take_status, Acknowledge as acknowledge}
use Rattle.model.specs.Guids.{num}
use Rattle.model.specs.InstanceRecord.{bit}
use Rattle.model.specs.State.{Class, alive, not_alive, neither, LastWriter}
use Rattle.model.specs.WriterRecord.{liveliness_numbered}
use Rattle.accounts.specs.Ranges.{bound, guid_numbered, between, greatest}

-- ---- where a writer stands

-- unasserted, alive, not alive: these three are tracked
abbrev pub tracked_in : WriterState → Bool
tracked_in Unasserted = true
tracked_in Alive = true
tracked_in NotAlive = true
tracked_in Departed = false

-- so is an account in one of them; an absent one is not
abbrev pub tracked : Option Writer → Bool
tracked none = false
tracked (some w) = tracked_in w.liveliness.state

-- the state alive
abbrev pub alive_in : WriterState → Bool
alive_in Unasserted = false
alive_in Alive = true
alive_in NotAlive = false
alive_in Departed = false

-- the state not alive
abbrev pub not_alive_in : WriterState → Bool
not_alive_in Unasserted = false
not_alive_in Alive = false
not_alive_in NotAlive = true
not_alive_in Departed = false

-- the writer in another state, with another last assertion; GUID, kind and lease stay
abbrev pub became : WriterState → ℕ → Writer → Writer
became state last w =
    record {
      guid = w.guid;
      liveliness =
          record { kind = w.liveliness.kind; state = state; lease = w.liveliness.lease; last_assertion = last };
    }

-- departed: only its GUID and that it is
abbrev pub departed_as : Guid → Writer
departed_as g =
    record {
      guid = g;
      liveliness =
          record { kind = Automatic; state = Departed; lease = record { present = false; nanos = 0 }; last_assertion = 0 };
    }

-- ---- matched: it takes kind and lease; absent becomes unasserted at the clock; departed becomes not alive at 0

-- the lease that a match gives: B, where its presence bit is set
abbrev pub lease_given : Sheet → MaybeLease
lease_given s = cond s.lease_present record { present = true; nanos = s.b } record { present = false; nanos = 0 }

-- the writer that the sheet names, with kind and lease from it
abbrev pub taking : Sheet → WriterState → ℕ → Writer
taking s state last =
    record {
      guid = s.guid;
      liveliness =
          record { kind = liveliness_numbered s.kind; state = state; lease = lease_given s; last_assertion = last };
    }

-- from each state: only departed changes, to not alive at 0
abbrev pub taking_from : Sheet → WriterState → ℕ → Writer
taking_from s Unasserted last = taking s Unasserted last
taking_from s Alive last = taking s Alive last
taking_from s NotAlive last = taking s NotAlive last
taking_from s Departed last = taking s NotAlive 0

-- the account of the matched GUID: absent becomes unasserted at the clock
abbrev pub matches : Sheet → Option Writer → Writer
matches s none = taking s Unasserted s.a
matches s (some w) = taking_from s w.liveliness.state w.liveliness.last_assertion

-- ---- an assertion covers the named writer and, at the same 12-byte prefix, automatic ones and, if manual, by-participant
-- ones

-- automatic ones
abbrev pub automatic : LivelinessKind → Bool
automatic Automatic = true
automatic ManualByParticipant = false
automatic ManualByTopic = false

-- by-participant ones
abbrev pub by_participant : LivelinessKind → Bool
by_participant Automatic = false
by_participant ManualByParticipant = true
by_participant ManualByTopic = false

-- whether it is covered: `named` and `near` say that it is the named writer, or has its prefix
abbrev pub covered : Bool → Bool → Bool → LivelinessKind → Bool
covered named near manual kind = named || (near && (automatic kind || (by_participant kind && manual)))

-- on a tracked one it acts if later than the last, or equal and not yet not alive
abbrev pub timely : ℕ → Writer → Bool
timely clock w =
    tracked_in w.liveliness.state && (ltb w.liveliness.last_assertion clock
    || (eqb w.liveliness.last_assertion clock && not (not_alive_in w.liveliness.state)))

-- alive, last the clock
unfoldable pub asserts : Bool → Bool → Bool → ℕ → Option Writer → Option Writer
asserts named near manual clock none = none
asserts named near manual clock (some w) =
    cond (covered named near manual w.liveliness.kind && timely clock w) (some (became Alive clock w)) (some w)

-- ---- expire: alive with lease and clock ≥ last + lease becomes not alive

-- alive, with a lease, and the clock at last + lease or later
abbrev pub run_out : ℕ → Writer → Bool
run_out clock w =
    alive_in w.liveliness.state && (w.liveliness.lease.present
    && leb (w.liveliness.last_assertion + w.liveliness.lease.nanos) clock)

-- an account in an expire at the clock
unfoldable pub lapses : ℕ → Option Writer → Option Writer
lapses clock none = none
lapses clock (some w) = cond (run_out clock w) (some (became NotAlive w.liveliness.last_assertion w)) (some w)

-- ---- unmatched: absent unless departed

-- from each state
abbrev pub leaves_from : WriterState → Writer → Option Writer
leaves_from Unasserted w = none
leaves_from Alive w = none
leaves_from NotAlive w = none
leaves_from Departed w = some w

-- the account of the unmatched GUID
abbrev pub leaves : Option Writer → Option Writer
leaves none = none
leaves (some w) = leaves_from w.liveliness.state w

-- ---- lost: unasserted becomes absent; alive and not alive become departed

-- from each state; a departed one stays
abbrev pub departs_from : WriterState → Writer → Option Writer
departs_from Unasserted w = none
departs_from Alive w = some (departed_as w.guid)
departs_from NotAlive w = some (departed_as w.guid)
departs_from Departed w = some w

-- the account of the GUID lost with its participant
abbrev pub departs : Option Writer → Option Writer
departs none = none
departs (some w) = departs_from w.liveliness.state w

-- ---- one call on the account of the GUID of number g. The sheet names a GUID; `own` is that GUID's own account

-- a prefix is the first 12 bytes
abbrev pub prefix_of : ℕ → ℕ
prefix_of g = g / 2 ^ 32

-- g is the GUID that the sheet names
abbrev pub is_named : Sheet → ℕ → Bool
is_named s g = eqb g (num s.guid)

-- g has the prefix of the GUID that the sheet names
abbrev pub is_near : Sheet → ℕ → Bool
is_near s g = eqb (prefix_of g) (prefix_of (num s.guid))

-- what a match takes to the account of g
abbrev pub matched_at : Sheet → ℕ → Option Writer → Option Writer
matched_at s g acc = cond (is_named s g) (some (matches s acc)) acc

-- an automatic match of an untracked GUID then asserts; code 35 is manual, a match is not; code 36 names a prefix and no
-- writer, and is manual by its bit
abbrev pub on_writer : TrackerCall → Sheet → Option Writer → ℕ → Option Writer → Option Writer
on_writer matched s own g acc =
    cond (automatic (liveliness_numbered s.kind) && not (tracked own))
    (asserts (is_named s g) (is_near s g) false s.a (matched_at s g acc))
    (matched_at s g acc)
on_writer unmatched s own g acc = cond (is_named s g) (leaves acc) acc
on_writer lost_with_participant s own g acc = cond (is_named s g) (departs acc) acc
on_writer writer_asserted s own g acc = asserts (is_named s g) (is_near s g) true s.a acc
on_writer participant_asserted s own g acc = asserts false (is_near s g) s.manual s.a acc
on_writer expire s own g acc = lapses s.a acc
on_writer take_lost s own g acc = acc
on_writer take_status s own g acc = acc
on_writer acknowledge s own g acc = acc

-- the accounts of all GUIDs
abbrev pub Writers : Type 0
Writers = ℕ → Option Writer

-- all accounts after a call
unfoldable pub writers_after : TrackerCall → Sheet → Writers → Writers
writers_after c s acc g = on_writer c s (acc (num s.guid)) g (acc g)

-- ---- classes: alive; not alive with departed; neither

-- the class of each state
abbrev pub class_in : WriterState → Class
class_in Unasserted = neither
class_in Alive = alive
class_in NotAlive = not_alive
class_in Departed = not_alive

-- the class of an account; an absent one is in neither
abbrev pub class : Option Writer → Class
class none = neither
class (some w) = class_in w.liveliness.state

-- the class alive
abbrev pub is_alive : Class → Bool
is_alive alive = true
is_alive not_alive = false
is_alive neither = false

-- the class not alive with departed
abbrev pub is_not_alive : Class → Bool
is_not_alive alive = false
is_not_alive not_alive = true
is_not_alive neither = false

-- a class move: from one class into another
abbrev pub differ : Class → Class → Bool
differ alive alive = false
differ alive not_alive = true
differ alive neither = true
differ not_alive alive = true
differ not_alive not_alive = false
differ not_alive neither = true
differ neither alive = true
differ neither not_alive = true
differ neither neither = false

-- an account before a call and after it
abbrev pub moved : Option Writer → Option Writer → Bool
moved before after = differ (class before) (class after)

-- the account of g, among all before and all after
abbrev pub moved_at : Writers → Writers → ℕ → Bool
moved_at before after g = moved (before g) (after g)

-- it was alive before a call and is not alive after it: in code 37, the call expired it
abbrev pub expired_at : Writers → Writers → ℕ → Bool
expired_at before after g = is_alive (class (before g)) && is_not_alive (class (after g))

-- these GUIDs, rising
unfoldable pub expired_in : Writers → Writers → List Guid
expired_in before after = map guid_numbered (between 0 bound (expired_at before after))

-- the account of g is in the class alive
abbrev pub in_alive : Writers → ℕ → Bool
in_alive acc g = is_alive (class (acc g))

-- the account of g is in the class not alive with departed
abbrev pub in_not_alive : Writers → ℕ → Bool
in_not_alive acc g = is_not_alive (class (acc g))

-- the number of GUIDs that are alive
unfoldable pub alive_among : Writers → ℕ
alive_among acc = length (between 0 bound (in_alive acc))

-- the number of GUIDs that are not alive or departed
unfoldable pub not_alive_among : Writers → ℕ
not_alive_among acc = length (between 0 bound (in_not_alive acc))

-- ---- the writers' accounts with what is told of them all

-- the accounts of all GUIDs, and what section 6 tells of them together
pub record WriterAccounts : Type 0 where
  pub at : Writers
  -- how often each GUID has changed class
  pub moves : ℕ → ℕ
  pub last : LastWriter
  pub lost : List Guid
  pub acknowledged_alive : ℤ
  pub acknowledged_not_alive : ℤ

-- all absent, and nothing told
abbrev pub no_writers : WriterAccounts
no_writers =
    record {
      at = λ g. none;
      moves = λ g. 0;
      last = None;
      lost = [];
      acknowledged_alive = pos 0;
      acknowledged_not_alive = pos 0;
    }

-- the last writer is the greatest GUID that changed class in the latest call where one did
abbrev pub last_or : Option ℕ → LastWriter → LastWriter
last_or none last = last
last_or (some g) last = Some (guid_numbered g)

-- the last writer after a call
unfoldable pub last_in : Writers → Writers → LastWriter → LastWriter
last_in before after last = last_or (greatest bound (moved_at before after)) last

-- Lost holds the GUIDs expired since the latest code 38, call by call, rising within a call
abbrev pub lost_by : TrackerCall → List Guid → List Guid → List Guid
lost_by matched expired lost = lost
lost_by unmatched expired lost = lost
lost_by lost_with_participant expired lost = lost
lost_by writer_asserted expired lost = lost
lost_by participant_asserted expired lost = lost
lost_by expire expired lost = lost ++ expired
lost_by take_lost expired lost = []
lost_by take_status expired lost = lost
lost_by acknowledge expired lost = lost

-- what is acknowledged, in part by code 40 or whole by code 39, of a change that is its count less what was acknowledged
abbrev pub acknowledged_by : TrackerCall → ℤ → ℤ → ℤ → ℤ
acknowledged_by matched part change z = z
acknowledged_by unmatched part change z = z
acknowledged_by lost_with_participant part change z = z
acknowledged_by writer_asserted part change z = z
acknowledged_by participant_asserted part change z = z
acknowledged_by expire part change z = z
acknowledged_by take_lost part change z = z
acknowledged_by take_status part change z = z +ℤ change
acknowledged_by acknowledge part change z = z +ℤ part

-- a change field: its count less what was acknowledged
abbrev pub change_of : ℕ → ℤ → ℤ
change_of count acknowledged = pos count -ℤ acknowledged

-- what a call leaves, once each account has heard it
abbrev pub heard_by : TrackerCall → Sheet → WriterAccounts → Writers → WriterAccounts
heard_by c s acc after =
    record {
      at = after;
      moves = λ g. acc.moves g + bit (moved_at acc.at after g);
      last = last_in acc.at after acc.last;
      lost = lost_by c (expired_in acc.at after) acc.lost;
      acknowledged_alive =
          acknowledged_by c (to_z w32 s.first) (change_of (alive_among acc.at) acc.acknowledged_alive)
          acc.acknowledged_alive;
      acknowledged_not_alive =
          acknowledged_by c (to_z w32 s.second) (change_of (not_alive_among acc.at) acc.acknowledged_not_alive)
          acc.acknowledged_not_alive;
    }

-- a call that the writers see, or none
abbrev pub hear : Option TrackerCall → Sheet → WriterAccounts → WriterAccounts
hear none s acc = acc
hear (some c) s acc = heard_by c s acc (writers_after c s acc.at)
