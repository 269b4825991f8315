-- Section 6, the two accounts together, over a list of calls; and demand 3's claim on it.
use Rattle.std.specs.Prelude.{ℕ, ◌+◌, ◌%◌, ◌^◌, ◌≡◌, cond, List, [], ◌∷◌, eqb, length}
use Rattle.std.proofs.Math.Option.{Option, none, some}
use Rattle.octets.specs.Bounds.{Bytes}
use Rattle.octets.specs.Lay.{All}
use Rattle.model.specs.declared.Answer.{Answer}
use Rattle.model.specs.declared.Guid.{Guid}
use Rattle.model.specs.declared.Instance.{Instance}
use Rattle.model.specs.declared.Sheet.{Sheet}
use Rattle.model.specs.declared.Writer.{Writer}
use Rattle.model.specs.Call.{Left, lent_of}
use Rattle.model.specs.declared.TrackerCall.{TrackerCall}
use Rattle.model.specs.declared.JoinedCall.{JoinedCall}
use Rattle.model.specs.declared.TrackerCall.TheVariants.{Unmatched as unmatched, LostWithParticipant as lost_with_participant, Expire as expire}
use Rattle.model.specs.declared.JoinedCall.TheVariants.{Admit as admit, Lapse as lapse, Part as part, Depart as depart}
use Rattle.model.specs.Calls.{Call, instances, tracker, joined, call_of_code}
use Rattle.model.specs.Handles.{handle}
use Rattle.model.specs.Sheets.{sheet_of}
use Rattle.model.specs.State.{Lent, pens_of, writers_of, lost_of, fresh}
use Rattle.accounts.specs.InstanceAccounts.{Event, InstanceAccounts, no_instances, reach}
use Rattle.accounts.specs.Ranges.{bound, sum_over, present, up_from}
use Rattle.accounts.specs.WriterAccounts.{WriterAccounts, no_writers, hear, expired_in, alive_among, not_alive_among, change_of}

-- ---- what the accounts are fed

-- refused calls are skipped
abbrev pub accepted : Event → Option Call
accepted e = cond (eqb e.number 0) (call_of_code e.sheet.code) none

-- writers see 49, 50 and 51 as 37, 33 and 34
abbrev pub seen_joined : JoinedCall → Option TrackerCall
seen_joined admit = none
seen_joined lapse = some expire
seen_joined part = some unmatched
seen_joined depart = some lost_with_participant

-- the tracker call that writers see in a call
abbrev pub seen_as : Call → Option TrackerCall
seen_as (instances c) = none
seen_as (tracker c) = some c
seen_as (joined c) = seen_joined c

-- none where the call was refused
abbrev pub seen : Option Call → Option TrackerCall
seen none = none
seen (some c) = seen_as c

-- code 49 takes its writers from the writer accounts, those that this call expired; codes 50 and 51 have the GUID named
abbrev pub gone_joined : JoinedCall → Sheet → List Guid → List Guid
gone_joined admit s expired = []
gone_joined lapse s expired = expired
gone_joined part s expired = s.guid ∷ []
gone_joined depart s expired = s.guid ∷ []

-- no other call has writers gone
abbrev pub gone_by : Call → Sheet → List Guid → List Guid
gone_by (instances c) s expired = []
gone_by (tracker c) s expired = []
gone_by (joined c) s expired = gone_joined c s expired

-- none where the call was refused
abbrev pub gone : Option Call → Sheet → List Guid → List Guid
gone none s expired = []
gone (some c) s expired = gone_by c s expired

-- ---- both accounts, fed one event after the other

-- the two accounts
pub record Accounts : Type 0 where
  pub writers : WriterAccounts
  pub instances : InstanceAccounts

-- both start absent
abbrev pub absent : Accounts
absent = record { writers = no_writers; instances = no_instances }

-- the instances hear a call after the writers, for code 49
abbrev pub advance_by : Option Call → Event → Accounts → WriterAccounts → Accounts
advance_by c e acc after =
    record {
      writers = after;
      instances = reach c e (gone c e.sheet (expired_in acc.writers.at after.at))
          acc.instances;
    }

-- one event
unfoldable pub advance : Event → Accounts → Accounts
advance e acc = advance_by (accepted e) e acc (hear (seen (accepted e)) e.sheet acc.writers)

-- a list of events, in order
unfoldable pub accounts_from : List Event → Accounts → Accounts
accounts_from [] acc = acc
accounts_from (e ∷ h) acc = accounts_from h (advance e acc)

-- the accounts of a list of events, from absent
unfoldable pub accounts_of : List Event → Accounts
accounts_of h = accounts_from h absent

-- ---- the list of calls: any sheet and any Out, each call lent what the one before left

-- what is lent anew to a call
pub record Lending : Type 0 where
  pub sheet : List ℕ
  pub out : List ℕ

-- what the call before left, with the Out of this one
abbrev pub with_out : List ℕ → Lent → Lent
with_out out l = lent_of l.head l.pens l.writers l.lost out

-- what the accounts are fed of a call
abbrev pub event_of : List ℕ → Answer → Event
event_of sheet a =
    record { sheet = sheet_of sheet; number = a.number; handle = a.handle.0; outcome = a.outcome }

-- `call` is what a call of a sheet answers and leaves
module _ (call : List ℕ → Lent → Left) where
  -- the answer to the next of the list, and what it leaves
  abbrev pub next : Lending → Lent → Left
  next i l = call i.sheet (with_out i.out l)

  -- what the list leaves in the end
  unfoldable pub final : List Lending → Lent → Lent
  final [] l = l
  final (i ∷ is) l = final is (next i l).lent

  -- what the accounts are fed of it
  unfoldable pub history : List Lending → Lent → List Event
  history [] l = []
  history (i ∷ is) l = event_of i.sheet (next i l).answer ∷ history is (next i l).lent

-- a sheet has bytes as elements
abbrev pub SheetBytes : Lending → Type 0
SheetBytes i = Bytes i.sheet

-- ---- the claim: the final head and buffers are those of the accounts, byte for byte and field by field

-- exactly the accounts not absent, rising
unfoldable pub instances_in : Accounts → List Instance
instances_in acc = present 0 bound acc.instances.at

-- the writers not absent, rising
unfoldable pub writers_in : Accounts → List Writer
writers_in acc = present 0 bound acc.writers.at

-- what is claimed of the final head and buffers
pub record Told (places : ℕ) (l : Lent) (acc : Accounts) : Type 0 where
  -- the head says the number of places that was set when it was fresh
  pub figure : l.head.places ≡ places
  -- pens and writers hold, in section 2's layout, exactly the accounts not absent
  pub pens : l.pens ≡ pens_of places (instances_in acc)
  pub writers : l.writers ≡ writers_of (writers_in acc)
  pub lost : l.lost ≡ lost_of acc.writers.lost
  -- the three counts number these and Lost
  pub instance_count : l.head.instance_count ≡ length (instances_in acc)
  pub writer_count : l.head.writer_count ≡ length (writers_in acc)
  pub lost_count : l.head.lost_count ≡ length acc.writers.lost
  -- the GUIDs in each class, and each count less what was acknowledged
  pub alive : l.head.alive ≡ alive_among acc.writers.at
  pub not_alive : l.head.not_alive ≡ not_alive_among acc.writers.at
  pub alive_change : l.head.alive_change ≡ change_of (alive_among acc.writers.at) acc.writers.acknowledged_alive
  pub not_alive_change :
      l.head.not_alive_change ≡ change_of (not_alive_among acc.writers.at) acc.writers.acknowledged_not_alive
  pub last_writer : l.head.last_writer ≡ acc.writers.last
  -- all class moves of all GUIDs
  pub changes : l.head.changes ≡ sum_over 0 bound acc.writers.moves % 2 ^ 64
  -- started handles are 1, 2, 3 and on; next handle is the one to come
  pub started_handles : acc.instances.handles ≡ up_from 1 (length acc.instances.handles)
  pub next_handle : l.head.next_handle ≡ handle (1 + length acc.instances.handles)

-- demand 3: whatever the list, from the fresh head and buffers
abbrev pub Demand3 : ℕ → (List ℕ → Lent → Left) → Type 0
Demand3 places call =
    (is : List Lending) (out : List ℕ) → All SheetBytes is →
    Told places (final call is (fresh places out)) (accounts_of (history call is (fresh places out)))
