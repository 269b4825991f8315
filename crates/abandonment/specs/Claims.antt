-- What is claimed, of the pens and the writers as they read after a list of calls.
use Rattle.std.specs.Prelude.{ℕ, ◌+◌, ◌<◌, ◌≤◌, Bool, true, false, List, ◌≡◌, eqb}
use Rattle.std.proofs.Math.Option.{Option, some}
use Rattle.octets.specs.Bounds.{Bytes}
use Rattle.octets.specs.Lay.{All}
use Rattle.model.specs.declared.Guid.{Guid}
use Rattle.model.specs.declared.Instance.{Instance}
use Rattle.model.specs.declared.InstanceStateKind.TheVariants.{Alive, NotAliveNoWriters}
use Rattle.model.specs.declared.Writer.{Writer}
use Rattle.model.specs.declared.WriterState.TheVariants.{Alive as alive_writer}
use Rattle.model.specs.Call.{Left}
use Rattle.model.specs.Guids.{same}
use Rattle.model.specs.Instances.{writers_in, has_key}
use Rattle.model.specs.Sets.{has}
use Rattle.model.specs.Sheets.{sheet_of}
use Rattle.model.specs.State.{Lent, state_of, fresh}
use Rattle.model.specs.Tables.{find}
use Rattle.accounts.specs.Accounts.{accounts_of, advance, Lending, SheetBytes, event_of, next, final, history}
use Rattle.accounts.specs.InstanceAccounts.{Event}
use Rattle.accounts.specs.WriterAccounts.{alive_in}
use Rattle.abandonment.specs.Standing.{standing}
use Rattle.abandonment.specs.Console.{Keeps}
use Rattle.abandonment.specs.Causes.{is_abandoned, causes}

-- the instance k in the pens
abbrev pub pen_of : Guid → Lent → Option Instance
pen_of k l = find (has_key k) (state_of l).instances

abbrev pub has_guid : Guid → Writer → Bool
has_guid g w = same w.guid g

-- the record of the writer g
abbrev pub writer_of : Guid → Lent → Option Writer
writer_of g l = find (has_guid g) (state_of l).writers

-- k is there, alive, and g is in its set
pub record Written (k g : Guid) (l : Lent) : Type 0 where
  pub pen : Instance
  pub there : pen_of k l ≡ some pen
  pub alive : pen.state.life.kind ≡ Alive
  pub writes : has g (writers_in pen.state) ≡ true

-- some writer stands for k
pub record Someone (k : Guid) (h : List Event) : Type 0 where
  pub writer : Guid
  pub stands : standing k writer h ≡ true

-- no writer stands for k
abbrev pub NoOne : Guid → List Event → Type 0
NoOne k h = (g : Guid) → standing k g h ≡ false

-- of the history h of a list, and of what it leaves
abbrev pub NoFalseAbandonment : List Event → Lent → Type 0
NoFalseAbandonment h l = (k g : Guid) → standing k g h ≡ true → Written k g l

abbrev pub NoMissedAbandonment : List Event → Lent → Type 0
NoMissedAbandonment h l = (k : Guid) (x : Instance) → pen_of k l ≡ some x → x.state.life.kind ≡ Alive → Someone k h

-- so an instance that is there is shown without writers exactly if no writer stands
pub record ExactlyShown (k : Guid) (x : Instance) (h : List Event) : Type 0 where
  pub only : x.state.life.kind ≡ NotAliveNoWriters → NoOne k h
  pub if : NoOne k h → x.state.life.kind ≡ NotAliveNoWriters

abbrev pub ShownIfNoOne : List Event → Lent → Type 0
ShownIfNoOne h l = (k : Guid) (x : Instance) → pen_of k l ≡ some x → ExactlyShown k x h

abbrev pub SetIsWhoStands : List Event → Lent → Type 0
SetIsWhoStands h l = (k g : Guid) (x : Instance) → pen_of k l ≡ some x → has g (writers_in x.state) ≡ standing k g h

-- `call` is what a call of a sheet answers and leaves
module _ (places : ℕ) (call : List ℕ → Lent → Left) where
  -- a list from fresh, its history and what it leaves
  abbrev pub ran : List Lending → List ℕ → List Event
  ran is out = history call is (fresh places out)

  abbrev pub left : List Lending → List ℕ → Lent
  left is out = final call is (fresh places out)

  -- a claim on every list of a console that keeps its instances by joined calls
  abbrev pub OnEvery : (List Event → Lent → Type 0) → Type 0
  OnEvery claim = (is : List Lending) (out : List ℕ) → All SheetBytes is → Keeps (ran is out) → claim (ran is out) (left is out)

  -- one more call after a list
  abbrev pub after : Lending → List Lending → List ℕ → Left
  after i is out = next call i (left is out)

  abbrev pub last_event : Lending → List Lending → List ℕ → Event
  last_event i is out = event_of i.sheet (after i is out).answer

  -- after an accepted lapse at clock A every writer that is alive, with a lease, has the clock before its last assertion
  -- and its lease: so has every one that stands
  abbrev pub LapseLeavesNone : Type 0
  LapseLeavesNone =
      (is : List Lending) (out : List ℕ) (i : Lending) → All SheetBytes is → Bytes i.sheet →
      eqb (after i is out).answer.number 0 ≡ true → eqb (sheet_of i.sheet).code 49 ≡ true →
      (g : Guid) (w : Writer) → writer_of g (after i is out).lent ≡ some w → w.liveliness.state ≡ alive_writer →
      w.liveliness.lease.present ≡ true →
      (sheet_of i.sheet).a < w.liveliness.last_assertion + w.liveliness.lease.nanos

  -- an accepted lapse at clock A takes nobody out early: who is alive before it and not after it has a lease, and the
  -- clock is at its last assertion and its lease, or later
  abbrev pub LapseTakesNoneEarly : Type 0
  LapseTakesNoneEarly =
      (is : List Lending) (out : List ℕ) (i : Lending) → All SheetBytes is → Bytes i.sheet →
      eqb (after i is out).answer.number 0 ≡ true → eqb (sheet_of i.sheet).code 49 ≡ true →
      (g : Guid) (w v : Writer) → writer_of g (left is out) ≡ some w → w.liveliness.state ≡ alive_writer →
      writer_of g (after i is out).lent ≡ some v → alive_in v.liveliness.state ≡ false →
      (w.liveliness.lease.present ≡ true)
      × (w.liveliness.last_assertion + w.liveliness.lease.nanos ≤ (sheet_of i.sheet).a)

  -- for every list, whatever its calls: an alive instance is shown without writers after the next call exactly if that
  -- call is a cause
  abbrev pub ExactCauses : Type 0
  ExactCauses =
      (is : List Lending) (out : List ℕ) (i : Lending) → All SheetBytes is → Bytes i.sheet →
      (k : Guid) (x : Instance) → pen_of k (left is out) ≡ some x → x.state.life.kind ≡ Alive →
      is_abandoned (pen_of k (after i is out).lent)
      ≡ causes (last_event i is out) (accounts_of (ran is out)).writers.at
      (advance (last_event i is out) (accounts_of (ran is out))).writers.at x

-- all of it
pub record Abandonment (places : ℕ) (call : List ℕ → Lent → Left) : Type 0 where
  pub no_false : OnEvery places call NoFalseAbandonment
  pub no_missed : OnEvery places call NoMissedAbandonment
  pub shown_if_no_one : OnEvery places call ShownIfNoOne
  pub set_is_who_stands : OnEvery places call SetIsWhoStands
  pub lapse_leaves_none : LapseLeavesNone places call
  pub lapse_takes_none_early : LapseTakesNoneEarly places call
  pub exact_causes : ExactCauses places call
