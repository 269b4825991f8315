-- After an accepted lapse no writer that is alive has its lease run out, and who is alive no more had its lease run out.
--     lapse_leaves_none, lapse_takes_none_early
use mathlib.Core.Bool.{Bool, true, false, ◌&&◌}
use mathlib.Core.List.{List}
use mathlib.Core.Option.{Option, none, some}
use mathlib.Core.Path.{◌≡◌, refl, sym, ap, ◌∙◌}
use Prim.Native.Nat.{ℕ, ◌+◌, ◌<◌, ◌≤◌}
use borrow.Author.Tests.{eqb-true, leb-true, leb-false}
use lib.Dec.{eqb}
use Rattle.octets.specs.Lay.{All}
use Rattle.model.specs.declared.Guid.{Guid}
use Rattle.model.specs.declared.Writer.{Writer}
use Rattle.model.specs.declared.WriterState.TheVariants.{Alive, NotAlive}
use Rattle.model.specs.Call.{call_in}
use Rattle.model.specs.declared.JoinedCall.TheVariants.{Lapse as lapse}
use Rattle.model.specs.Calls.{joined, calls, amongst, call_of_code}
use Rattle.model.specs.Guids.{num}
use Rattle.model.specs.Sheets.{sheet_of}
use Rattle.model.specs.State.{Lent, State, state_of, writer_key}
use Rattle.model.proofs.StateLaws.{read_back}
use Rattle.model.proofs.Tests.{both, split}
use Rattle.accounts.specs.Accounts.{Accounts, accepted, advance, accounts_of, Lending, SheetBytes}
use Rattle.accounts.specs.InstanceAccounts.{Event}
use Rattle.accounts.specs.WriterAccounts.{alive_in, run_out, became, lapses, writers_after}
use Rattle.accounts.proofs.Basics.{never, missing}
use Rattle.accounts.proofs.Demand3.{After, after-fresh}
use Rattle.accounts.proofs.InStep.{held_fits}
use Rattle.accounts.proofs.TurnLaws.{lookup}
use Rattle.abandonment.specs.Claims.{writer_of, ran, left, after, last_event, LapseLeavesNone, LapseTakesNoneEarly}
use Rattle.abandonment.proofs.Abandonment.{after_one}

-- ---- one account

in-time : (clock : ℕ) (v : Writer) → run_out clock v ≡ false → v.liveliness.state ≡ Alive →
    v.liveliness.lease.present ≡ true → clock < v.liveliness.last_assertion + v.liveliness.lease.nanos
in-time clock v r a p =
    leb-false (v.liveliness.last_assertion + v.liveliness.lease.nanos) clock
    (tests (ap alive_in a) p r)
  where
    tests : {x y z : Bool} → x ≡ true → y ≡ true → (x && (y && z)) ≡ false → z ≡ false
    tests {z = z} d f g = rw (d, f) at g

lapsed : (clock : ℕ) (o : Option Writer) (w : Writer) → lapses clock o ≡ some w → w.liveliness.state ≡ Alive →
    w.liveliness.lease.present ≡ true → clock < w.liveliness.last_assertion + w.liveliness.lease.nanos
unfolding lapses
lapsed clock none w e a p = missing e
lapsed clock (some v) w e a p =
    split (run_out clock v)
    (λ r.
    let q : some (became NotAlive v.liveliness.last_assertion v) ≡ some w = rw r at e in
    let s : became NotAlive v.liveliness.last_assertion v ≡ w = cc in
    never (sym (ap alive_in a) ∙ sym (ap (λ (u : Writer). alive_in u.liveliness.state) s)))
    (λ r.
    let q : some v ≡ some w = rw r at e in
    let s : v ≡ w = cc in
    in-time clock w (ap (run_out clock) (sym s) ∙ r) a p)

-- the lease of w has run out at the clock
abbrev Due : ℕ → Writer → Type 0
Due clock w =
    (w.liveliness.lease.present ≡ true) × (w.liveliness.last_assertion + w.liveliness.lease.nanos ≤ clock)

due : (clock : ℕ) (w : Writer) → run_out clock w ≡ true → Due clock w
due clock w r =
    let alive = both (alive_in w.liveliness.state) _ r in
    let leased = both w.liveliness.lease.present _ alive.1 in
    (leased.0, leb-true (w.liveliness.last_assertion + w.liveliness.lease.nanos) clock leased.1)

taken_out : (clock : ℕ) (w v : Writer) → lapses clock (some w) ≡ some v → w.liveliness.state ≡ Alive →
    alive_in v.liveliness.state ≡ false → Due clock w
unfolding lapses
taken_out clock w v e a n =
    split (run_out clock w) (λ r. due clock w r)
    (λ r.
    let q : some w ≡ some v = rw r at e in
    let s : w ≡ v = cc in
    never (sym (ap alive_in a) ∙ ap (λ (u : Writer). alive_in u.liveliness.state) s ∙ n))

-- ---- the writers as they read

pub writers_are : (places : ℕ) (l : Lent) (acc : Accounts) → After places l acc → (g : Guid) →
    writer_of g l ≡ acc.writers.at (num g)
writers_are places l acc m g =
    ap (λ (st : State). lookup writer_key (num g) st.writers)
    (ap state_of m.laid ∙ read_back places m.state l.out (held_fits places m.state acc m.held))
    ∙ m.held.sim.writers.agree (num g)

accepted-lapse : (e : Event) → eqb e.number 0 ≡ true → eqb e.sheet.code 49 ≡ true → accepted e ≡ some (joined lapse)
accepted-lapse e z d = rw (z, eqb-true e.sheet.code 49 d) coded
  where
    coded : call_of_code 49 ≡ some (joined lapse)
    coded = unfold call_of_code amongst calls in refl

heard-lapse : (e : Event) (acc : Accounts) (g : ℕ) → accepted e ≡ some (joined lapse) →
    (advance e acc).writers.at g ≡ lapses e.sheet.a (acc.writers.at g)
unfolding advance writers_after
heard-lapse e acc g d = rw d

module _ (places : ℕ) (is : List Lending) (out : List ℕ) (i : Lending) (b : All SheetBytes is) (bytes : SheetBytes i) where
  abbrev acc : Accounts
  acc = accounts_of (ran places (call_in places) is out)

  abbrev e : Event
  e = last_event places (call_in places) i is out

  before-lapse : (g : Guid) → writer_of g (left places (call_in places) is out) ≡ acc.writers.at (num g)
  before-lapse g = writers_are places _ _ (after-fresh places is out b) g

  after-lapse : eqb e.number 0 ≡ true → eqb e.sheet.code 49 ≡ true → (g : Guid) →
      writer_of g (after places (call_in places) i is out).lent ≡ lapses e.sheet.a (acc.writers.at (num g))
  after-lapse ok code g =
      writers_are places _ _ one g ∙ heard-lapse e acc (num g) (accepted-lapse e ok code)
    where
      one : After places (after places (call_in places) i is out).lent (advance e acc)
      one = after_one places i (left places (call_in places) is out) acc bytes (after-fresh places is out b)

pub lapse_leaves_none : (places : ℕ) → LapseLeavesNone places (call_in places)
lapse_leaves_none places is out i b bytes ok code g w there alive leased =
    lapsed (sheet_of i.sheet).a ((acc places is out i b bytes).writers.at (num g)) w
    (sym (after-lapse places is out i b bytes ok code g) ∙ there) alive leased

pub lapse_takes_none_early : (places : ℕ) → LapseTakesNoneEarly places (call_in places)
lapse_takes_none_early places is out i b bytes ok code g w v was alive there gone =
    taken_out clock w v
    (ap (lapses clock) (sym was ∙ before-lapse places is out i b bytes g) ∙ sym (after-lapse places is out i b bytes ok code g) ∙ there)
    alive gone
  where
    clock : ℕ
    clock = (sheet_of i.sheet).a
