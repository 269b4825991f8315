-- The head of a state in step with accounts fits its 64 bytes.
--     head_fits        so it does, where the last writer does
--     last_fits        which it does after every call that the accounts hear
use Prim.Native.Nat.{ℕ, zero, suc, ◌*◌, ◌/◌, ◌^◌, ◌≤◌, ◌<◌}
use mathlib.Core.Bool.{Bool}
use mathlib.Core.Option.{Option, none, some}
use native.Mathlib.Nat.{div-lt_iff_lt-mul}
use native.Mathlib.Omega.{arith}
use lib.ListN.{length}
use Rattle.model.specs.declared.Sheet.{Sheet}
use Rattle.model.specs.declared.TrackerCall.{TrackerCall}
use Rattle.model.specs.State.{State, head_of, counts_alive, counts_not_alive, alive_count, not_alive_count, LastWriter}
use Rattle.model.specs.Tables.{pick}
use Rattle.model.proofs.Fits.{FitsGuid}
use Rattle.numbers.proofs.Signs.{change_fits}
use Rattle.accounts.specs.Accounts.{Accounts, advance, accepted, seen}
use Rattle.accounts.specs.InstanceAccounts.{Event}
use Rattle.accounts.specs.Ranges.{bound, guid_numbered, greatest}
use Rattle.accounts.specs.WriterAccounts.{WriterAccounts, writers_after, moved_at, last_or, last_in, hear}
use Rattle.accounts.proofs.Basics.{either}
use Rattle.accounts.proofs.InStep.{InStep}
use Rattle.accounts.proofs.TurnLaws.{length-pick}
use Rattle.boundary.specs.Layouts.{last_guid}
use Rattle.boundary.proofs.HeadLaws.{FitsHead}

-- ---- the last writer is a GUID of sixteen bytes

abbrev pub LastFits : LastWriter → Type 0
LastFits last = FitsGuid (last_guid last)

high_below : (b n : ℕ) → 0 < b → n < b * b → n / b < b
high_below b n p h = (div-lt_iff_lt-mul {k = b} {x = n} {y = b} p).1 h

numbered_fits : (n : ℕ) → n < bound → FitsGuid (guid_numbered n)
unfolding bound guid_numbered
numbered_fits n h = record { high = high_below (2 ^ 64) n (omega arith) h; low = omega arith }

abbrev Below : ℕ → Option ℕ → Type 0
Below n none = Unit {0}
Below n (some g) = g < n

below_more : (n : ℕ) (o : Option ℕ) → Below n o → Below (suc n) o
below_more n none b = tt
below_more n (some g) b = omega arith

greatest-below : (n : ℕ) (p : ℕ → Bool) → Below n (greatest n p)
unfolding greatest
greatest-below zero p = tt
greatest-below (suc n) p =
    either (Below (suc n)) (p n) (some n) (greatest n p) (λ e. omega arith) (λ e. below_more n (greatest n p) (greatest-below n p))

or_fits : (o : Option ℕ) (last : LastWriter) → Below bound o → LastFits last → LastFits (last_or o last)
or_fits none last b f = f
or_fits (some g) last b f = numbered_fits g b

heard_fits : (o : Option TrackerCall) (s : Sheet) (acc : WriterAccounts) → LastFits acc.last → LastFits (hear o s acc).last
unfolding last_in
heard_fits none s acc f = f
heard_fits (some c) s acc f =
    or_fits (greatest bound (moved_at acc.at (writers_after c s acc.at))) acc.last
    (greatest-below bound (moved_at acc.at (writers_after c s acc.at))) f

pub last_fits : (e : Event) (acc : Accounts) → LastFits acc.writers.last → LastFits (advance e acc).writers.last
unfolding advance
last_fits e acc f = heard_fits (seen (accepted e)) e.sheet acc.writers f

-- ---- the head

pub head_fits : (places : ℕ) → places ≤ 128 → (st : State) (acc : Accounts) → InStep places st acc → LastFits acc.writers.last → FitsHead (head_of places st)
unfolding head_of alive_count not_alive_count
head_fits places most st acc m f =
    let a : length (pick counts_alive st.writers) ≤ 128 = omega (arith, length-pick counts_alive st.writers, m.writers.few) in
    let n : length (pick counts_not_alive st.writers) ≤ 128 = omega (arith, length-pick counts_not_alive st.writers, m.writers.few) in
    record {
      instances = omega (arith, m.instances.few);
      writers = omega (arith, m.writers.few);
      lost = omega (arith, m.writers.few_lost);
      alive = omega arith;
      not_alive = omega arith;
      alive_change = change_fits (length (pick counts_alive st.writers)) st.acknowledged_alive a m.writers.near_alive;
      not_alive_change = change_fits (length (pick counts_not_alive st.writers)) st.acknowledged_not_alive n m.writers.near_not_alive;
      next = omega (arith, m.instances.high);
      changes = let e = m.sim.writers.changes in omega arith;
      places = omega (arith, most);
      last = rw m.sim.writers.last f;
    }
