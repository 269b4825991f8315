-- All claims, with either number of places.
--     abandonment; abandonment_32, abandonment_128
--     free_keeps      which lists are a console's, whatever is answered
use mathlib.Core.Bool.{true}
use mathlib.Core.List.{List, [], ◌∷◌}
use mathlib.Core.Path.{◌≡◌, refl}
use Prim.Native.Nat.{ℕ}
use Rattle.octets.specs.Lay.{All}
use Rattle.model.specs.Call.{call_in, call_of}
use Rattle.model.specs.State.{Lent, figure_ok}
use Rattle.accounts.specs.Accounts.{Accounts, absent, advance}
use Rattle.accounts.specs.InstanceAccounts.{Event}
use Rattle.accounts.proofs.Runs.{left_in, told_in, after-in}
use Rattle.abandonment.specs.Standing.{Stand, nobody}
use Rattle.abandonment.specs.Console.{among, free, stands_after, KeepsFrom, Keeps}
use Rattle.abandonment.specs.Claims.{OnEvery, NoFalseAbandonment, NoMissedAbandonment, ShownIfNoOne, SetIsWhoStands, Abandonment}
use Rattle.abandonment.proofs.Abandonment.{no_false_abandonment, no_missed_abandonment, shown_if_no_one, set_is_who_stands}
use Rattle.abandonment.proofs.CausesExact.{exact_causes}
use Rattle.abandonment.proofs.Lapse.{lapse_leaves_none, lapse_takes_none_early}

-- from `call_in` for a figure to `call_of`: what a list leaves, its history and the call after it are the same
module _ (places : ℕ) (ok : figure_ok places ≡ true) where
  on_every_lem : (claim : List Event → Lent → Type 0) → OnEvery places (call_in places) claim → OnEvery places call_of claim
  on_every_lem claim c is out b = rw (told_in places ok is out, left_in places ok is out) (c is out b)

  pub abandonment : Abandonment places call_of
  abandonment =
      record {
        no_false = on_every_lem NoFalseAbandonment (no_false_abandonment places);
        no_missed = on_every_lem NoMissedAbandonment (no_missed_abandonment places);
        shown_if_no_one = on_every_lem ShownIfNoOne (shown_if_no_one places);
        set_is_who_stands = on_every_lem SetIsWhoStands (set_is_who_stands places);
        lapse_leaves_none = λ is out i b c. rw (after-in places ok is out i) (lapse_leaves_none places is out i b c);
        lapse_takes_none_early = λ is out i b c.
            rw (after-in places ok is out i, left_in places ok is out) (lapse_takes_none_early places is out i b c);
        exact_causes = λ is out i b c.
            rw (after-in places ok is out i, left_in places ok is out, told_in places ok is out) (exact_causes places is out i b c);
      }

pub abandonment_32 : Abandonment 32 call_of
abandonment_32 = abandonment 32 refl

pub abandonment_128 : Abandonment 128 call_of
abandonment_128 = abandonment 128 refl

-- ---- not vacuous: a list of codes 11 to 21, 32 to 40 and 48 to 51 alone is a console's, whatever its answers

abbrev Free : Event → Type 0
Free e = among e.sheet.code ≡ true

free-from : (h : List Event) (acc : Accounts) (stands : ℕ → Stand) → All Free h → KeepsFrom h acc stands
unfolding KeepsFrom
free-from [] acc stands a = tt
free-from (e ∷ h) acc stands a = (free a.0, free-from h (advance e acc) (stands_after e acc stands) a.1)

pub free_keeps : (h : List Event) → All Free h → Keeps h
free_keeps h a = free-from h absent (λ k. nobody) a
