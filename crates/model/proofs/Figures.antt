-- The figure: the number of instance places that a head says (02, ticket 5).
--     figure-few           it is at most 128
--     figure-in            the length of a table tells one of the two
--     places-in            and tells the one that a table was laid out for
--     another_figure       another is refused as 3, whatever else is lent
--     call-in              a call on a head with a figure is `call_in` for it
--     in_kept, figure-kept      every call keeps it
use Prim.Native.Nat.{ℕ, ◌*◌, ◌≤◌}
use mathlib.Core.Bool.{Bool, true, false, cond}
use mathlib.Core.List.{List}
use mathlib.Core.Option.{Option, none, some}
use mathlib.Core.Path.{◌≡◌, refl}
use native.Mathlib.Omega.{arith}
use borrow.Author.Tests.{eqb-true}
use lib.Dec.{eqb}
use lib.ListN.{length}
use Rattle.model.specs.declared.Sheet.{Sheet}
use Rattle.model.specs.Call.{Left, refuse, turn, settle, judged, coded, call_in, call_of}
use Rattle.model.specs.Calls.{Call, call_of_code}
use Rattle.model.specs.InstanceCalls.{Turned}
use Rattle.model.specs.Refusals.{lengths_ok, sheet_refusal}
use Rattle.model.specs.Sheets.{sheet_of}
use Rattle.model.specs.State.{Lent, figure_ok, places_in, head_of, lay_out, state_of}
use Rattle.model.specs.WellFormed.{well_formed}
use Rattle.model.proofs.Tests.{split}

-- ---- the two figures

-- one or the other
data Figure (n : ℕ) : Type 0 where
  small : n ≡ 32 → Figure n
  large : n ≡ 128 → Figure n

figure : (n : ℕ) → figure_ok n ≡ true → Figure n
figure n e = split (eqb n 32) (λ s. small (eqb-true n 32 s)) (λ s. large (eqb-true n 128 (rw s at e)))

few : (n : ℕ) → Figure n → n ≤ 128
few n (small e) = omega (arith, e)
few n (large e) = omega (arith, e)

pub figure-few : (n : ℕ) → figure_ok n ≡ true → n ≤ 128
figure-few n e = few n (figure n e)

-- ---- by the length of a table

pub figure-in : (t : List ℕ) → figure_ok (places_in t) ≡ true
figure-in t = each (eqb (length t) 16384)
  where
    each : (b : Bool) → figure_ok (cond b 32 128) ≡ true
    each true = refl
    each false = refl

pub places-in : (n : ℕ) (t : List ℕ) → figure_ok n ≡ true → length t ≡ n * 512 → places_in t ≡ n
places-in n t e h = each n (figure n e) h
  where
    each : (n : ℕ) → Figure n → length t ≡ n * 512 → places_in t ≡ n
    each n (small s) h = let z : length t ≡ 16384 = omega (arith, s) in rw (z, s)
    each n (large s) h = let z : length t ≡ 65536 = omega (arith, s) in rw (z, s)

-- ---- calls

module _ (sheet : List ℕ) (l : Lent) where
  pub another_figure : figure_ok l.head.places ≡ false → call_of sheet l ≡ refuse 3 l
  unfolding call_of
  another_figure other = rw other

  pub call-in : (places : ℕ) → figure_ok places ≡ true → l.head.places ≡ places → call_of sheet l ≡ call_in places sheet l
  unfolding call_of
  call-in places ok e = rw (e, ok)

-- what is left has the figure
abbrev Has : ℕ → Left → Type 0
Has places r = r.lent.head.places ≡ places

module _ (places : ℕ) (l : Lent) (has : l.head.places ≡ places) where
  settle-has : (t : Turned) → Has places (settle places t l)
  unfolding settle lay_out head_of
  settle-has t = split (eqb t.answer.number 0) (λ e. rw e refl) (λ e. rw e has)

  judged-has : (c : Call) (s : Sheet) → Has places (judged places c s l)
  unfolding judged
  judged-has c s =
      split (eqb (sheet_refusal c s (state_of l)) 0) (λ e. rw e (settle-has (turn places c s (state_of l)))) (λ e. rw e has)

  coded-has : (o : Option Call) (s : Sheet) → Has places (coded places o s l)
  coded-has none s = has
  coded-has (some c) s = split (well_formed places l) (λ e. rw e (judged-has c s)) (λ e. rw e has)

  pub in_kept : (sheet : List ℕ) → Has places (call_in places sheet l)
  unfolding call_in
  in_kept sheet =
      split (lengths_ok places sheet l)
      (λ e. rw e (coded-has (call_of_code (sheet_of sheet).code) (sheet_of sheet)))
      (λ e. rw e has)

pub figure-kept : (sheet : List ℕ) (l : Lent) → (call_of sheet l).lent.head.places ≡ l.head.places
unfolding call_of
figure-kept sheet l =
    split (figure_ok l.head.places) (λ e. rw e (in_kept l.head.places l refl sheet)) (λ e. rw e)
