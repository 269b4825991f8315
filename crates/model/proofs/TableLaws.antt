-- Laws of the tables of model, for any records.
--     length-sift     a turn leaves no more than there were
--     all-put         what holds of every record holds with one put in
use mathlib.Core.Bool.{Bool, true, false, cond}
use mathlib.Core.List.{List, [], ◌∷◌}
use mathlib.Core.Option.{Option, none, some}
use Prim.Native.Nat.{ℕ, suc, ◌≤◌}
use native.Mathlib.Omega.{arith}
use lib.Dec.{eqb, ltb}
use lib.ListN.{length}
use Rattle.octets.specs.Lay.{All}
use Rattle.model.specs.Tables.{sift, kept, put}

module _ {A : Type 0} where
  length-kept : (o : Option A) (xs : List A) → length (kept o xs) ≤ suc (length xs)
  length-kept none xs = omega arith
  length-kept (some y) xs = omega arith

  pub length-sift : (f : A → Option A) (xs : List A) → length (sift f xs) ≤ length xs
  unfolding sift
  length-sift f [] = omega arith
  length-sift f (x ∷ xs) = omega (arith, length-kept (f x) (sift f xs), length-sift f xs)

module _ {A : Type 0} (key : A → ℕ) where
  pub all-put : (P : A → Type 0) (y : A) (xs : List A) → P y → All P xs → All P (put key y xs)
  unfolding put
  all-put P y [] p a = (p, tt)
  all-put P y (x ∷ xs) p a = by (ltb (key x) (key y)) (eqb (key x) (key y)) (all-put P y xs p a.1)
    where
      by : (b c : Bool) → All P (put key y xs) → All P (cond b (x ∷ put key y xs) (cond c (y ∷ xs) (y ∷ x ∷ xs)))
      by true c r = (a.0, r)
      by false true r = (p, a.1)
      by false false r = (p, a)
