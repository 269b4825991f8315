-- Laws of `all_zero`.
--     all_zero-zeros         it holds of zeros
--     zeros-all_zero         what it holds of is zeros
--     all_zero-append        it holds of two parts where it holds of each
use mathlib.Core.Path.{◌≡◌, refl, sym, ap}
use mathlib.Core.Bool.{true, ◌&&◌, and_assoc}
use mathlib.Core.List.{List, [], ◌∷◌, ◌++◌}
use Prim.Native.Nat.{ℕ, zero, suc}
use lib.Dec.{eqb, eqb-suc-zero}
use lib.ListN.{length, replicate}
use native.Mathlib.Omega.{arith}
use Rattle.octets.specs.Zeros.{all_zero}

pub all_zero-zeros : (n : ℕ) → all_zero (replicate n 0) ≡ true
unfolding all_zero
all_zero-zeros zero = refl
all_zero-zeros (suc n) = all_zero-zeros n

pub zeros-all_zero : (bs : List ℕ) → all_zero bs ≡ true → bs ≡ replicate (length bs) 0
unfolding all_zero
zeros-all_zero [] h = refl
zeros-all_zero (zero ∷ bs) h = ap (λ (l : List ℕ). 0 ∷ l) (zeros-all_zero bs h)
zeros-all_zero (suc b ∷ bs) h = let z : ◌≡◌ {A = ℕ} 0 1 = cc (rw (eqb-suc-zero b) at h) in absurd (omega arith)

pub all_zero-append : (xs ys : List ℕ) → all_zero (xs ++ ys) ≡ (all_zero xs && all_zero ys)
unfolding all_zero
all_zero-append [] ys = refl
all_zero-append (x ∷ xs) ys = rw (all_zero-append xs ys) (sym (and_assoc (eqb x 0) (all_zero xs) (all_zero ys)))
