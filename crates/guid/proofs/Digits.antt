-- Numbers of two digits, h and l, to a base m. The base stays a variable, so that no proof computes with numbers of 128
-- bits.
--     digit_lt              the high digit decides
--     digit_high            the high digit is what division by the base gives
--     digits_div            division by a part of the base
--     digits-eq             equal numbers have equal digits
--     eqb_low, eqb_high     the test of two numbers is that of the low digits where the high ones agree, else false
--     ltb_low               the same of their order
--     eqb-digits, ltb-digits     the derived tests of two pairs of digits are those of the numbers
use mathlib.Core.Path.{◌≡◌, refl, sym, ap, ◌∙◌}
use mathlib.Core.Bool.{Bool, true, false, ◌&&◌, cond}
use Prim.Native.Nat.{ℕ, ◌+◌, ◌*◌, ◌/◌, ◌<◌}
use native.Mathlib.Nat.{le_of_lt, add-zero, suc-mul, mul_assoc, mul-le-mul_right, mul-add-div_right, div-eq_of_lt}
use native.Mathlib.Omega.{arith}
use lib.Dec.{eqb, ltb}
use Rattle.std.proofs.Common.{Some, Less, Equal, Greater}
use Rattle.std.specs.Ordering.{nat_cmp, is_lt, is_some_and, partial_ordering_then}
use borrow.Author.Tests.{eqb-true, eqb-false, ltb-true, ltb-false, eq-eqb, ne_eqb, lt-ltb, le-ltb}

module _ (m : ℕ) {h h' l : ℕ} (l' : ℕ) where
  pub digit_lt : l < m → h < h' → h * m + l < h' * m + l'
  digit_lt p q = omega (arith, mul-le-mul_right m q, suc-mul h m)

pub digit_high : (m h l : ℕ) → l < m → (h * m + l) / m ≡ h
digit_high m h l p = mul-add-div_right (omega arith) h l ∙ rw (div-eq_of_lt p) (add-zero h)

pub digits_div : (m k h l : ℕ) → 0 < k → (h * (m * k) + l) / k ≡ h * m + l / k
digits_div m k h l p = rw (← mul_assoc h m k) (mul-add-div_right p (h * m) l)

module _ (m h h' l l' : ℕ) where
  pub digits-eq : l < m → l' < m → h * m + l ≡ h' * m + l' → (h ≡ h') × (l ≡ l')
  digits-eq p p' e =
      let q : h ≡ h' = sym (digit_high m h l p) ∙ ap (λ (k : ℕ). k / m) e ∙ digit_high m h' l' p' in
      (q, omega (arith, ap (λ (k : ℕ). k * m) q))

  pub eqb_high : l < m → l' < m → (h ≡ h' → ⊥) → eqb (h * m + l) (h' * m + l') ≡ false
  eqb_high p p' n = ne_eqb (h * m + l) (h' * m + l') (λ e. n (digits-eq p p' e).0)

  pub eqb_low : h ≡ h' → eqb (h * m + l) (h' * m + l') ≡ eqb l l'
  eqb_low e = each (eqb l l') refl
    where
      each : (t : Bool) → eqb l l' ≡ t → eqb (h * m + l) (h' * m + l') ≡ t
      each true q = eq-eqb (h * m + l) (h' * m + l') (rw (e, eqb-true l l' q))
      each false q = ne_eqb (h * m + l) (h' * m + l') (λ z. eqb-false l l' q (omega (arith, ap (λ (k : ℕ). k * m) e)))

  pub ltb_low : h ≡ h' → ltb (h * m + l) (h' * m + l') ≡ ltb l l'
  ltb_low e = each (ltb l l') refl
    where
      each : (t : Bool) → ltb l l' ≡ t → ltb (h * m + l) (h' * m + l') ≡ t
      each true q = lt-ltb (h * m + l) (h' * m + l') (omega (arith, ap (λ (k : ℕ). k * m) e, ltb-true l l' q))
      each false q = le-ltb (h * m + l) (h' * m + l') (omega (arith, ap (λ (k : ℕ). k * m) e, ltb-false l l' q))

  low : (t u : Bool) → is_some_and is_lt (Some (cond t Less (cond u Equal Greater))) ≡ t
  low true u = refl
  low false true = refl
  low false false = refl

  -- the derived tests: the high digits decide, and where they agree the low ones
  pub eqb-digits : l < m → l' < m → (eqb h h' && eqb l l') ≡ eqb (h * m + l) (h' * m + l')
  eqb-digits p p' = each (eqb h h') refl
    where
      each : (t : Bool) → eqb h h' ≡ t → (t && eqb l l') ≡ eqb (h * m + l) (h' * m + l')
      each true q = sym (eqb_low (eqb-true h h' q))
      each false q = sym (eqb_high p p' (eqb-false h h' q))

  pub ltb-digits : l < m → l' < m → is_some_and is_lt (partial_ordering_then (Some (nat_cmp h h')) (Some (nat_cmp l l'))) ≡ ltb (h * m + l) (h' * m + l')
  ltb-digits p p' = each (ltb h h') (eqb h h') refl refl
    where
      each : (t u : Bool) → ltb h h' ≡ t → eqb h h' ≡ u → is_some_and is_lt (partial_ordering_then (Some (cond t Less (cond u Equal Greater))) (Some (nat_cmp l l'))) ≡ ltb (h * m + l) (h' * m + l')
      each true u q r = sym (lt-ltb (h * m + l) (h' * m + l') (digit_lt m l' p (ltb-true h h' q)))
      each false true q r = low (ltb l l') (eqb l l') ∙ sym (ltb_low (eqb-true h h' r))
      each false false q r = sym (le-ltb (h * m + l) (h' * m + l') (le_of_lt (digit_lt m l p' (omega (arith, ltb-false h h' q, eqb-false h h' r)))))
