-- Numbers with a sign, and their 32 bits.
--     raised_is         raised bits are the number plus 2^31
--     raised-raised     raised twice, bits are as they were
--     raised-order      the order of raised bits is the order of the signed numbers
--     sum_fits          a number within the bound plus one of 32 bits fits 64 bits
--     change_fits       a count to 128 less a number within the bound fits 32 bits
-- That `to_z` and `of_z` are inverse both ways is `to_z-of_z` and `of_z-to_z` of mir.Facts.
use Rattle.std.proofs.Common.{◌≡◌, ℕ, zero, suc, ◌+◌, ◌-◌, ◌^◌, ◌<◌, ◌≤◌, Bool, true, false, cond, ◌&&◌, ltb, leb, ℤ, pos, negsuc, ◌+ℤ◌, ◌-ℤ◌, neg_ℤ, refl, ap, ⊎_elim, arith, w32, w64, SFits, to_z, le-ltb, lt-ltb, leb-true}
use lib.Signed.{lt_z, mag}
use Rattle.model.specs.Times.{raised}
use Rattle.model.specs.WellFormed.{within}
use Rattle.model.proofs.Tests.{leb-iff, lt-or-le}

-- ---- raised bits

-- the number of the bits, by the sign bit
low_is : (b : ℕ) → b < 2 ^ 31 → to_z w32 b ≡ pos b
low_is b h = simp (lt-ltb b (2 ^ 31) h)

high_is : (b : ℕ) → 2 ^ 31 ≤ b → to_z w32 b ≡ negsuc (2 ^ 32 - suc b)
high_is b h = simp (le-ltb b (2 ^ 31) h)

pub raised_is : (b : ℕ) → b < 2 ^ 32 → to_z w32 b +ℤ pos (2 ^ 31) ≡ pos (raised b)
raised_is b h =
    ⊎_elim
    (λ p. rw (low_is b p) (ap pos (omega arith)))
    (λ p. rw (high_is b p) (simp (le-ltb (2 ^ 31) (suc (2 ^ 32 - suc b)) (omega arith)) (ap pos (omega arith))))
    (lt-or-le b (2 ^ 31))

pub raised-raised : (b : ℕ) → b < 2 ^ 32 → raised (raised b) ≡ b
raised-raised b h = omega arith

pub raised-order : (a b : ℕ) → a < 2 ^ 32 → b < 2 ^ 32 → ltb (raised a) (raised b) ≡ lt_z (to_z w32 a) (to_z w32 b)
raised-order a b ha hb =
    ⊎_elim
    (λ p. ⊎_elim
    (λ q. rw (low_is a p, low_is b q) (leb-iff (suc (raised a)) (raised b) (suc a) b (λ r. omega arith) (λ r. omega arith)))
    (λ q. rw (low_is a p, high_is b q) (le-ltb (raised a) (raised b) (omega arith)))
    (lt-or-le b (2 ^ 31)))
    (λ p. ⊎_elim
    (λ q. rw (high_is a p, low_is b q) (lt-ltb (raised a) (raised b) (omega arith)))
    (λ q. rw (high_is a p, high_is b q)
    (leb-iff (suc (raised a)) (raised b) (suc (2 ^ 32 - suc b)) (2 ^ 32 - suc a) (λ r. omega arith) (λ r. omega arith)))
    (lt-or-le b (2 ^ 31)))
    (lt-or-le a (2 ^ 31))

-- ---- sums and differences that fit

-- the size of one of two numbers
mag_cond : (t : Bool) (a b k : ℕ) → a < k → b < k → mag (cond t (negsuc a) (pos b)) < k
mag_cond true a b k p q = p
mag_cond false a b k p q = q

-- the size of a sum
pub mag_sum : (a b : ℤ) (k m : ℕ) → mag a < k → mag b < m → mag (a +ℤ b) < k + m
mag_sum (pos a) (pos b) k m p q = omega arith
mag_sum (pos a) (negsuc b) k m p q = mag_cond (ltb a (suc b)) (suc b - suc a) (a - suc b) (k + m) (omega arith) (omega arith)
mag_sum (negsuc a) (pos b) k m p q = mag_cond (ltb b (suc a)) (suc a - suc b) (b - suc a) (k + m) (omega arith) (omega arith)
mag_sum (negsuc a) (negsuc b) k m p q = omega arith

-- the size of a number's negative
pub mag_neg : (x : ℤ) (k : ℕ) → mag x < k → mag (neg_ℤ x) < k + 1
mag_neg (pos zero) k p = omega arith
mag_neg (pos (suc n)) k p = omega arith
mag_neg (negsuc n) k p = omega arith

-- a count less a number of 32 bits fits 64 bits
pub difference_fits : (n : ℕ) (x : ℤ) → n < 2 ^ 32 → SFits w32 x → SFits w64 (pos n -ℤ x)
difference_fits n x h f =
    record { sfits = omega (arith, mag_sum (pos n) (neg_ℤ x) (2 ^ 32) (2 ^ 31 + 1) h (mag_neg x (2 ^ 31) f.sfits)) }

first : (x : Bool) → x && true ≡ true → x ≡ true
first true e = refl
first false e = e

bound_mag : (x : ℤ) → within x ≡ true → mag x < 2 ^ 30 + 1
unfolding within
bound_mag (pos n) e = omega (arith, leb-true n 1073741824 e)
bound_mag (negsuc n) e = omega (arith, leb-true n 1073741823 (first (leb n 1073741823) e))

pub sum_fits : (x y : ℤ) → within x ≡ true → SFits w32 y → SFits w64 (x +ℤ y)
sum_fits x y e f = record { sfits = omega (arith, mag_sum x y (2 ^ 30 + 1) (2 ^ 31) (bound_mag x e) f.sfits) }

pub change_fits : (n : ℕ) (x : ℤ) → n ≤ 128 → within x ≡ true → SFits w32 (pos n -ℤ x)
change_fits n x h e =
    record { sfits = omega (arith, mag_sum (pos n) (neg_ℤ x) 129 (2 ^ 30 + 2) (omega arith) (mag_neg x (2 ^ 30 + 1) (bound_mag x e))) }
