-- A product from the halves of its factors.
use Rattle.std.proofs.Common.{◌≡◌, ℕ, ◌+◌, ◌-◌, ◌*◌, ◌/◌, ◌%◌, ◌^◌, ◌<◌, ◌∙◌, mul_assoc, add-mul, mul-le-mul, div-add-mod', mul-add, mul_right_comm, arith}
use native.Mathlib.Nat.{mul-mul-mul_comm}

-- the product of two numbers of two digits to the base b
pub halves : (h l k m b : ℕ) → (h * b + l) * (k * b + m) ≡ (h * m + l * k) * b + l * m + h * k * (b * b)
halves h l k m b =
    omega (
      arith,
      mul-add (h * b + l) (k * b) m,
      add-mul (h * b) l (k * b),
      add-mul (h * b) l m,
      mul-mul-mul_comm h b k b,
      mul_assoc l k b,
      mul_right_comm h b m,
      add-mul (h * m) (l * k) b,
    )

-- what is lost above 2^64: the cross products' high bits, and the high halves' product
low : (cross l h : ℕ) → (cross % 2 ^ 64 % 2 ^ 32 * 2 ^ 32 + l) % 2 ^ 64 ≡ (cross * 2 ^ 32 + l + h * 2 ^ 64) % 2 ^ 64
low cross l h = omega arith

-- the product modulo 2^64
pub product : (a b : ℕ) →
    ((a / 2 ^ 32 * (b % 2 ^ 32) + a % 2 ^ 32 * (b / 2 ^ 32)) % 2 ^ 64 % 2 ^ 32 * 2 ^ 32 + a % 2 ^ 32 * (b % 2 ^ 32)) % 2 ^ 64
    ≡ a * b % 2 ^ 64
product a b =
    low (a / 2 ^ 32 * (b % 2 ^ 32) + a % 2 ^ 32 * (b / 2 ^ 32)) (a % 2 ^ 32 * (b % 2 ^ 32)) (a / 2 ^ 32 * (b / 2 ^ 32))
    ∙ rw (← halves (a / 2 ^ 32) (a % 2 ^ 32) (b / 2 ^ 32) (b % 2 ^ 32) (2 ^ 32), div-add-mod' a (2 ^ 32), div-add-mod' b (2 ^ 32))

-- two halves' product fits
pub halves_fit : {x y : ℕ} → x < 2 ^ 32 → y < 2 ^ 32 → x * y < 2 ^ 64
halves_fit {x} {y} h k = omega (arith, mul-le-mul {n₁ = x} {m₁ = y} {n₂ = 2 ^ 32 - 1} {m₂ = 2 ^ 32 - 1} (omega arith) (omega arith))
