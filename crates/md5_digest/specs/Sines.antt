-- The sine by its series, over a common denominator: sin i = i - i^3 / 3! + i^5 / 5! - ..
use Rattle.std.specs.Prelude.{ℕ, zero, suc, ◌+◌, ◌-◌, ◌*◌, ◌/◌, ◌%◌, ◌^◌, Bool, true, cond, ◌&&◌, List, [], ◌∷◌, ◌==◌}

-- the terms that are added and those that are taken away, both over the factorial of the last one; and the last one's power
pub record Series : Type 0 where
  pub plus : ℕ
  pub minus : ℕ
  pub factorial : ℕ
  pub power : ℕ

-- term k is i^(2k + 1) / (2k + 1)!, added where k is even
abbrev pub next : ℕ → ℕ → Series → Series
next i k s =
    record {
      plus = s.plus * (2 * k * (2 * k + 1)) + cond (k % 2 == 0) (s.power * (i * i)) 0;
      minus = s.minus * (2 * k * (2 * k + 1)) + cond (k % 2 == 0) 0 (s.power * (i * i));
      factorial = s.factorial * (2 * k * (2 * k + 1));
      power = s.power * (i * i);
    }

-- the terms 0 to k
abbrev pub series : ℕ → ℕ → Series
series i zero = record { plus = i; minus = 0; factorial = 1; power = i }
series i (suc k) = next i (suc k) (series i k)

-- the integer part of 2^32 times its absolute value
abbrev pub scaled : Series → ℕ
scaled s = (s.plus - s.minus + (s.minus - s.plus)) * 2 ^ 32 / s.factorial

-- xs are these parts of sin i, sin (i + 1) and on, and one term more changes none: once the terms fall, the sine lies between
-- the one sum and the other
abbrev pub scaled_sines : ℕ → ℕ → List ℕ → Bool
scaled_sines k i [] = true
scaled_sines k i (x ∷ xs) = scaled (series i k) == x && (scaled (series i (suc k)) == x && scaled_sines k (i + 1) xs)
