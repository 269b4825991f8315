-- One turn and the end of the scan for bytes that are not 0, in the code's own form.
use mathlib.Core.Path.{◌≡◌, sym, ◌∙◌}
use mathlib.Core.Bool.{◌&&◌, and_assoc, and-true}
use mathlib.Core.List.{List}
use Prim.Native.Nat.{ℕ, zero, suc, ◌+◌, ◌≤◌, ◌<◌}
use native.Mathlib.Numerals.{add-one}
use native.Mathlib.Omega.{arith}
use lib.Bits.{bit_or, or_add_and, and_le_r, or_zero_l}
use lib.Dec.{eqb, eqb-suc-zero}
use lib.ListN.{length, get_or, drop, drop_of_length-le}
use lib.Seq.{drop-cons}
use borrow.Author.Tests.{ne_eqb}
use Rattle.octets.specs.Zeros.{all_zero}

-- an OR is 0 where both are
pub or-is-zero : (a b : ℕ) → eqb (bit_or a b) 0 ≡ (eqb a 0 && eqb b 0)
or-is-zero zero b = rw (or_zero_l b)
or-is-zero (suc a) b =
    let h : suc a ≤ bit_or (suc a) b = omega (arith, or_add_and (suc a) b, and_le_r (suc a) b) in
    ne_eqb (bit_or (suc a) b) 0 (λ e. omega arith) ∙ rw (eqb-suc-zero a)

module _ (b : List ℕ) (acc i : ℕ) where
  pub scan_turn : i < length b → (eqb (bit_or acc (get_or b i 0)) 0 && all_zero (drop (i + 1) b)) ≡ (eqb acc 0 && all_zero (drop i b))
  unfolding all_zero
  scan_turn h =
      rw (drop-cons b i 0 h, add-one i, or-is-zero acc (get_or b i 0)) (and_assoc (eqb acc 0) (eqb (get_or b i 0) 0) (all_zero (drop (suc i) b)))

  pub scan_end : length b ≤ i → eqb acc 0 ≡ (eqb acc 0 && all_zero (drop i b))
  unfolding all_zero
  scan_end h = rw (drop_of_length-le b h) (sym (and-true (eqb acc 0)))
