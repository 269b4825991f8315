-- Signed operations, over plain variables: what they ask, and what is read back from the bits that they leave.
use Rattle.std.proofs.Common.{◌≡◌, ℕ, ◌^◌, ◌<◌, ℤ, pos, ◌-ℤ◌, sym, ap, ◌∙◌, to_z-of_z, w32, SFits, to_z, of_z}
use lib.IntN.{+ℤ-neg_ℤ_cancel}
use mir.Syntax.{Width}
use Rattle.model.specs.Times.{raised}
use Rattle.numbers.proofs.Signs.{raised_is}

pub fits_as : {w : Width} {y z : ℤ} → y ≡ z → SFits w z → SFits w y
fits_as e f = rw e f

pub back : {w : Width} {y z : ℤ} → y ≡ z → SFits w z → to_z w (of_z w y) ≡ z
back {w} e f = ap (λ (y : ℤ). to_z w (of_z w y)) e ∙ to_z-of_z f

-- raised bits less 2^31
pub lowered : {b : ℕ} → b < 2 ^ 32 → pos (raised b) -ℤ pos (2 ^ 31) ≡ to_z w32 b
lowered {b} h = ap (λ (z : ℤ). z -ℤ pos (2 ^ 31)) (sym (raised_is b h)) ∙ +ℤ-neg_ℤ_cancel (to_z w32 b) (pos (2 ^ 31))
