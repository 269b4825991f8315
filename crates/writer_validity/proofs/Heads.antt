-- The tests of the head and of Lost, from their parts in the order of the code.
--     head_by             of the head
--     acknowledged_as     what was acknowledged of a count, the change read from its bits
--     lost_by_lem             of Lost
use Prim.Native.Nat.{ℕ, ◌*◌}
use mathlib.Core.Bool.{Bool, ◌&&◌}
use mathlib.Core.List.{List}
use mathlib.Core.Path.{◌≡◌, sym, ap, ◌∙◌}
use lib.Dec.{leb}
use lib.IntN.{ℤ, pos, ◌-ℤ◌}
use lib.ListN.{drop}
use mir.Facts.{to_z-of_z}
use mir.Syntax.{w32}
use mir.Val.{SFits, of_z, to_z}
use Rattle.octets.specs.Zeros.{all_zero}
use Rattle.model.specs.declared.Head.{Head}
use Rattle.model.specs.WellFormed.{within, head_ok, lost_ok}

pub head_by : (h : Head) {a b x y : Bool} → leb 1 h.next_handle.0 ≡ a → leb h.next_handle.0 9223372036854775808 ≡ b →
    within (pos h.alive -ℤ h.alive_change) ≡ x → within (pos h.not_alive -ℤ h.not_alive_change) ≡ y →
    ((a && b) && (x && y)) ≡ head_ok h
unfolding head_ok
head_by h p q r s = sym (rw (p, q, r, s))

pub acknowledged_as : (count : ℕ) (change : ℤ) {b : Bool} → SFits w32 change → b ≡ within (pos count -ℤ to_z w32 (of_z w32 change)) →
    within (pos count -ℤ change) ≡ b
acknowledged_as count change f e = sym (e ∙ ap (λ (z : ℤ). within (pos count -ℤ z)) (to_z-of_z f))

pub lost_by_lem : (count : ℕ) (t : List ℕ) {a b : Bool} → leb count 256 ≡ a → all_zero (drop (count * 16) t) ≡ b → (a && b) ≡ lost_ok count t
unfolding lost_ok
lost_by_lem count t p q = sym (rw (p, q))
