-- A number with a sign that is put together from what was read, and the test of a head's bytes, over plain variables.
--     bits_back               the bits of a number that was read back from its bits
--     present_is, guid_is     the last writer's presence and GUID
--     last_is                 the last writer by its presence
--     laid-present, laid_high, laid_low    the test in the order of the code
use Prim.Native.Nat.{ℕ, zero, suc}
use mathlib.Core.Bool.{Bool, not, ◌&&◌, ◌||◌}
use mathlib.Core.Path.{◌≡◌, refl, ap, ◌∙◌}
use mathlib.Core.List.{List}
use native.Mathlib.Omega.{arith}
use borrow.Author.Tests.{le-ltb, eq-eqb, ne_eqb}
use lib.Dec.{eqb, ltb}
use lib.IntN.{ℤ}
use mir.Facts.{to_z-of_z}
use mir.Syntax.{w32}
use mir.Val.{SFits, of_z, to_z}
use Rattle.octets.specs.Octets.{be}
use Rattle.model.specs.declared.Guid.{Guid}
use Rattle.model.specs.State.{LastWriter}
use Rattle.std.specs.Prelude.{None, Some, is_some, unwrap_or}
use Rattle.std.specs.Bool.{then_some}
use Rattle.std.specs.Int.{from_bool}
use Rattle.model.specs.Guids.{nil}
use Rattle.boundary.specs.Layouts.{last_present, last_guid, last_writer, head_laid}

pub bits_back : {x : ℤ} {n : ℕ} → SFits w32 x → n ≡ of_z w32 (to_z w32 (of_z w32 x)) → n ≡ of_z w32 x
bits_back f e = e ∙ ap (of_z w32) (to_z-of_z f)

pub present_is : (l : LastWriter) → from_bool (is_some l) ≡ last_present l
present_is None = refl
present_is (Some g) = refl

pub guid_is : (l : LastWriter) → unwrap_or l nil ≡ last_guid l
guid_is None = refl
guid_is (Some g) = refl

by_presence : (n : ℕ) (g : Guid) → then_some (not (eqb n 0)) g ≡ last_writer n g
by_presence zero g = refl
by_presence (suc n) g = rw (ne_eqb (suc n) 0 (λ e. omega (arith, e)))

pub last_is : {n m : ℕ} {f g : Guid} → n ≡ m → f ≡ g → then_some (not (eqb n 0)) f ≡ last_writer m g
last_is {n} {m} {f} {g} e q = rw (← e, q) (by_presence n g)

counted : (n : ℕ) (x : Bool) → (n ≡ 0 → ⊥) → eqb n 1 ≡ (ltb n 2 && (eqb n 1 || x))
counted zero x h = absurd (h refl)
counted (suc zero) x h = refl
counted (suc (suc n)) x h = rw (le-ltb (suc (suc n)) 2 (omega arith), ne_eqb (suc (suc n)) 1 (λ e. omega arith))

module _ (b : List ℕ) where
  pub laid-present : {n : ℕ} → n ≡ be 2 b 28 → (n ≡ 0 → ⊥) → eqb n 1 ≡ head_laid b
  unfolding head_laid
  laid-present {n} e h = rw (← e) (counted n (eqb (be 8 b 48) 0 && eqb (be 8 b 56) 0) h)

  pub laid_high : {n h : ℕ} → n ≡ be 2 b 28 → n ≡ 0 → h ≡ be 8 b 48 → (h ≡ 0 → ⊥) → eqb h 0 ≡ head_laid b
  unfolding head_laid
  laid_high {n} {h} e k f l = rw (← e, k, ← f, ne_eqb h 0 l)

  pub laid_low : {n h l : ℕ} → n ≡ be 2 b 28 → n ≡ 0 → h ≡ be 8 b 48 → h ≡ 0 → l ≡ be 8 b 56 → eqb l 0 ≡ head_laid b
  unfolding head_laid
  laid_low {n} {h} {l} e k f g i = rw (← e, k, ← f, ← i, eq-eqb h 0 g)
