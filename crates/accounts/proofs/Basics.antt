-- Small laws that the others share.
--     either               a claim on one of two values, by a test
--     never, missing       contradictions
--     and_assoc, eqb_sym   tests
--     one_more             room for one more
--     all_from, all_each, all_weaken      what holds of every record
use mathlib.Core.Bool.{Bool, true, false, not, ◌&&◌, cond}
use mathlib.Core.List.{List, [], ◌∷◌}
use mathlib.Core.Option.{none, some}
use mathlib.Core.Path.{◌≡◌, refl, sym}
use Prim.Native.Nat.{ℕ, ◌+◌, ◌≤◌, ◌<◌}
use native.Mathlib.Omega.{arith}
use lib.Dec.{eqb, leb}
use borrow.Author.Tests.{eqb-true, eqb-false, eq-eqb, ne_eqb, leb-false}
use Rattle.octets.specs.Lay.{All}
use Rattle.model.specs.InstanceRecord.{bit}
use Rattle.model.specs.Tables.{all}
use Rattle.model.proofs.Tests.{both, split}

-- what holds of the one where the test holds, and of the other where not
pub either : {A : Type 0} (P : A → Type 0) (b : Bool) (x y : A) → (b ≡ true → P x) → (b ≡ false → P y) → P (cond b x y)
either P true x y p q = p refl
either P false x y p q = q refl

pub and_assoc : (a b c : Bool) → ((a && b) && c) ≡ (a && (b && c))
and_assoc true b c = refl
and_assoc false b c = refl

-- two constructors are never equal
pub never : {A : Type 0} → true ≡ false → A
never e = let z : ◌≡◌ {A = ℕ} 0 1 = cc in absurd (omega arith)

pub missing : {A B : Type 0} {x : A} → none ≡ some x → B
missing e = let z : ◌≡◌ {A = ℕ} 0 1 = cc in absurd (omega arith)

-- room for one more under a limit, where one more is needed
pub one_more : (limit : ℕ) (b : Bool) (n : ℕ) → n ≤ limit → (not b && leb limit n) ≡ false → n + bit (not b) ≤ limit
one_more limit true n l e = omega arith
one_more limit false n l e = let m : n < limit = leb-false limit n e in omega arith

pub eqb_sym : (a b : ℕ) → eqb a b ≡ eqb b a
eqb_sym a b =
    split (eqb a b) (λ e. rw (e, eq-eqb b a (sym (eqb-true a b e))))
    (λ e. rw (e, ne_eqb b a (λ q. eqb-false a b e (sym q))))

module _ {A : Type 0} where
  -- a test of each record, as a fact of each
  pub all_from : (P : A → Type 0) (p : A → Bool) → ((x : A) → P x → p x ≡ true) → (xs : List A) → All P xs → all p xs ≡ true
  unfolding all
  all_from P p h [] a = refl
  all_from P p h (x ∷ xs) a = rw (h x a.0) (all_from P p h xs a.1)

  -- and back
  pub all_each : (p : A → Bool) (xs : List A) → all p xs ≡ true → All (λ x. p x ≡ true) xs
  unfolding all
  all_each p [] e = tt
  all_each p (x ∷ xs) e = let h = both (p x) (all p xs) e in (h.0, all_each p xs h.1)

  pub all_weaken : (P Q : A → Type 0) → ((x : A) → P x → Q x) → (xs : List A) → All P xs → All Q xs
  all_weaken P Q h [] a = tt
  all_weaken P Q h (x ∷ xs) a = (h x a.0, all_weaken P Q h xs a.1)
