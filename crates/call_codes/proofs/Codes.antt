-- A code of no range is no call's.
use Prim.Native.Nat.{ℕ, ◌≤◌}
use mathlib.Core.Bool.{Bool, true, false, ◌&&◌, ◌||◌}
use mathlib.Core.List.{List, [], ◌∷◌}
use mathlib.Core.Option.{none}
use mathlib.Core.Path.{◌≡◌, refl, sym, ap, ◌∙◌}
use native.Mathlib.Omega.{arith}
use borrow.Author.Tests.{ne_eqb, leb-true}
use lib.Dec.{leb, eqb}
use Rattle.model.specs.Calls.{Numbered, last_instance, last_tracker, last_joined, calls, amongst, call_of_code}
use Rattle.model.specs.Tables.{all}
use Rattle.model.proofs.Tests.{both}

-- the codes of the ranges
ranged : ℕ → Bool
ranged k = (leb 1 k && leb k last_instance) || ((leb 32 k && leb k last_tracker) || (leb 48 k && leb k last_joined))

-- every call's code is one of them
abbrev is_ranged : Numbered → Bool
is_ranged c = ranged c.code

beyond : (a b n : ℕ) → (a ≤ n → n ≤ b → ⊥) → (leb a n && leb n b) ≡ false
beyond a b n h = each (leb a n) (leb n b) (λ e f. h (leb-true a n e) (leb-true n b f))
  where
    each : (p q : Bool) → (p ≡ true → q ≡ true → ⊥) → (p && q) ≡ false
    each true true f = absurd (f refl refl)
    each true false f = refl
    each false q f = refl

never : {A : Type 0} → true ≡ false → A
never e = let z : ◌≡◌ {A = ℕ} 0 1 = cc in absurd (omega arith)

module _ (n : ℕ) (out : ranged n ≡ false) where
  other : (k : ℕ) → ranged k ≡ true → eqb k n ≡ false
  other k r = ne_eqb k n (λ e. never (sym r ∙ ap ranged e ∙ out))

  none_of : (cs : List Numbered) → all is_ranged cs ≡ true → amongst n cs ≡ none
  unfolding amongst all
  none_of [] e = refl
  none_of (c ∷ cs) e =
      let p = both (is_ranged c) (all is_ranged cs) e in
      rw (other c.code p.0) (none_of cs p.1)

pub unknown : (n : ℕ) → (1 ≤ n → n ≤ last_instance → ⊥) → (32 ≤ n → n ≤ last_tracker → ⊥) → (48 ≤ n → n ≤ last_joined → ⊥) → call_of_code n ≡ none
unfolding call_of_code calls all ranged
unknown n a b c =
    none_of n (rw (beyond 1 last_instance n a, beyond 32 last_tracker n b, beyond 48 last_joined n c)) calls refl
