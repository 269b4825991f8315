-- Records of a list by their places.
use Rattle.std.specs.Prelude.{ℕ, zero, suc, ◌<◌, Bool, true, false, cond, List, [], ◌∷◌, ◌≢◌, ◌≡◌, length, get_or}

module _ {A : Type 0} where
  -- how many records stand before the first of which p holds
  unfoldable pub place_of : (A → Bool) → List A → ℕ
  place_of p [] = zero
  place_of p (x ∷ xs) = cond (p x) zero (suc (place_of p xs))

  -- p holds of the record at place i alone
  pub record Only (p : A → Bool) (xs : List A) (i : ℕ) (d : A) : Type 0 where
    pub within : i < length xs
    pub here : p (get_or xs i d) ≡ true
    pub elsewhere : (j : ℕ) → j < length xs → j ≢ i → p (get_or xs j d) ≡ false

  -- p holds of no record
  abbrev pub Nowhere : (A → Bool) → List A → A → Type 0
  Nowhere p xs d = (j : ℕ) → j < length xs → p (get_or xs j d) ≡ false
