-- Keyed tables: lists of records whose keys strictly rise. Both tables of section 2 are such, and a call turns one: it puts
-- in at most one record, then takes each record through a function of its own.
use Rattle.std.specs.Prelude.{ℕ, Bool, true, false, ◌&&◌, ◌||◌, cond, List, [], ◌∷◌, eqb, ltb}
use Rattle.std.proofs.Math.Option.{Option, none, some}

abbrev pub is_some : {A : Type 0} → Option A → Bool
is_some none = false
is_some (some x) = true

module _ {A : Type 0} where
  -- the first record of which p holds
  unfoldable pub find : (A → Bool) → List A → Option A
  find p [] = none
  find p (x ∷ xs) = cond (p x) (some x) (find p xs)

  -- the records of which p holds, in order
  unfoldable pub pick : (A → Bool) → List A → List A
  pick p [] = []
  pick p (x ∷ xs) = cond (p x) (x ∷ pick p xs) (pick p xs)

  unfoldable pub all : (A → Bool) → List A → Bool
  all p [] = true
  all p (x ∷ xs) = p x && all p xs

  unfoldable pub any : (A → Bool) → List A → Bool
  any p [] = false
  any p (x ∷ xs) = p x || any p xs

  abbrev pub kept : Option A → List A → List A
  kept none xs = xs
  kept (some x) xs = x ∷ xs

  -- each record through f, which removes it where it gives none
  unfoldable pub sift : (A → Option A) → List A → List A
  sift f [] = []
  sift f (x ∷ xs) = kept (f x) (sift f xs)

  module _ (key : A → ℕ) where
    -- y in the place of its key, instead of the record there if there is one
    unfoldable pub put : A → List A → List A
    put y [] = y ∷ []
    put y (x ∷ xs) = cond (ltb (key x) (key y)) (x ∷ put y xs) (cond (eqb (key x) (key y)) (y ∷ xs) (y ∷ x ∷ xs))

    -- every key is above n
    unfoldable pub above : ℕ → List A → Bool
    above n [] = true
    above n (x ∷ xs) = ltb n (key x) && above n xs

    -- the keys strictly rise
    unfoldable pub rising : List A → Bool
    rising [] = true
    rising (x ∷ xs) = above (key x) xs && rising xs
