-- A table: records of one size end to end, zeros behind them.
use Rattle.std.specs.Prelude.{ℕ, ◌-◌, ◌*◌, List, [], ◌∷◌, ◌++◌, length, replicate}

module _ {A : Type 0} where
  -- the bytes of the records xs, one record after the other
  unfoldable pub rows : (A → List ℕ) → List A → List ℕ
  rows row [] = []
  rows row (x ∷ xs) = row x ++ rows row xs

  -- n bytes: the records xs of `size` bytes each, then zeros
  unfoldable pub lay : (A → List ℕ) → ℕ → ℕ → List A → List ℕ
  lay row size n xs = rows row xs ++ replicate (n - length xs * size) 0

  -- P holds of each element
  abbrev pub All : (A → Type 0) → List A → Type 0
  All P [] = Unit {0}
  All P (x ∷ xs) = P x × All P xs
