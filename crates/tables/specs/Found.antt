-- The place of a key in a list of keys.
use Rattle.std.specs.Prelude.{ℕ, zero, suc, ◌&&◌, cond, List, [], ◌∷◌, ltb, eqb, length, get_or, Result, Ok, Err}

-- how many keys stand before the first that is not less than k
unfoldable pub lower_bound : List ℕ → ℕ → ℕ
lower_bound [] k = zero
lower_bound (x ∷ ks) k = cond (ltb x k) (suc (lower_bound ks k)) zero

-- Ok, with its place, where k is among the keys, else Err, with the place where it would go in
unfoldable pub found_in : List ℕ → ℕ → Result ℕ ℕ
found_in ks k =
    cond (ltb (lower_bound ks k) (length ks) && eqb (get_or ks (lower_bound ks k) 0) k) (Ok (lower_bound ks k)) (Err (lower_bound ks k))
