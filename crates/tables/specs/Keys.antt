-- The keys of a table: records of `size` bytes end to end, each with a 16-byte key in front.
use Rattle.std.specs.Prelude.{ℕ, zero, suc, ◌*◌, Bool, true, ◌&&◌, List, [], ◌∷◌, ◌++◌, ltb}
use Rattle.model.specs.Guids.{num, guid_at}

-- the numbers of the keys of the first n records
unfoldable pub keys : ℕ → ℕ → List ℕ → List ℕ
keys size zero t = []
keys size (suc n) t = keys size n t ++ num (guid_at t (n * size)) ∷ []

-- k is less than the first of ks, if there is one
unfoldable pub leads : ℕ → List ℕ → Bool
leads k [] = true
leads k (x ∷ ks) = ltb k x

-- each key is less than the next
unfoldable pub rising : List ℕ → Bool
rising [] = true
rising (k ∷ ks) = leads k ks && rising ks
