-- A part of a list replaced, and fields as the bytes that they are.
use Rattle.std.specs.Prelude.{ℕ, zero, suc, ◌+◌, ◌/◌, ◌%◌, List, [], ◌∷◌, ◌++◌, take, drop}

-- d with the k elements from at replaced by r
abbrev pub patch : {A : Type 0} → List A → ℕ → ℕ → List A → List A
patch d at k r = take at d ++ (r ++ drop (at + k) d)

-- the k bytes of v
unfoldable pub digits : ℕ → ℕ → List ℕ
digits zero v = []
digits (suc k) v = digits k (v / 256) ++ (v % 256 ∷ [])

-- the bytes of the values vs in fields of the widths ks
abbrev pub fields : List ℕ → List ℕ → List ℕ
fields [] vs = []
fields (k ∷ ks) [] = []
fields (k ∷ ks) (v ∷ vs) = digits k v ++ fields ks vs

-- there is one value for each field
abbrev pub Same : List ℕ → List ℕ → Type 0
Same [] [] = Unit
Same [] (v ∷ vs) = ⊥
Same (k ∷ ks) [] = ⊥
Same (k ∷ ks) (v ∷ vs) = Same ks vs
