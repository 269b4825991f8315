-- Section 2: the writer set of an instance, up to 16 GUIDs, strictly rising.
use Rattle.std.specs.Prelude.{ℕ, ◌-◌, Bool, true, false, ◌||◌, cond, List, [], ◌∷◌, ◌++◌, length, take, replicate}
use Rattle.model.specs.declared.Guid.{Guid}
use Rattle.model.specs.declared.WriterSet.{WriterSet}
use Rattle.model.specs.Guids.{less, same, nil}

-- how many GUIDs a set may hold
abbrev pub set_places : ℕ
set_places = 16

-- the GUIDs of a set as its record holds them
abbrev pub members : WriterSet → List Guid
members w = take w.len w.items

-- the record of a set: the GUIDs, nil behind them
unfoldable pub set_of : List Guid → WriterSet
set_of s = record { len = length s; items = s ++ replicate (set_places - length s) nil }

abbrev pub empty_set : WriterSet
empty_set = record { len = 0; items = replicate set_places nil }

unfoldable pub has : Guid → List Guid → Bool
has g [] = false
has g (x ∷ xs) = same x g || has g xs

-- s with g in its place; s where g is there
unfoldable pub insert : Guid → List Guid → List Guid
insert g [] = g ∷ []
insert g (x ∷ xs) = cond (less x g) (x ∷ insert g xs) (cond (same x g) (x ∷ xs) (g ∷ x ∷ xs))

-- s without g
unfoldable pub remove : Guid → List Guid → List Guid
remove g [] = []
remove g (x ∷ xs) = cond (same x g) xs (x ∷ remove g xs)

abbrev pub is_empty : List Guid → Bool
is_empty [] = true
is_empty (x ∷ xs) = false
