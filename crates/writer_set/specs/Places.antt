-- A set as its record holds it, and its array with a GUID put in or taken out.
--     Sound                       at most 16 members, nil behind them
--     inserted_at, removed_at       an array with a GUID put in or taken out
use Rattle.std.specs.Prelude.{ℕ, suc, ◌-◌, ◌≤◌, ◌≡◌, List, [], ◌∷◌, ◌++◌, length, take, drop, replicate}
use Rattle.model.specs.declared.Guid.{Guid}
use Rattle.model.specs.declared.WriterSet.{WriterSet}
use Rattle.model.specs.Guids.{nil}
use Rattle.model.specs.Sets.{set_places, members}

-- the GUIDs, nil behind them
abbrev pub padded : List Guid → List Guid
padded s = s ++ replicate (set_places - length s) nil

-- at most 16 members, nil behind them
pub record Sound (w : WriterSet) : Type 0 where
  pub few : w.len ≤ set_places
  pub nils : w.items ≡ padded (members w)

-- g at place p; the last of 16 is pushed out
abbrev pub inserted_at : List Guid → ℕ → Guid → List Guid
inserted_at l p g = take p l ++ (g ∷ drop p (take 15 l))

-- the GUID at place p taken out, nil behind the others
abbrev pub removed_at : List Guid → ℕ → List Guid
removed_at l p = take p l ++ (drop (suc p) l ++ nil ∷ [])
