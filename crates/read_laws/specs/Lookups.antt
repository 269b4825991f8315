-- The writer lookup beside its definition (02, ticket 6): what 01 alone allows, what the first in key order is, and what the
-- answer goes by. Nothing here is part of a contract.
use Rattle.std.specs.Prelude.{ℕ, zero, suc, Bool, true, not, ◌&&◌, ◌||◌, List, [], ◌∷◌, map, eqb, leb}
use Rattle.model.specs.declared.FoundHandle.{FoundHandle}
use Rattle.model.specs.declared.FoundHandle.TheVariants.{Is, Missing, Refused}
use Rattle.model.specs.declared.Guid.{Guid}
use Rattle.model.specs.declared.Instance.{Instance}
use Rattle.model.specs.declared.InstanceHandle.{InstanceHandle}
use Rattle.model.specs.Reads.{table_of, table_refusal, writes}
use Rattle.model.specs.State.{instance_key}
use Rattle.model.specs.Tables.{pick, all, any}

-- ---- 01 alone: some alive instance whose set has the GUID, none exactly if there is none

abbrev pub writes_at : Guid → InstanceHandle → Instance → Bool
writes_at g h x = writes g x && eqb x.handle.0 h.0

abbrev pub looked_up : ℕ → List Instance → Guid → FoundHandle → Bool
looked_up number xs g (Refused n) = not (eqb number 0) && eqb n number
looked_up number xs g Missing = eqb number 0 && not (any (writes g) xs)
looked_up number xs g (Is h) = eqb number 0 && any (writes_at g h) xs

-- an answer that 01 allows
unfoldable pub lookup_right : ℕ → List ℕ → Guid → FoundHandle → Bool
lookup_right places t g answer = looked_up (table_refusal places t) (table_of places t) g answer

-- ---- the first in key order

-- y is not written, or its key is not below that of x
abbrev pub not_below : Guid → Instance → Instance → Bool
not_below g x y = not (writes g y) || leb (instance_key x) (instance_key y)

-- x has the handle, is written, and no such one of xs has a lower key
abbrev pub first_at : Guid → InstanceHandle → List Instance → Instance → Bool
first_at g h xs x = writes_at g h x && all (not_below g x) xs

-- an answer that names an instance names one that is first in this sense
abbrev pub names_first : Guid → List Instance → FoundHandle → Bool
names_first g xs (Refused n) = true
names_first g xs Missing = true
names_first g xs (Is h) = any (first_at g h xs) xs

-- ---- what the answer goes by: the refusal, and the handles of those that are written, in key order

abbrev pub written_handles : Guid → List Instance → List InstanceHandle
written_handles g xs = map (λ (x : Instance). x.handle) (pick (writes g) xs)

abbrev pub first_handle : ℕ → List InstanceHandle → FoundHandle
first_handle zero [] = Missing
first_handle zero (h ∷ hs) = Is h
first_handle (suc n) hs = Refused (suc n)
