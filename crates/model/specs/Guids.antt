-- Keys and GUIDs as numbers, so that their byte order is `<`. Section 2.
use Rattle.std.specs.Prelude.{ℕ, ◌+◌, ◌*◌, ◌/◌, ◌^◌, Bool, List, [], ◌∷◌, eqb, ltb}
use Rattle.octets.specs.Lay.{rows}
use Rattle.octets.specs.Octets.{be}
use Rattle.octets.specs.Patch.{fields}
use Rattle.model.specs.declared.Guid.{Guid}
use Rattle.model.specs.Layout.{read_rows}

-- the number that the 16 bytes make, most significant first
unfoldable pub num : Guid → ℕ
num g = g.hi * 2 ^ 64 + g.lo

abbrev pub less : Guid → Guid → Bool
less a b = ltb (num a) (num b)

abbrev pub same : Guid → Guid → Bool
same a b = eqb (num a) (num b)

-- section 2, the sheet: a prefix is the first 12 bytes
unfoldable pub prefix : Guid → ℕ
prefix g = num g / 2 ^ 32

abbrev pub same_prefix : Guid → Guid → Bool
same_prefix a b = eqb (prefix a) (prefix b)

-- sixteen zero bytes, where a GUID is absent
abbrev pub nil : Guid
nil = record { hi = 0; lo = 0 }

-- ---- in bytes

abbrev pub guid_size : ℕ
guid_size = 16

abbrev pub guid_at : List ℕ → ℕ → Guid
guid_at r at = record { hi = be 8 r at; lo = be 8 r (at + 8) }

-- the GUID of 16 bytes, and the first n of a list
abbrev pub guid_of : List ℕ → Guid
guid_of r = guid_at r 0

abbrev pub guids_in : ℕ → List ℕ → List Guid
guids_in n t = read_rows guid_of guid_size n t

unfoldable pub guid_bytes : Guid → List ℕ
guid_bytes g = fields (8 ∷ 8 ∷ []) (g.hi ∷ g.lo ∷ [])

abbrev pub guids_bytes : List Guid → List ℕ
guids_bytes gs = rows guid_bytes gs
