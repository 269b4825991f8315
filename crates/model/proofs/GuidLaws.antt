-- GUIDs laid out and read back.
--     guid_back, guid_forth       one
--     guids_back, guids_forth     a list of them
--     guids_all, guids_each       in the form that the laws of rows ask for
use Prim.Native.Nat.{ℕ, zero, suc, ◌*◌, ◌≤◌}
use mathlib.Core.Path.{◌≡◌, refl, ap, ◌∙◌}
use mathlib.Core.List.{List, [], ◌∷◌, ◌++◌, append-nil}
use native.Mathlib.Nat.{add-zero}
use native.Mathlib.Omega.{arith}
use lib.ListN.{length, take, drop, get_or, length-append, length-drop}
use lib.Seq.{take_all, length-take-le}
use Rattle.octets.specs.Bounds.{Bytes}
use Rattle.octets.proofs.Laws.{be-part}
use Rattle.octets.proofs.BoundLaws.{be-lt}
use Rattle.octets.specs.Fields.{reads}
use Rattle.octets.specs.Lay.{rows, All}
use Rattle.octets.specs.Octets.{be}
use Rattle.octets.specs.Patch.{fields}
use Rattle.octets.proofs.PatchLaws.{length_fields}
use Rattle.model.specs.declared.Guid.{Guid}
use Rattle.model.specs.Guids.{guid_at, guid_of, guids_in, guid_bytes, guids_bytes}
use Rattle.model.specs.Layout.{read_rows}
use Rattle.model.proofs.FieldLaws.{reads_front, fields-reads}
use Rattle.model.proofs.Fits.{FitsGuid}
use Rattle.model.proofs.RowLaws.{Back, Forth, read_rows_lem, rows_read}

-- bytes of a part are bytes
pub bytes_take : (n : ℕ) (s : List ℕ) → Bytes s → Bytes (take n s)
bytes_take zero s b i = omega arith
bytes_take (suc n) [] b i = omega arith
bytes_take (suc n) (x ∷ s) b zero = b zero
bytes_take (suc n) (x ∷ s) b (suc i) = bytes_take n s (λ j. b (suc j)) i

pub bytes_drop : (n : ℕ) (s : List ℕ) → Bytes s → Bytes (drop n s)
bytes_drop zero s b = b
bytes_drop (suc n) [] b = b
bytes_drop (suc n) (x ∷ s) b = bytes_drop n s (λ j. b (suc j))

pub length-guid : (g : Guid) → length (guid_bytes g) ≡ 16
unfolding guid_bytes
length-guid g = length_fields (8 ∷ 8 ∷ []) (g.hi ∷ g.lo ∷ []) tt

pub guid_back : (g : Guid) → FitsGuid g → guid_of (guid_bytes g) ≡ g
unfolding guid_bytes
guid_back g f =
    let e : reads (8 ∷ 8 ∷ []) (guid_bytes g) 0 0 ≡ g.hi ∷ g.lo ∷ [] =
    rw (append-nil (fields (8 ∷ 8 ∷ []) (g.hi ∷ g.lo ∷ []))) at (reads_front (8 ∷ 8 ∷ []) (g.hi ∷ g.lo ∷ []) [] (f.high, (f.low, tt))) in
    let h : be 8 (guid_bytes g) 0 ≡ g.hi = ap (λ (l : List ℕ). get_or l 0 0) e in
    let l : be 8 (guid_bytes g) 8 ≡ g.lo = ap (λ (m : List ℕ). get_or m 1 0) e in
    rw (h, l)

pub guid_forth : (r : List ℕ) → Bytes r → length r ≡ 16 → guid_bytes (guid_of r) ≡ r
unfolding guid_bytes
guid_forth r b n = fields-reads (8 ∷ 8 ∷ []) r b (omega arith) ∙ take_all 16 r (omega arith)

pub guid_fits : (r : List ℕ) → Bytes r → FitsGuid (guid_of r)
guid_fits r b = record { high = be-lt 8 r 0 b; low = be-lt 8 r 8 b }

pub guids_all : (gs : List Guid) → All FitsGuid gs → All (Back guid_bytes guid_of 16) gs
guids_all [] f = tt
guids_all (g ∷ gs) f = (record { width = length-guid g; back = guid_back g f.0 }, guids_all gs f.1)

pub guids_back : (gs : List Guid) (z : List ℕ) → All FitsGuid gs → guids_in (length gs) (guids_bytes gs ++ z) ≡ gs
guids_back gs z f = read_rows_lem guid_bytes guid_of 16 gs z (guids_all gs f)

pub guids_each : (n : ℕ) (t : List ℕ) → Bytes t → n * 16 ≤ length t → Forth guid_bytes guid_of 16 n t
guids_each zero t b h = tt
guids_each (suc n) t b h = (
  guid_forth (take 16 t) (bytes_take 16 t b) (length-take-le 16 t (omega arith)),
  guids_each n (drop 16 t) (bytes_drop 16 t b) (omega (arith, length-drop 16 t)),
)

pub guids_forth : (n : ℕ) (t : List ℕ) → Bytes t → n * 16 ≤ length t → guids_bytes (guids_in n t) ≡ take (n * 16) t
guids_forth n t b h = rows_read guid_bytes guid_of 16 n t h (guids_each n t b h)

pub guids_fit : (n : ℕ) (t : List ℕ) → Bytes t → All FitsGuid (guids_in n t)
unfolding read_rows
guids_fit zero t b = tt
guids_fit (suc n) t b = (guid_fits (take 16 t) (bytes_take 16 t b), guids_fit n (drop 16 t) (bytes_drop 16 t b))

pub length_guids : (gs : List Guid) → length (guids_bytes gs) ≡ length gs * 16
unfolding rows
length_guids [] = refl
length_guids (g ∷ gs) = omega (arith, length-append (guid_bytes g) (rows guid_bytes gs), length-guid g, length_guids gs)

-- the GUID in front of a part of a list is the one that stands there
pub guid-part : (size at : ℕ) (s : List ℕ) → 16 ≤ size → guid_of (take size (drop at s)) ≡ guid_at s at
guid-part size at s h =
    rw (be-part 8 size at s 0 (omega arith), be-part 8 size at s 8 (omega arith), add-zero at)
