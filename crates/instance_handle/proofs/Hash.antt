-- The hash byte by byte, and a GUID's sixteen bytes as two stores leave them.
use Prim.Native.Nat.{ℕ, ◌+◌, ◌≤◌, ◌<◌}
use mathlib.Core.List.{List, [], ◌∷◌, append-nil}
use mathlib.Core.Path.{◌≡◌, ◌∙◌}
use native.Mathlib.Numerals.{add-one}
use native.Mathlib.Omega.{arith}
use lib.ListN.{length, get_or, drop, replicate, drop_of_length-le}
use lib.Seq.{drop-cons}
use Rattle.model.specs.Guids.{guid_bytes}
use Rattle.model.specs.Handles.{fnv_step, fnv_from}
use Rattle.model.specs.declared.Guid.{Guid}
use Rattle.octets.specs.Octets.{put}
use Rattle.octets.proofs.PatchLaws.{puts-patch}

-- one byte more
pub fnv_more : (h : ℕ) (s : List ℕ) (i : ℕ) → i < length s → fnv_from h (drop i s) ≡ fnv_from (fnv_step h (get_or s i 0)) (drop (i + 1) s)
unfolding fnv_from
fnv_more h s i l = rw (add-one, drop-cons s i 0)

-- none left
pub fnv_none : (h : ℕ) (s : List ℕ) (i : ℕ) → length s ≤ i → fnv_from h (drop i s) ≡ h
unfolding fnv_from
fnv_none h s i l = rw (drop_of_length-le s l)

-- the two halves, stored
pub guid-stored : (g : Guid) → put 8 (put 8 (replicate 16 0) 0 g.hi) 8 g.lo ≡ guid_bytes g
unfolding guid_bytes
guid-stored g = puts-patch (8 ∷ 8 ∷ []) (g.hi ∷ g.lo ∷ []) (replicate 16 0) 0 0 (omega arith) tt ∙ append-nil _
