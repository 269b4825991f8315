-- Laws of GUIDs.
--     prefix-digits     the prefix in two digits
--     guid-patch        two halves that are put are its 16 bytes
use Prim.Native.Nat.{ℕ, ◌+◌, ◌*◌, ◌/◌, ◌^◌, ◌≤◌}
use mathlib.Core.List.{List, [], ◌∷◌}
use mathlib.Core.Path.{◌≡◌}
use native.Mathlib.Nat.{add-zero}
use native.Mathlib.Omega.{arith}
use lib.ListN.{length}
use Rattle.octets.specs.Octets.{put}
use Rattle.octets.specs.Patch.{patch}
use Rattle.octets.proofs.PatchLaws.{puts-patch}
use Rattle.model.specs.declared.Guid.{Guid}
use Rattle.model.specs.Guids.{guid_bytes, num, prefix}
use Rattle.guid.proofs.Digits.{digits_div}

pub prefix-digits : (g : Guid) → prefix g ≡ g.hi * 2 ^ 32 + g.lo / 2 ^ 32
unfolding num prefix
prefix-digits g = digits_div (2 ^ 32) (2 ^ 32) g.hi g.lo (omega arith)

pub guid-patch : (d : List ℕ) (at : ℕ) (g : Guid) → at + 16 ≤ length d → put 8 (put 8 d at g.hi) (at + 8) g.lo ≡ patch d at 16 (guid_bytes g)
unfolding guid_bytes
guid-patch d at g h = rw (add-zero at) at (puts-patch (8 ∷ 8 ∷ []) (g.hi ∷ g.lo ∷ []) d at 0 (omega arith) tt)
