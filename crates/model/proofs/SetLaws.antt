-- Laws of writer sets.
--     members_of               the record of a list holds it
--     insert-le, remove-le     lengths
use Prim.Native.Nat.{suc, ◌+◌, ◌-◌, ◌≤◌}
use mathlib.Core.Bool.{Bool, true, false, cond}
use mathlib.Core.List.{List, [], ◌∷◌}
use mathlib.Core.Path.{◌≡◌, refl}
use native.Mathlib.Omega.{arith}
use lib.ListN.{length, replicate}
use lib.Seq.{take_at}
use Rattle.model.specs.declared.Guid.{Guid}
use Rattle.model.specs.Guids.{less, same, nil}
use Rattle.model.specs.Sets.{members, set_of, insert, remove}

pub members_of : (s : List Guid) → members (set_of s) ≡ s
unfolding set_of
members_of s = take_at s (replicate (16 - length s) nil) (length s) refl

pub insert-le : (g : Guid) (s : List Guid) → length (insert g s) ≤ length s + 1
unfolding insert
insert-le g [] = omega arith
insert-le g (x ∷ xs) = by (insert-le g xs) (less x g) (same x g)
  where
    by : length (insert g xs) ≤ length xs + 1 → (b c : Bool) → length (cond b (x ∷ insert g xs) (cond c (x ∷ xs) (g ∷ x ∷ xs))) ≤ suc (length xs) + 1
    by i true c = omega arith
    by i false true = omega arith
    by i false false = omega arith

pub remove-le : (g : Guid) (s : List Guid) → length (remove g s) ≤ length s
unfolding remove
remove-le g [] = omega arith
remove-le g (x ∷ xs) = by (remove-le g xs) (same x g)
  where
    by : length (remove g xs) ≤ length xs → (b : Bool) → length (cond b xs (x ∷ remove g xs)) ≤ suc (length xs)
    by i true = omega arith
    by i false = omega arith
