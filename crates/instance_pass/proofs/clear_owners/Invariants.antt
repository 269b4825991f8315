-- The pass.
use Prim.Native.Nat.{◌≤◌}
use mathlib.Core.Path.{◌≡◌, refl}
use lib.ListN.{length}
use Rattle.instance_pass.specs.Steps.{cleared_as, owner_act}
use Rattle.instance_pass.proofs.OwnerLaws.{Changing}
use Rattle.instance_pass.proofs.clear_owners.Given as goal

abbrev pub invariant-loop-i : goal.invariant-loop-i
invariant-loop-i l = (l.n ≤ l.i) × (length l.pens ≡ length l.initial.pens) × Changing (owner_act l.prefix l.g) (cleared_as l.prefix l.g) (λ x. refl) (λ x. refl) l.count l.initial.pens l.i l.n l.pens
