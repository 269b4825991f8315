-- The pass.
use mathlib.Core.Path.{◌≡◌, refl}
use lib.ListN.{length}
use Rattle.model.specs.Instances.{strength_updated}
use Rattle.instance_pass.specs.Steps.{strength_act}
use Rattle.instance_pass.proofs.OwnerLaws.{Changing}
use Rattle.instance_pass.proofs.set_strengths.Given as goal

abbrev pub invariant-loop-i : goal.invariant-loop-i
invariant-loop-i l = (length l.pens ≡ length l.initial.pens) × Changing (strength_act l.s.guid l.s.second) (strength_updated l.s.guid l.s.second) (λ x. refl) (λ x. refl) l.count l.initial.pens l.i 0 l.pens
