-- `instance_walker::handle_at` meets its contract: what a step answers is what walk_read says.
use mathlib.Core.Path.{ap}
use Rattle.instance_walker.specs.declared.Walked.{Walked}
use Rattle.instance_walker.specs.Walk.{walked}
use Rattle.instance_walker.proofs.handle_at.Goals as goal

pub returns : goal.returns
unfolding walked
returns c = ap (λ (r : Walked). r.found) c.step_at-walked.ensures
