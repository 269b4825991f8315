-- `fresh_head` meets its contract.
use mathlib.Core.Path.{refl}
use Rattle.model.specs.State.{fresh}
use Rattle.dcps.proofs.fresh_head.Goals as goal

pub returns : goal.returns
unfolding fresh
returns c = refl
