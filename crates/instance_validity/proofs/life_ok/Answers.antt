-- `life_ok` meets its contract: its callees' equations say so.
use Rattle.model.specs.WellFormed.{life_ok}
use Rattle.instance_validity.proofs.life_ok.Goals as goal

pub returns : goal.returns
unfolding life_ok
returns c = rw (c.get_u32-n.ensures, c.get_u32-d.ensures)
