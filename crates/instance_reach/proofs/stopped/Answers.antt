-- The answer with its number, and the rest as it was.
use Rattle.instance_reach.proofs.stopped.Goals as goal

pub returns : goal.returns
returns c = rw (c.left.ensures, c.refused_with.ensures)
