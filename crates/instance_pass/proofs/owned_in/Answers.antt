-- The one test or the other.
use Rattle.instance_pass.proofs.owned_in.Goals as goal

pub returns-then-prefix : goal.returns-then-prefix
returns-then-prefix c = rw c.if-prefix.true c.owner_of_prefix.ensures

pub returns : goal.returns
returns c = rw c.if-prefix.false c.owner_is.ensures
