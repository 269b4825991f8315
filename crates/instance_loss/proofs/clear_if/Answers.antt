-- Cleared, or as it was.
use Rattle.instance_loss.proofs.Losing.{cleared_yes, cleared_no}
use Rattle.instance_loss.proofs.clear_if.Goals as goal

pub clear_owner-requires : goal.clear_owner-requires
clear_owner-requires c = (c.requires.0, c.requires.1 c.if-yes.true)

pub returns-then-yes : goal.returns-then-yes
returns-then-yes c = cleared_yes c.args.yes c.if-yes.true c.clear_owner.ensures

pub returns-else-yes : goal.returns-else-yes
returns-else-yes c = cleared_no c.args.yes c.if-yes.false
