-- `write_new_head` meets its contract.
use Rattle.dcps_c.proofs.Crossing.{head-written, head-kept}
use Rattle.dcps_c.proofs.write_new_head.Goals as goal

pub returns-then-r-eq0 : goal.returns-then-r-eq0
returns-then-r-eq0 c = head-written c.args.r c.args.head.now c.write_head.new.b c.if-r-eq0.true c.write_head.ensures

pub returns-else-r-eq0 : goal.returns-else-r-eq0
returns-else-r-eq0 c = head-kept c.args.r c.args.head.now c.if-r-eq0.false
