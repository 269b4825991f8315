-- `view_in` meets its contract, by its test.
use Rattle.instance_reads.proofs.view_in.Goals as goal

pub returns-then-view_new : goal.returns-then-view_new
returns-then-view_new c = rw c.if-view_new.true

pub returns-else-view_new : goal.returns-else-view_new
returns-else-view_new c = rw c.if-view_new.false
