-- `writer_liveliness::leave_at` meets its contract.
use Rattle.writer_liveliness.proofs.leave_at.Goals as goal

pub returns-then-lost : goal.returns-then-lost
returns-then-lost c = rw c.if-lost.true c.lost_at.ensures

pub returns : goal.returns
returns c = rw c.if-lost.false c.unmatched_at.ensures
