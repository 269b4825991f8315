use Rattle.dcps.proofs.Numbers.{would_number}
use Rattle.dcps.proofs.would_leave_writerless.Goals as goal

pub returns : goal.returns
returns c = record { case = c.would_leave_writerless.ensures; number = would_number _ _ _ _ c.would_leave_writerless.ensures }
