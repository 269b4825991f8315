-- `dcps_would_leave_writerless` meets its contract.
use Rattle.dcps_c.proofs.Tellings.{decided}
use Rattle.dcps_c.proofs.dcps_would_leave_writerless.Goals as goal

pub returns : goal.returns
returns c =
    decided _ _ c.tell.ensures c.decision_answer.ensures c.would_leave_writerless-d.ensures.case
