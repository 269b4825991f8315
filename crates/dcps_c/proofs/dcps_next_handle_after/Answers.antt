-- `dcps_next_handle_after` meets its contract.
use Rattle.dcps_c.proofs.Tellings.{handled}
use Rattle.dcps_c.proofs.dcps_next_handle_after.Goals as goal

pub returns : goal.returns
returns c =
    handled _ _ c.tell.ensures c.handle_answer.ensures c.next_handle_after-f.ensures.case
