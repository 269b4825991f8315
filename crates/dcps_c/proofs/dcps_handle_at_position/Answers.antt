-- `dcps_handle_at_position` meets its contract.
use Rattle.dcps_c.proofs.Tellings.{handled}
use Rattle.dcps_c.proofs.dcps_handle_at_position.Goals as goal

pub returns : goal.returns
returns c =
    handled _ _ c.tell.ensures c.handle_answer.ensures c.handle_at_position-f.ensures.case
