-- `dcps_holder_in_force` meets its contract.
use Rattle.dcps_c.proofs.Tellings.{placed}
use Rattle.dcps_c.proofs.dcps_holder_in_force.Goals as goal

pub returns : goal.returns
returns c =
    placed _ _ c.tell.ensures c.holder_place-p.result c.holder_answer-a.ensures c.holder_place-p.ensures.place
