-- `dcps_last_delivered_ts` meets its contract.
use Rattle.dcps_c.proofs.Tellings.{timed}
use Rattle.dcps_c.proofs.dcps_last_delivered_ts.Goals as goal

pub returns : goal.returns
returns c = timed _ _ c.tell.ensures c.time_answer.ensures c.last_delivered_ts-f.ensures.case
