use Rattle.dcps.proofs.Numbers.{delivered_number}
use Rattle.dcps.proofs.last_delivered_ts.Goals as goal

pub returns : goal.returns
returns c = record { case = c.last_delivered_ts.ensures; number = delivered_number _ _ _ c.last_delivered_ts.ensures }
