use Rattle.dcps.proofs.Numbers.{status_number}
use Rattle.dcps.proofs.status.Goals as goal

pub returns : goal.returns
returns c = record { case = c.status.ensures; number = status_number _ c.status.ensures }
