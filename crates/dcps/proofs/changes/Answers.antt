use Rattle.dcps.proofs.Numbers.{changes-number}
use Rattle.dcps.proofs.changes.Goals as goal

pub returns : goal.returns
returns c = record { case = c.changes.ensures; number = changes-number _ c.changes.ensures }
