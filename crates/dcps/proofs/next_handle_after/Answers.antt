use Rattle.dcps.proofs.Numbers.{next-number}
use Rattle.dcps.proofs.next_handle_after.Goals as goal

pub returns : goal.returns
returns c = record { case = c.next_handle_after.ensures; number = next-number _ _ _ c.next_handle_after.ensures }
