use Rattle.dcps.proofs.Numbers.{walk_number}
use Rattle.dcps.proofs.handle_at_position.Goals as goal

pub returns : goal.returns
returns c = record { case = c.handle_at_position.ensures; number = walk_number _ _ _ c.handle_at_position.ensures }
