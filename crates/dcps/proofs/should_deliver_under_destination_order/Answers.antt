use borrow.Author.Rules.{rules}
use Rattle.dcps.proofs.Numbers.{order-number}
use Rattle.dcps.proofs.should_deliver_under_destination_order.Goals as goal

pub should_deliver_under_destination_order-requires : goal.should_deliver_under_destination_order-requires
should_deliver_under_destination_order-requires c = search rules

pub returns : goal.returns
returns c = record { case = c.should_deliver_under_destination_order.ensures; number = order-number _ _ _ _ _ c.should_deliver_under_destination_order.ensures }
