use borrow.Author.Rules.{rules}
use Rattle.dcps.proofs.Numbers.{filter-number}
use Rattle.dcps.proofs.should_deliver_under_time_based_filter.Goals as goal

pub should_deliver_under_time_based_filter-requires : goal.should_deliver_under_time_based_filter-requires
should_deliver_under_time_based_filter-requires c = search rules

pub returns : goal.returns
returns c = record { case = c.should_deliver_under_time_based_filter.ensures; number = filter-number _ _ _ _ _ c.should_deliver_under_time_based_filter.ensures }
