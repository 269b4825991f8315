-- `dcps_should_deliver_under_destination_order` meets its contract.
use mathlib.Core.Bool.{not}
use mathlib.Core.Path.{ap, ◌∙◌}
use borrow.Author.Rules.{rules}
use lib.Dec.{eqb}
use lib.IntN.{ℤ}
use mir.Facts.{to_z-of_z}
use mir.Syntax.{w32}
use mir.Val.{SFits}
use Rattle.model.specs.State.{places_in}
use Rattle.model.specs.Reads.{order_read}
use Rattle.dcps_c.specs.Reads.{guid_of, time_at}
use Rattle.dcps_c.proofs.Tellings.{decided}
use Rattle.dcps_c.proofs.dcps_should_deliver_under_destination_order.Goals as goal

pub should_deliver_under_destination_order-d-requires : goal.should_deliver_under_destination_order-d-requires
should_deliver_under_destination_order-d-requires c = search rules

pub returns : goal.returns
returns c =
    let a = c.args in
    let fits : SFits w32 a.sec = search rules in
    decided _ _ c.tell.ensures c.decision_answer.ensures
    (c.should_deliver_under_destination_order-d.ensures.case
    ∙ ap (λ (z : ℤ). order_read (places_in a.pens.now) a.pens.now (guid_of a.high a.low) (time_at z a.nanosec) (not (eqb a.by_source 0))) (to_z-of_z fits))
