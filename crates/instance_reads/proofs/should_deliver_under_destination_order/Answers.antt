-- `should_deliver_under_destination_order` meets its contract, by its tests and what it calls.
use mathlib.Core.Path.{sym, ◌∙◌}
use Rattle.instance_reads.proofs.Answers.{order-any, order_is, order-refused, table-free}
use Rattle.instance_reads.proofs.should_deliver_under_destination_order.Goals as goal

pub returns-then-number-ne0 : goal.returns-then-number-ne0
returns-then-number-ne0 c = rw (← c.places_in-places.ensures.places) (order-refused _ _ _ _ _ c.time_refusal-number.ensures _ c.if-number-ne0.true)

pub returns-then-not-by_source : goal.returns-then-not-by_source
returns-then-not-by_source c =
    rw (← c.places_in-places.ensures.places)
    (order-any _ _ _ _ _ c.time_refusal-number.ensures _ c.if-number-ne0.false (c.if-not-by_source.true))

pub times_of-times-requires : goal.times_of-times-requires
times_of-times-requires c = (c.places_in-places.ensures.few, table-free _ _ _ (sym c.time_refusal-number.ensures ∙ c.if-number-ne0.false))

pub returns : goal.returns
returns c =
    rw (← c.places_in-places.ensures.places)
    (order_is _ _ _ _ _ c.time_refusal-number.ensures _ c.times_of-times.ensures _ c.bits_of_time-candidate.ensures _ _
    c.if-number-ne0.false (c.if-not-by_source.false) c.order_admits.ensures)
