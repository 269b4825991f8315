-- `should_deliver_under_time_based_filter` meets its contract, by its tests and what it calls.
use mathlib.Core.Path.{sym, ◌∙◌}
use Rattle.instance_reads.proofs.Answers.{filter-is, filter-refused, table-free}
use Rattle.instance_reads.proofs.should_deliver_under_time_based_filter.Goals as goal

pub returns-then-number-ne0 : goal.returns-then-number-ne0
returns-then-number-ne0 c = rw (← c.places_in-places.ensures.places) (filter-refused _ _ _ _ _ c.time_refusal-number.ensures _ c.if-number-ne0.true)

pub times_of-times-requires : goal.times_of-times-requires
times_of-times-requires c = (c.places_in-places.ensures.few, table-free _ _ _ (sym c.time_refusal-number.ensures ∙ c.if-number-ne0.false))

pub returns : goal.returns
returns c =
    rw (← c.places_in-places.ensures.places)
    (filter-is _ _ _ _ _ c.time_refusal-number.ensures _ c.times_of-times.ensures _ c.bits_of_time-candidate.ensures _ _
    c.if-number-ne0.false c.filter_admits.ensures)
