-- `handle_at_position` meets its contract, by its test and what it calls.
use Rattle.instance_reads.proofs.Walks.{walk_refused, walk_is}
use Rattle.instance_reads.proofs.handle_at_position.Goals as goal

pub returns-then-number-ne0 : goal.returns-then-number-ne0
returns-then-number-ne0 c = rw (← c.places_in-places.ensures.places) (walk_refused _ _ _ c.refusal_of-number.ensures _ c.if-number-ne0.true)

pub returns : goal.returns
returns c =
    rw (← c.places_in-places.ensures.places)
    (walk_is _ _ _ c.refusal_of-number.ensures c.if-number-ne0.false _ _ c.handle_in.ensures)
