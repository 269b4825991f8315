-- `next_handle_after` meets its contract, by its tests and what it calls.
use mathlib.Core.Path.{sym, ◌∙◌}
use native.Mathlib.Omega.{arith}
use Rattle.instance_reads.proofs.Table.{whole}
use Rattle.instance_reads.proofs.Walks.{next-refused, next-first, next-after, place_few}
use Rattle.instance_reads.proofs.next_handle_after.Goals as goal

pub returns-then-number-ne0 : goal.returns-then-number-ne0
returns-then-number-ne0 c = rw (← c.places_in-places.ensures.places) (next-refused _ _ _ c.refusal_of-number.ensures _ c.if-number-ne0.true)

pub returns-then-h-eq0 : goal.returns-then-h-eq0
returns-then-h-eq0 c =
    rw (← c.places_in-places.ensures.places)
    (next-first _ _ _ c.refusal_of-number.ensures c.if-number-ne0.false _ _ c.if-h-eq0.true
    c.handle_in.ensures)

pub used-count-requires : goal.used-count-requires
used-count-requires c = (whole _ _ (sym c.refusal_of-number.ensures ∙ c.if-number-ne0.false)).size

pub find_handle-place-requires : goal.find_handle-place-requires
find_handle-place-requires c =
    omega (arith, (whole _ _ (sym c.refusal_of-number.ensures ∙ c.if-number-ne0.false)).room, c.used-count.ensures)

pub overflow_add-place : goal.overflow_add-place
overflow_add-place c =
    omega
    (arith, (whole _ _ (sym c.refusal_of-number.ensures ∙ c.if-number-ne0.false)).few, c.places_in-places.ensures.few, c.used-count.ensures, place_few _ _ _ _ c.find_handle-place.ensures)

pub returns : goal.returns
returns c =
    rw (← c.places_in-places.ensures.places)
    (next-after _ _ _ c.refusal_of-number.ensures c.if-number-ne0.false _ _ c.if-h-eq0.false _ _ c.used-count.ensures
    c.find_handle-place.ensures c.handle_in-2.ensures)
