-- `writer_lookup` meets its contract, by its test and what it calls.
use mathlib.Core.Path.{sym, ◌∙◌}
use Rattle.instance_reads.proofs.Table.{whole}
use Rattle.instance_reads.proofs.Walks.{lookup_refused, lookup_is}
use Rattle.instance_reads.proofs.writer_lookup.Goals as goal

pub returns-then-number-ne0 : goal.returns-then-number-ne0
returns-then-number-ne0 c = rw (← c.places_in-places.ensures.places) (lookup_refused _ _ _ c.refusal_of-number.ensures _ c.if-number-ne0.true)

pub used-count-requires : goal.used-count-requires
used-count-requires c = (whole _ _ (sym c.refusal_of-number.ensures ∙ c.if-number-ne0.false)).size

pub returns : goal.returns
returns c =
    rw (← c.places_in-places.ensures.places)
    (lookup_is _ _ _ c.refusal_of-number.ensures c.if-number-ne0.false _ _ _ c.writer_place-place.ensures c.handle_in.ensures)
