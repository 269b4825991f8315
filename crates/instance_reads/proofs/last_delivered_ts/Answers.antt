-- `last_delivered_ts` meets its contract, by its tests and what it calls.
use mathlib.Core.Path.{◌∙◌}
use mir.Syntax.{w32}
use mir.ValLaws.{to_z-of_z}
use Rattle.instance_reads.proofs.Answers.{delivered_is, delivered_missing, delivered_refused}
use Rattle.instance_reads.proofs.last_delivered_ts.Goals as goal

pub returns-then-number-ne0 : goal.returns-then-number-ne0
returns-then-number-ne0 c = rw (← c.places_in-places.ensures.places) (delivered_refused _ _ _ _ c.refusal_of-number.ensures c.if-number-ne0.true)

pub returns-then-not-present : goal.returns-then-not-present
returns-then-not-present c =
    rw (← c.places_in-places.ensures.places)
    (delivered_missing _ _ _ _ c.refusal_of-number.ensures _ c.times_of-times.ensures c.if-number-ne0.false (c.if-not-present.true))

pub returns : goal.returns
returns c =
    rw (← c.places_in-places.ensures.places)
    (delivered_is _ _ _ _ c.refusal_of-number.ensures _ c.times_of-times.ensures c.if-number-ne0.false
    (c.if-not-present.false) _ (to_z-of_z w32 c.of_bits-sec.result (record { sfits = c.of_bits-sec.type_inv }) ∙ c.of_bits-sec.ensures))
