-- `holder_place` meets its contract, by its test and what it calls.
use mathlib.Core.Path.{sym, ◌∙◌}
use Rattle.instance_reads.proofs.Table.{found_room, found_none}
use Rattle.instance_reads.proofs.Stored.{force_at, place_refused, place_none, place_here}
use Rattle.instance_reads.proofs.holder_place.Goals as goal

pub returns-then-refusal_of-ne0-clause-place : goal.returns-then-refusal_of-ne0-clause-place
returns-then-refusal_of-ne0-clause-place c =
    rw (← c.places_in-places.ensures.places)
    (force_at _ _ _ _ (c.nowhere.ensures ∙ place_refused _ _ _ _ c.refusal_of.ensures c.if-refusal_of-ne0.true)).0

pub returns-then-refusal_of-ne0-clause-force : goal.returns-then-refusal_of-ne0-clause-force
returns-then-refusal_of-ne0-clause-force c =
    rw (← c.places_in-places.ensures.places)
    (force_at _ _ _ _ (c.nowhere.ensures ∙ place_refused _ _ _ _ c.refusal_of.ensures c.if-refusal_of-ne0.true)).1

pub holder_at-requires : goal.holder_at-requires
holder_at-requires c =
    let r = sym c.refusal_of.ensures ∙ c.if-refusal_of-ne0.false in
    found_room _ _ r _ _ _ c.locate.ensures c.in-Ok.is

pub returns-in-Ok-clause-place : goal.returns-in-Ok-clause-place
returns-in-Ok-clause-place c =
    let r = sym c.refusal_of.ensures ∙ c.if-refusal_of-ne0.false in
    rw (← c.places_in-places.ensures.places)
    (force_at _ _ _ _ (place_here _ _ _ r _ _ c.locate.ensures c.in-Ok.is _ c.holder_at.ensures)).0

pub returns-in-Ok-clause-force : goal.returns-in-Ok-clause-force
returns-in-Ok-clause-force c =
    let r = sym c.refusal_of.ensures ∙ c.if-refusal_of-ne0.false in
    rw (← c.places_in-places.ensures.places)
    (force_at _ _ _ _ (place_here _ _ _ r _ _ c.locate.ensures c.in-Ok.is _ c.holder_at.ensures)).1

pub returns-in-Err-clause-place : goal.returns-in-Err-clause-place
returns-in-Err-clause-place c =
    let r = sym c.refusal_of.ensures ∙ c.if-refusal_of-ne0.false in
    rw (← c.places_in-places.ensures.places)
    (force_at _ _ _ _ (c.nowhere-in-Err.ensures ∙ place_none _ _ _ r (found_none _ _ r _ _ _ c.locate.ensures c.in-Err.is))).0

pub returns-in-Err-clause-force : goal.returns-in-Err-clause-force
returns-in-Err-clause-force c =
    let r = sym c.refusal_of.ensures ∙ c.if-refusal_of-ne0.false in
    rw (← c.places_in-places.ensures.places)
    (force_at _ _ _ _ (c.nowhere-in-Err.ensures ∙ place_none _ _ _ r (found_none _ _ r _ _ _ c.locate.ensures c.in-Err.is))).1
