-- `would_leave_writerless` meets its contract, by its test and what it calls.
use mathlib.Core.Path.{sym, ◌∙◌}
use native.Mathlib.Omega.{arith}
use Rattle.instance_reads.proofs.Left.{list-free, would_refused, would_is}
use Rattle.instance_reads.proofs.Table.{whole}
use Rattle.instance_reads.proofs.would_leave_writerless.Goals as goal

pub returns-then-number-ne0 : goal.returns-then-number-ne0
returns-then-number-ne0 c =
    rw (← c.places_in-places.ensures.places) (would_refused _ _ _ _ _ c.list_refusal-number.ensures c.if-number-ne0.true)

pub used-count-requires : goal.used-count-requires
used-count-requires c =
    (whole _ _ (list-free _ _ _ (sym c.list_refusal-number.ensures ∙ c.if-number-ne0.false))).size

pub left_place-place-requires : goal.left_place-place-requires
left_place-place-requires c =
    (list-free _ _ _ (sym c.list_refusal-number.ensures ∙ c.if-number-ne0.false), c.used-count.ensures, omega arith)

pub returns : goal.returns
returns c =
    rw (← c.places_in-places.ensures.places)
    (would_is _ _ _ _ _ c.list_refusal-number.ensures c.if-number-ne0.false _ _ c.used-count.ensures c.left_place-place.ensures)
