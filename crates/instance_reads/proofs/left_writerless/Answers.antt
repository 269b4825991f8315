-- `left_writerless` meets its contract, by its tests and what it calls.
use mathlib.Core.Path.{sym, ◌∙◌}
use native.Mathlib.Omega.{arith}
use Rattle.instance_reads.proofs.Left.{list-free}
use Rattle.instance_reads.proofs.Lists.{listed-few, left_short, left-number, left-refused, left-listed}
use Rattle.instance_reads.proofs.Table.{whole, count-table}
use Rattle.instance_reads.proofs.left_writerless.Goals as goal

pub returns-then-out-ne4096-clause-answer : goal.returns-then-out-ne4096-clause-answer
returns-then-out-ne4096-clause-answer c =
    (left-refused _ _ _ _ _ (left_short _ _ _ _ c.if-out-ne4096.true) _ (λ z. omega arith)).0

pub returns-then-out-ne4096-clause-list : goal.returns-then-out-ne4096-clause-list
returns-then-out-ne4096-clause-list c =
    (left-refused _ _ _ _ _ (left_short _ _ _ _ c.if-out-ne4096.true) _ (λ z. omega arith)).1

pub returns-then-number-ne0-clause-answer : goal.returns-then-number-ne0-clause-answer
returns-then-number-ne0-clause-answer c =
    rw (← c.places_in-places.ensures.places)
    (left-refused _ _ _ _ _ (left-number _ _ _ _ c.if-out-ne4096.false _ c.list_refusal-number.ensures) _ c.if-number-ne0.true).0

pub returns-then-number-ne0-clause-list : goal.returns-then-number-ne0-clause-list
returns-then-number-ne0-clause-list c =
    rw (← c.places_in-places.ensures.places)
    (left-refused _ _ _ _ _ (left-number _ _ _ _ c.if-out-ne4096.false _ c.list_refusal-number.ensures) _ c.if-number-ne0.true).1

pub list_all_left-n-requires : goal.list_all_left-n-requires
list_all_left-n-requires c =
    (list-free _ _ _ (sym c.list_refusal-number.ensures ∙ c.if-number-ne0.false), omega arith, omega (arith, c.if-out-ne4096.false, c.places_in-places.ensures.few))

pub overflow_cast-result : goal.overflow_cast-result
overflow_cast-result c =
    let r = list-free _ _ _ (sym c.list_refusal-number.ensures ∙ c.if-number-ne0.false) in
    omega (arith, listed-few c.list_all_left-n.ensures, count-table c.places_in-places.result c.args.pens.now, (whole _ _ r).few, c.places_in-places.ensures.few)

pub returns-clause-answer : goal.returns-clause-answer
returns-clause-answer c =
    rw (← c.places_in-places.ensures.places)
    (left-listed _ _ _ _ _ (left-number _ _ _ _ c.if-out-ne4096.false _ c.list_refusal-number.ensures) _ c.if-number-ne0.false _ _
    c.list_all_left-n.ensures).0

pub returns-clause-list : goal.returns-clause-list
returns-clause-list c =
    rw (← c.places_in-places.ensures.places)
    (left-listed _ _ _ _ _ (left-number _ _ _ _ c.if-out-ne4096.false _ c.list_refusal-number.ensures) _ c.if-number-ne0.false _ _
    c.list_all_left-n.ensures).1
