-- `dcps_call` meets its contract: wrong lengths first, then the call on the head that was read.
use Rattle.std.proofs.Common.{rules, ◌≡◌, ◌∙◌, ap}
use Rattle.dcps_c.specs.Boundary.{head_or, called_head}
use Rattle.dcps_c.proofs.Crossing.{short_answer, short_head, made}
use Rattle.dcps_c.proofs.dcps_call.Goals as goal

pub returns-in_default : goal.returns-in_default
returns-in_default c =
    let a = c.args in
    short_answer a.head.now a.sheet.now a.pens.now a.writers.now a.lost.now a.out.now a.answer.now _
    c.in_default.ensures.cases c.unanswered.ensures

pub returns-in_default-as_mut_array : goal.returns-in_default-as_mut_array
returns-in_default-as_mut_array c =
    let a = c.args in
    short_head a.head.now a.sheet.now a.pens.now a.writers.now a.lost.now a.out.now a.answer.now _ _ (search rules)
    c.in_default-as_mut_array.ensures.cases c.refuse.ensures.number c.refuse.ensures.bytes

pub returns : goal.returns
returns c =
    let a = c.args in
    let whole : c.in-Some-as_mut_array.head.now ≡ a.head.now = search rules in
    made a.head.now a.sheet.now a.pens.now a.writers.now a.lost.now a.out.now a.answer.now c.lent_head.result
    c.call-r.result c.settle.result _ _ _ _ _ _ (search rules) (search rules) (c.lent_head.ensures ∙ ap head_or whole)
    c.call-r.ensures c.settle.ensures.number (c.settle.ensures.head ∙ ap (called_head c.call-r.result) whole)
    c.settle.ensures.answer
