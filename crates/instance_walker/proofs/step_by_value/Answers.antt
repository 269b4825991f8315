-- `instance_walker::step_by_value` meets its contract, by the case of the answer.
use mathlib.Core.Path.{sym, ◌∙◌}
use native.Mathlib.Omega.{arith}
use Rattle.instance_walker.proofs.Steps.{inside, step-refused, step_none, step_given}
use Rattle.instance_walker.proofs.step_by_value.Goals as goal

pub overflow_add-next : goal.overflow_add-next
overflow_add-next c =
    let a = c.args in
    let f = c.handle_at_position-found in
    record { fits = omega (arith, inside a.pens.now a.position c.in-Is.field-0 (sym f.ensures ∙ c.in-Is.is)) }

pub returns-in-Refused : goal.returns-in-Refused
returns-in-Refused c =
    let a = c.args in
    step-refused a.pens.now a.position _ c.handle_at_position-found.ensures _ c.in-Refused.is

pub returns-in-Missing : goal.returns-in-Missing
returns-in-Missing c =
    let a = c.args in
    step_none a.pens.now a.position _ c.handle_at_position-found.ensures c.in-Missing.is

pub returns-in-Is : goal.returns-in-Is
returns-in-Is c =
    let a = c.args in
    step_given a.pens.now a.position _ c.handle_at_position-found.ensures _ c.in-Is.is
