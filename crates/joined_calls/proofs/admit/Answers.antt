-- `joined_calls::admit` meets its contract.
use mathlib.Core.Path.{sym, ◌∙◌}
use Rattle.model.specs.declared.JoinedCall.TheVariants.{Admit}
use Rattle.joined_calls.proofs.Admitting.{admit-left}
use Rattle.joined_calls.proofs.Entering.{sheet-refused}
use Rattle.joined_calls.proofs.admit.Goals as goal

pub returns-then-number-ne0 : goal.returns-then-number-ne0
returns-then-number-ne0 c =
    let a = c.args in
    λ writers lost out e. sheet-refused Admit a.s a.head c.admit_refusal-number.result c.refused.result c.admit_refusal-number.ensures
    c.if-number-ne0.true c.refused.ensures a.head.places a.pens.now writers lost out

pub returns : goal.returns
returns c =
    let a = c.args in
    admit-left a.head.places a.s a.head a.pens.now c.admit-r.new.pens c.admit-r.result c.with_instances.result
    (λ st. sym c.if-number-ne0.false ∙ c.admit_refusal-number.ensures st) c.admit-r.ensures c.with_instances.ensures
