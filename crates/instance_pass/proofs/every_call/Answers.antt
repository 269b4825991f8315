-- A call on every instance.
use mathlib.Core.Path.{ap, ◌∙◌}
use native.Mathlib.Omega.{arith}
use borrow.Author.Rules.{rules}
use Rattle.model.specs.declared.Rule.{Rule}
use Rattle.instance_pass.specs.EveryCalls.{answer_as}
use Rattle.instance_pass.proofs.CallLaws.{every-few, every-left}
use Rattle.instance_pass.proofs.EditLaws.{table_editable}
use Rattle.instance_pass.proofs.every_call.Goals as goal

pub call_pass-tally-requires : goal.call_pass-tally-requires
call_pass-tally-requires c =
    let a = c.args in
    (c.requires.2, table_editable a.places a.count a.next.0 a.pens.now c.requires.0, c.requires.1)

pub answered-requires : goal.answered-requires
answered-requires c =
    let a = c.args in
    let r = c.call_pass-tally in
    let w = every-few a.places a.count a.next.0 a.c a.s a.pens.now a.out.now r.new.pens r.new.out r.result c.requires.0 r.ensures in
    (w.listed, omega (arith, w.counted))

pub overflow_cast-result : goal.overflow_cast-result
overflow_cast-result c =
    let a = c.args in
    let r = c.call_pass-tally in
    let w = every-few a.places a.count a.next.0 a.c a.s a.pens.now a.out.now r.new.pens r.new.out r.result c.requires.0 r.ensures in
    omega (arith, w.kept)

pub returns : goal.returns
returns c =
    let a = c.args in
    let r = c.call_pass-tally in
    every-left a.places a.count a.c a.s a.next a.pens.now a.out.now r.new.pens r.new.out r.result c.answered.result c.requires.2
    (λ j. search rules) c.requires.0 r.ensures (c.answered.ensures ∙ ap (λ (k : Rule). answer_as k.reports r.result.listed r.result.counted) c.rule_of.ensures)
