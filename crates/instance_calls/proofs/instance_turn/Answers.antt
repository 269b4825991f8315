-- `instance_turn` meets its contract: refused by its sheet, on every instance, or on one.
use mathlib.Core.Path.{sym, ◌∙◌}
use native.Mathlib.Omega.{arith}
use Rattle.model.specs.Instances.{rule}
use Rattle.instance_calls.proofs.Turns.{refused-judged, every-judged, single-judged, by_reach}
use Rattle.instance_calls.proofs.instance_turn.Goals as goal

pub returns-then-number-ne0 : goal.returns-then-number-ne0
returns-then-number-ne0 c =
    let a = c.args in
    refused-judged a.places a.c a.s a.head a.pens.now a.out.now c.instance_refusal-number.result c.instance_refusal-number.ensures
    (λ z. omega (arith, z, c.if-number-ne0.true)) c.refused.result c.refused.ensures

pub every_call-r-requires : goal.every_call-r-requires
every_call-r-requires c =
    (record { few = c.requires.0; size = c.requires.1; formed = c.requires.3 }, omega (arith, c.requires.2), sym c.on_every.ensures ∙ c.if-on_every.true)

pub shape_of-pens-then-on_every : goal.shape_of-pens-then-on_every
shape_of-pens-then-on_every c = c.every_call-r.auto.pens

pub shape_of-out-then-on_every : goal.shape_of-out-then-on_every
shape_of-out-then-on_every c = c.every_call-r.auto.out

pub returns-then-on_every : goal.returns-then-on_every
returns-then-on_every c =
    let t = c.every_call-r in
    let a = c.args in
    every-judged a.places a.c a.s a.head a.pens.now a.out.now (λ st. sym c.if-number-ne0.false ∙ c.instance_refusal-number.ensures st)
    c.with_instances.result t.new.pens t.new.out t.result t.ensures c.with_instances.ensures

pub single_call-r-requires : goal.single_call-r-requires
single_call-r-requires c =
    (record { few = c.requires.0; size = c.requires.1; formed = c.requires.3 }, by_reach (rule c.args.c).reach (sym c.on_every.ensures ∙ c.if-on_every.false))

pub shape_of-pens : goal.shape_of-pens
shape_of-pens c = c.single_call-r.auto.pens

pub returns : goal.returns
returns c =
    let t = c.single_call-r in
    let a = c.args in
    single-judged a.places a.c a.s a.head a.pens.now a.out.now (λ st. sym c.if-number-ne0.false ∙ c.instance_refusal-number.ensures st)
    c.with_instances-2.result t.new.pens t.result t.ensures c.with_instances-2.ensures
