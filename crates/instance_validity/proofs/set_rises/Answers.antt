use mathlib.Core.Path.{refl, sym, ◌∙◌}
use native.Mathlib.Omega.{arith}
use Rattle.instance_validity.proofs.Rise.{rise_stop, rise_turn}
use Rattle.instance_validity.proofs.set_rises.Goals as goal

pub loop-left-init : goal.loop-left-init
loop-left-init c = (omega arith, omega arith, refl)

pub returns-then-not-six_rise : goal.returns-then-not-six_rise
returns-then-not-six_rise c =
    let a = c.args in
    let l = c.loop-left in
    sym (l.invariant.2 ∙ rise_stop a.s.now 5 l.left l.at (omega arith) (sym c.six_rise.ensures ∙ c.if-not-six_rise.true))

pub loop-left-preserved : goal.loop-left-preserved
loop-left-preserved c =
    let a = c.args in
    let l = c.loop-left in (
      omega arith,
      omega arith,
      l.invariant.2 ∙ rise_turn a.s.now 5 l.left l.at (omega arith) (sym c.six_rise.ensures ∙ c.if-not-six_rise.false),
    )

pub returns : goal.returns
returns c = c.few_rise.ensures ∙ sym c.loop-left.invariant.2
