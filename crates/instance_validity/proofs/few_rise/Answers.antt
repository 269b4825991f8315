use mathlib.Core.Path.{sym, ◌∙◌}
use native.Mathlib.Omega.{arith}
use Rattle.instance_validity.proofs.Rise.{rise_few, rise_next, rise_stop, rise_turn}
use Rattle.instance_validity.proofs.few_rise.Goals as goal

pub returns-in_default : goal.returns-in_default
returns-in_default c =
    let a = c.args in
    let n = c.loop-left in
    sym (n.invariant.1 ∙ rise_stop a.s.now 1 n.left n.at (omega arith) (rise_next a.s.now n.at ∙ c.in_default.ensures))

pub loop-left-preserved : goal.loop-left-preserved
loop-left-preserved c =
    let a = c.args in
    let n = c.loop-left in (
      omega arith,
      n.invariant.1 ∙ rise_turn a.s.now 1 n.left n.at (omega arith) (rise_next a.s.now n.at ∙ c.in-Some.ensures.0),
    )

pub returns : goal.returns
returns c =
    let l = c.loop-left in
    sym (l.invariant.1 ∙ rise_few c.args.s.now l.left l.at (omega arith))
