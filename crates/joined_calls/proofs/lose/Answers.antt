-- `joined_calls::lose` meets its contract: what a pass leaves.
use native.Mathlib.Omega.{arith}
use Rattle.joined_calls.proofs.Losing.{loss_few, loss_passed}
use Rattle.joined_calls.proofs.lose.Goals as goal

pub overflow_cast-tally : goal.overflow_cast-tally
overflow_cast-tally c =
    let a = c.args in
    let p = c.lose_writers-tally in
    let w = loss_few a.s a.gone.now a.called.head.instance_count a.pens.now a.out.now p.new.pens p.new.out p.result
    c.if_present.result c.if_present.ensures p.ensures c.requires.1 c.requires.0 in
    omega (arith, w.counted)

pub overflow_cast-tally-2 : goal.overflow_cast-tally-2
overflow_cast-tally-2 c =
    let a = c.args in
    let p = c.lose_writers-tally in
    let w = loss_few a.s a.gone.now a.called.head.instance_count a.pens.now a.out.now p.new.pens p.new.out p.result
    c.if_present.result c.if_present.ensures p.ensures c.requires.1 c.requires.0 in
    omega (arith, w.listed)

pub returns : goal.returns
returns c =
    let a = c.args in
    let p = c.lose_writers-tally in
    loss_passed a.s a.gone.now a.called.head.instance_count a.pens.now a.out.now p.new.pens p.new.out p.result
    c.if_present.result c.if_present.ensures p.ensures a.called c.with_list.result c.with_list.ensures
