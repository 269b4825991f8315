-- Nobody, or all at once.
use Rattle.instance_pass.proofs.LossLaws.{losses_passed, none_passed}
use Rattle.writer_set_bytes.specs.Lists.{gones_in}
use Rattle.instance_pass.proofs.lose_writers.Goals as goal

pub returns-then-gone-lt16 : goal.returns-then-gone-lt16
returns-then-gone-lt16 c =
    let a = c.args in
    none_passed a.at a.gone.now a.count a.pens.now a.out.now c.if-gone-lt16.true

pub returns : goal.returns
returns c =
    let a = c.args in
    let r = c.lose_every in
    losses_passed a.count a.pens.now a.out.now r.new.pens r.new.out r.result c.requires.0 (gones_in a.gone.now) a.at r.ensures
