use mathlib.Core.Path.{refl}
use native.Mathlib.Omega.{arith}
use Rattle.writer_set_bytes.specs.Lists.{gones_in}
use Rattle.instance_pass.specs.Steps.{loss_by}
use Rattle.instance_pass.proofs.LossLaws.{by_bounded}
use Rattle.instance_pass.proofs.EditLaws.{record_formed}
use Rattle.instance_pass.proofs.PassLaws.{during_start, during_ahead, during_turn, during_over}
use Rattle.instance_pass.proofs.lose_over.Goals as goal

pub loop-i-init : goal.loop-i-init
loop-i-init c =
    let a = c.args in
    let w = a.loss.now in
    during_start (loss_by w.clears (gones_in w.gone.list.now) w.at) a.count a.pens.now a.out.now

pub lose_at-tally-requires : goal.lose_at-tally-requires
lose_at-tally-requires c =
    let a = c.args in
    let w = a.loss.now in
    let l = c.loop-i in (
      during_ahead (loss_by w.clears (gones_in w.gone.list.now) w.at) a.count a.pens.now a.out.now l.i l.pens l.out l.tally l.invariant (λ x. refl) c.requires.0.few c.requires.0.room c.requires.1 (omega arith),
      record_formed a.count a.pens.now c.requires.0 l.i l.pens (omega arith) l.invariant.long l.invariant.ahead,
    )

pub loop-i-preserved : goal.loop-i-preserved
loop-i-preserved c =
    let a = c.args in
    let w = a.loss.now in
    let l = c.loop-i in
    let r = c.lose_at-tally in
    during_turn (loss_by w.clears (gones_in w.gone.list.now) w.at) a.count a.pens.now a.out.now l.i l.pens l.out l.tally l.invariant c.requires.0.few c.requires.0.room c.requires.1 (omega arith)
    (by_bounded w.clears (gones_in w.gone.list.now) w.at) r.new.pens r.new.out r.result (omega arith) (omega arith) r.ensures

pub returns : goal.returns
returns c =
    let a = c.args in
    let w = a.loss.now in
    let l = c.loop-i in
    during_over (loss_by w.clears (gones_in w.gone.list.now) w.at) a.count a.pens.now a.out.now l.i l.pens l.out l.tally l.invariant (λ x. refl) (omega arith)
