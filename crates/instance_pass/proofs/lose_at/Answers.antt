-- One record of the pass.
use Prim.Native.Nat.{◌*◌}
use mathlib.Core.Path.{refl}
use Rattle.instance_decoding.proofs.Rows.{lent-part}
use Rattle.writer_set_bytes.specs.Lists.{gones_in}
use Rattle.instance_pass.proofs.LossLaws.{lost-one}
use Rattle.instance_pass.proofs.EditLaws.{formed-part}
use Rattle.instance_pass.proofs.lose_at.Goals as goal

pub lose-told-requires : goal.lose-told-requires
lose-told-requires c = formed-part c.args.pens.now c.args.i c.requires.1

pub returns : goal.returns
returns c =
    let a = c.args in
    let w = a.loss.now in
    lost-one w.clears (gones_in w.gone.list.now) w.at a.i a.pens.now a.out.now _ c.note.new.out _ c.lose-told.new.s a.tally c.with_told.result
    c.lose-told.result c.handle_at-h.result c.requires.0.kept (lent-part (a.i * 512) 512 a.pens.now) c.handle_at-h.ensures refl c.lose-told.ensures c.note.ensures c.with_told.ensures
