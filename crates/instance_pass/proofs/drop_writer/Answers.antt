-- A list of one.
use native.Mathlib.Omega.{arith}
use Rattle.model.proofs.Fits.{FitsGuid}
use Rattle.instance_pass.proofs.LossLaws.{drop-passed, one-gone, one-listed}
use Rattle.writer_set_bytes.specs.Lists.{gones_in}
use Rattle.instance_pass.proofs.drop_writer.Goals as goal

pub lose_every-requires : goal.lose_every-requires
lose_every-requires c =
    let a = c.args in
    let g = a.s.guid in
    let fits : FitsGuid g = record { high = omega (arith, c.well_formed.1.1.1); low = omega (arith, c.well_formed.1.1.1) } in
    let b = c.put_guid in
    (c.requires.0, one-listed g b.new.s (omega arith) (one-gone g b.new.s fits b.ensures), c.requires.1)

pub returns : goal.returns
returns c =
    let a = c.args in
    let g = a.s.guid in
    let fits : FitsGuid g = record { high = omega (arith, c.well_formed.1.1.1); low = omega (arith, c.well_formed.1.1.1) } in
    let b = c.put_guid in
    let r = c.lose_every in
    drop-passed a.count a.pens.now a.out.now r.new.pens r.new.out r.result c.requires.0 a.s (gones_in b.new.s) c.if_present-at.result
    (one-gone g b.new.s fits b.ensures) c.if_present-at.ensures r.ensures
