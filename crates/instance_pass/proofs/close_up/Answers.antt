-- A record goes to its place, where it may stand already.
use mathlib.Core.Path.{refl}
use Rattle.instance_pass.proofs.PassLaws.{stood, shifted}
use Rattle.instance_pass.proofs.close_up.Goals as goal

pub returns-then-k-i : goal.returns-then-k-i
returns-then-k-i c =
    let a = c.args in
    shifted a.pens.now c.move_down.new.b a.k a.i c.move_down.ensures

pub returns-else-k-i : goal.returns-else-k-i
returns-else-k-i c =
    let a = c.args in
    stood a.pens.now a.pens.now a.k a.i c.if-k-i.false refl
