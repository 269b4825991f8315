-- Put where the owner is g.
use Prim.Native.Nat.{◌*◌}
use mathlib.Core.Path.{refl, sym, ◌∙◌}
use native.Mathlib.Omega.{arith}
use Rattle.instance_decoding.proofs.Rows.{lent-part}
use Rattle.instance_pass.proofs.OwnerLaws.{strength_put, strength_kept}
use Rattle.instance_pass.proofs.strength_at.Goals as goal

pub returns-then-owner_is : goal.returns-then-owner_is
returns-then-owner_is c =
    let a = c.args in
    strength_put a.pens.now _ _ c.put_strength.new.s a.i c.requires (lent-part (a.i * 512) 512 a.pens.now) (omega arith) refl a.g a.strength
    (sym c.owner_is.ensures ∙ c.if-owner_is.true) c.put_strength.ensures

pub returns-else-owner_is : goal.returns-else-owner_is
returns-else-owner_is c =
    let a = c.args in
    strength_kept a.pens.now _ a.i (lent-part (a.i * 512) 512 a.pens.now) a.g a.strength (sym c.owner_is.ensures ∙ c.if-owner_is.false)
