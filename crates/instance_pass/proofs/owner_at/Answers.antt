-- Cleared where it is owned so.
use Prim.Native.Nat.{◌*◌}
use mathlib.Core.Path.{refl, sym, ap, ◌∙◌}
use mathlib.Core.List.{List}
use Prim.Native.Nat.{ℕ}
use native.Mathlib.Omega.{arith}
use Rattle.model.specs.InstanceRecord.{instance_of}
use Rattle.instance_decoding.proofs.Rows.{lent-part}
use Rattle.instance_pass.specs.Steps.{owns_as}
use Rattle.instance_pass.proofs.OwnerLaws.{owner-flag, owner-put, owner-kept}
use Rattle.instance_pass.proofs.owner_at.Goals as goal

pub clear_owner-requires : goal.clear_owner-requires
clear_owner-requires c =
    let a = c.args in
    (omega arith, owner-flag a.prefix a.g _ (sym c.owned_in-yes.ensures ∙ c.if-yes.true))

pub returns-then-yes : goal.returns-then-yes
returns-then-yes c =
    let a = c.args in
    let o = c.owned_in-yes in (
      o.ensures ∙ ap (λ (r : List ℕ). owns_as a.prefix a.g (instance_of r).state.owner) (lent-part (a.i * 512) 512 a.pens.now),
      owner-put a.pens.now _ _ c.clear_owner.new.s a.i c.requires (lent-part (a.i * 512) 512 a.pens.now) (omega arith) refl a.prefix a.g
          (sym o.ensures ∙ c.if-yes.true) c.clear_owner.ensures,
    )

pub returns-else-yes : goal.returns-else-yes
returns-else-yes c =
    let a = c.args in
    let o = c.owned_in-yes in (
      o.ensures ∙ ap (λ (r : List ℕ). owns_as a.prefix a.g (instance_of r).state.owner) (lent-part (a.i * 512) 512 a.pens.now),
      owner-kept a.pens.now _ a.i (lent-part (a.i * 512) 512 a.pens.now) a.prefix a.g (sym o.ensures ∙ c.if-yes.false),
    )
