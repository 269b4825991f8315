-- `owner_apart` meets its contract.
use mathlib.Core.Logic.{inl, inr}
use mathlib.Core.Path.{sym, ap, ◌∙◌}
use borrow.Author.Tests.{ltb-true}
use Rattle.model.specs.declared.Guid.{Guid}
use Rattle.model.specs.Guids.{num, less, guid_at}
use Rattle.model.specs.InstanceRecord.{instance_of}
use Rattle.instance_edits.proofs.owner_apart.Goals as goal

pub returns-then-is_less : goal.returns-then-is_less
unfolding instance_of
returns-then-is_less c r =
    inl (ltb-true (num (guid_at c.args.s.now 92)) (num c.args.w.low)
    (ap (λ (g : Guid). less g c.args.w.low) (sym c.guid_at-owner.ensures) ∙ sym c.is_less.ensures ∙ c.if-is_less.true))

pub returns-else-is_less : goal.returns-else-is_less
unfolding instance_of
returns-else-is_less c r =
    inr (ltb-true (num c.args.w.high) (num (guid_at c.args.s.now 92))
    (ap (λ (g : Guid). less c.args.w.high g) (sym c.guid_at-owner.ensures) ∙ sym c.is_less-else-is_less.ensures ∙ r))
