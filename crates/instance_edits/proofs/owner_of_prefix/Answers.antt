-- `owner_of_prefix` meets its contract.
use Prim.Native.Nat.{ℕ, ◌/◌, ◌%◌}
use mathlib.Core.Path.{sym, ap, ◌∙◌}
use lib.Dec.{eqb}
use Rattle.instance_edits.proofs.RecordReads.{prefix-other, prefix-there}
use Rattle.instance_edits.proofs.owner_of_prefix.Goals as goal

pub returns-then-same_prefix : goal.returns-then-same_prefix
returns-then-same_prefix c =
    ap (λ (f : ℕ). eqb (f / 128 % 2) 1) c.get_u16.ensures
    ∙ prefix-there c.args.s.now c.args.g c.guid_at.result c.guid_at.ensures (sym c.same_prefix.ensures ∙ c.if-same_prefix.true)

pub returns-else-same_prefix : goal.returns-else-same_prefix
returns-else-same_prefix c = c.if-same_prefix.false ∙ prefix-other c.args.s.now c.args.g c.guid_at.result c.guid_at.ensures (sym c.same_prefix.ensures ∙ c.if-same_prefix.false)
