-- `owner_is` meets its contract.
use Prim.Native.Nat.{ℕ, ◌/◌, ◌%◌}
use mathlib.Core.Path.{sym, ap, ◌∙◌}
use lib.Dec.{eqb}
use Rattle.instance_edits.proofs.RecordReads.{owner-other, owner-there}
use Rattle.instance_edits.proofs.owner_is.Goals as goal

pub returns-then-is_same : goal.returns-then-is_same
returns-then-is_same c =
    ap (λ (f : ℕ). eqb (f / 128 % 2) 1) c.get_u16.ensures
    ∙ owner-there c.args.s.now c.args.g c.guid_at.result c.guid_at.ensures (sym c.is_same.ensures ∙ c.if-is_same.true)

pub returns-else-is_same : goal.returns-else-is_same
returns-else-is_same c = c.if-is_same.false ∙ owner-other c.args.s.now c.args.g c.guid_at.result c.guid_at.ensures (sym c.is_same.ensures ∙ c.if-is_same.false)
