-- `set_apart` meets its contract.
use mathlib.Core.Path.{sym, ap, ◌∙◌}
use native.Mathlib.Omega.{arith}
use Rattle.model.specs.declared.Guid.{Guid}
use Rattle.model.specs.Guids.{less}
use Rattle.instance_edits.proofs.RecordReads.{apart_high, apart_low, apart_none, few-writers}
use Rattle.instance_edits.proofs.set_apart.Goals as goal

pub returns-then-is_less : goal.returns-then-is_less
returns-then-is_less c r =
    apart_high c.args.s.now c.requires c.args.w
    (ap (λ (g : Guid). less c.args.w.high g) (sym c.guid_at.ensures) ∙ sym c.is_less.ensures ∙ c.if-is_less.true)

pub guid_at-requires-else-n-eq0 : goal.guid_at-requires-else-n-eq0
guid_at-requires-else-n-eq0 c =
    omega (arith, few-writers c.args.s.now c.requires, c.get_u16.ensures, c.requires.size)

pub returns-then-n-eq0 : goal.returns-then-n-eq0
returns-then-n-eq0 c r = apart_none c.args.s.now c.requires c.args.w (omega arith)

pub returns-else-n-eq0 : goal.returns-else-n-eq0
returns-else-n-eq0 c r =
    apart_low c.args.s.now c.requires c.args.w (omega arith)
    (rw (← c.get_u16.ensures, ← c.from-n.ensures)
    (ap (λ (g : Guid). less g c.args.w.low) (sym c.guid_at-else-n-eq0.ensures) ∙ sym c.is_less-else-n-eq0.ensures ∙ r))
