-- The writer is new, and 16 are there.
use mathlib.Core.Bool.{not}
use mathlib.Core.Path.{sym, ap, ◌∙◌}
use Rattle.instance_reach.proofs.Acting.{crowds-full}
use Rattle.instance_reach.proofs.crowds.Goals as goal

pub returns-then-not-holds : goal.returns-then-not-holds
returns-then-not-holds c = sym (crowds-full c.args.s c.args.x c.requires (sym c.holds.ensures ∙ c.if-not-holds.true))

pub returns-else-not-holds : goal.returns-else-not-holds
returns-else-not-holds c = ap not c.if-not-holds.false ∙ rw (sym c.holds.ensures ∙ c.if-not-holds.false)
