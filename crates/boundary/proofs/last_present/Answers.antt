-- `boundary::last_present` meets its contract.
use mathlib.Core.Path.{ap, ◌∙◌}
use Rattle.std.specs.Int.{from_bool}
use Rattle.boundary.proofs.Read.{present_is}
use Rattle.boundary.proofs.last_present.Goals as goal

pub returns : goal.returns
returns c = c.from.ensures ∙ ap from_bool c.is_some.ensures ∙ present_is c.args.last
