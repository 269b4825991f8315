-- `boundary::read_last` meets its contract.
use mathlib.Core.Path.{◌∙◌}
use Rattle.boundary.proofs.Read.{last_is}
use Rattle.boundary.proofs.read_last.Goals as goal

pub returns : goal.returns
returns c = c.then_some.ensures ∙ last_is c.get_u16-present.ensures c.guid_at.ensures
