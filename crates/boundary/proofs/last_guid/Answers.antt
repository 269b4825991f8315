-- `boundary::last_guid` meets its contract.
use mathlib.Core.Path.{◌∙◌}
use Rattle.boundary.proofs.Read.{guid_is}
use Rattle.boundary.proofs.last_guid.Goals as goal

pub returns : goal.returns
returns c = c.unwrap_or.ensures ∙ guid_is c.args.last
