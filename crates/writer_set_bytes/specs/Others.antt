-- A set of GUIDs without those of a list.
use Rattle.std.specs.Prelude.{not, List}
use Rattle.model.specs.declared.Guid.{Guid}
use Rattle.model.specs.Sets.{has}
use Rattle.model.specs.Tables.{pick}

-- those of s that are not gone
unfoldable pub others : List Guid → List Guid → List Guid
others gone s = pick (λ (g : Guid). not (has g gone)) s
