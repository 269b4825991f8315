-- GUIDs beside a span of them.
--     Outside        a GUID is below a span or above it
--     AllOutside     a whole set is
use Rattle.std.specs.Prelude.{◌<◌, List, ◌⊎◌}
use Rattle.octets.specs.Lay.{All}
use Rattle.model.specs.declared.Guid.{Guid}
use Rattle.model.specs.Guids.{num}
use Rattle.instance_edits.specs.declared.Span.{Span}

abbrev pub Outside : Span → Guid → Type 0
Outside w g = (num g < num w.low) ⊎ (num w.high < num g)

-- on one side of it
abbrev pub AllOutside : Span → List Guid → Type 0
AllOutside w s = All (λ (g : Guid). num g < num w.low) s ⊎ All (λ (g : Guid). num w.high < num g) s
