-- `wire_time::fraction` meets its contract: at whole milliseconds the table agrees with the conversion.
use mathlib.Core.Path.{sym, ap, ◌∙◌}
use native.Mathlib.Omega.{arith}
use Rattle.wire_time.specs.WireTime.{fraction_of}
use Rattle.wire_time.proofs.WireLaws.{whole_milliseconds}
use Rattle.wire_time.proofs.fraction.Goals as goal

pub returns-then-n-eq0 : goal.returns-then-n-eq0
returns-then-n-eq0 c = c.entry.ensures ∙ sym (whole_milliseconds _) ∙ ap fraction_of (omega arith)
