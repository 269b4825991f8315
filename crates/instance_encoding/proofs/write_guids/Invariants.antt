-- `write_guids` meets its contract: the first i GUIDs are written.
use mathlib.Core.Path.{◌≡◌}
use Rattle.instance_encoding.proofs.Writes.{written_to}
use Rattle.instance_encoding.proofs.write_guids.Given as goal

abbrev pub invariant-loop-i : goal.invariant-loop-i
invariant-loop-i l = l.s ≡ written_to l.initial.s l.gs l.i
