-- `has_guid` meets its contract: none of the GUIDs that were passed is g.
use Prim.Native.Nat.{ℕ, ◌-◌, ◌≤◌, ◌<◌}
use mathlib.Core.Bool.{false}
use mathlib.Core.Path.{◌≡◌}
use Rattle.model.specs.Guids.{guid_of}
use Rattle.instance_reads.proofs.Scans.{row, is}
use Rattle.instance_reads.proofs.has_guid.Given as goal

abbrev pub invariant-loop-i : goal.invariant-loop-i
invariant-loop-i l = (l.i ≤ l.n) × ((j : ℕ) → j < l.i → is l.g (row guid_of 16 l.list j) ≡ false)

abbrev pub decreases-loop-i : goal.decreases-loop-i
decreases-loop-i l = l.n - l.i
