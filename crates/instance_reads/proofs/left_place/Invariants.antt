-- `left_place` meets its contract: none of the instances that were passed is left.
use Prim.Native.Nat.{ℕ, ◌-◌, ◌≤◌, ◌<◌}
use mathlib.Core.Bool.{false}
use mathlib.Core.Path.{◌≡◌}
use Rattle.model.specs.Guids.{guids_in}
use Rattle.model.specs.InstanceRecord.{instance_of}
use Rattle.model.specs.Reads.{left_with}
use Rattle.instance_decoding.specs.Parts.{record_at}
use Rattle.instance_reads.proofs.left_place.Given as goal

abbrev pub invariant-loop-i : goal.invariant-loop-i
invariant-loop-i l = (l.i ≤ l.count) × ((j : ℕ) → j < l.i → left_with (guids_in l.m l.gone) l.view_states (instance_of (record_at l.pens j)) ≡ false)

abbrev pub decreases-loop-i : goal.decreases-loop-i
decreases-loop-i l = l.count - l.i
