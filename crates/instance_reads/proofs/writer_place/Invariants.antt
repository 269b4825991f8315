-- `writer_place` meets its contract: none of the instances that were passed has the writer.
use Prim.Native.Nat.{ℕ, ◌-◌, ◌≤◌, ◌<◌}
use mathlib.Core.Bool.{false}
use mathlib.Core.Path.{◌≡◌}
use Rattle.model.specs.InstanceRecord.{instance_of}
use Rattle.model.specs.Reads.{writes}
use Rattle.instance_decoding.specs.Parts.{record_at}
use Rattle.instance_reads.proofs.writer_place.Given as goal

abbrev pub invariant-loop-place : goal.invariant-loop-place
invariant-loop-place l = (l.place ≤ l.count) × ((j : ℕ) → j < l.place → writes l.g (instance_of (record_at l.pens j)) ≡ false)

abbrev pub decreases-loop-place : goal.decreases-loop-place
decreases-loop-place l = l.count - l.place
