-- `all_gone` meets its contract: each of the writers that were passed is gone.
use Prim.Native.Nat.{ℕ, ◌-◌, ◌≤◌, ◌<◌}
use mathlib.Core.Bool.{true}
use mathlib.Core.Path.{◌≡◌}
use lib.ListN.{drop}
use Rattle.model.specs.Guids.{guid_of, guids_in}
use Rattle.model.specs.Reads.{among}
use Rattle.instance_reads.proofs.Scans.{row}
use Rattle.instance_reads.proofs.all_gone.Given as goal

abbrev pub invariant-loop-i : goal.invariant-loop-i
invariant-loop-i l =
    (l.i ≤ l.n) × ((j : ℕ) → j < l.i → among (guids_in l.m l.gone) (row guid_of 16 (drop 256 l.r) j) ≡ true)

abbrev pub decreases-loop-i : goal.decreases-loop-i
decreases-loop-i l = l.n - l.i
