-- `set_rises` meets its contract: what is left rises where all do. The measure is how many are left.
use Prim.Native.Nat.{◌+◌, ◌*◌, ◌≤◌}
use mathlib.Core.Path.{◌≡◌}
use lib.ListN.{drop}
use Rattle.model.specs.Guids.{num, guids_in}
use Rattle.model.specs.Tables.{rising}
use Rattle.instance_validity.proofs.set_rises.Given as goal

abbrev pub invariant-loop-left : goal.invariant-loop-left
invariant-loop-left l = (l.left ≤ l.n) × (l.at + l.left * 16 ≡ 256 + l.n * 16) × (rising num (guids_in l.n (drop 256 l.s)) ≡ rising num (guids_in l.left (drop l.at l.s)))

abbrev pub decreases-loop-left : goal.decreases-loop-left
decreases-loop-left l = l.left
