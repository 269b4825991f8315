-- `few_rise` meets its contract: what is left rises where all do. The measure is how many are left.
use Prim.Native.Nat.{◌+◌, ◌*◌}
use mathlib.Core.Path.{◌≡◌}
use lib.ListN.{drop}
use Rattle.model.specs.Guids.{num, guids_in}
use Rattle.model.specs.Tables.{rising}
use Rattle.instance_validity.proofs.few_rise.Given as goal

abbrev pub invariant-loop-left : goal.invariant-loop-left
invariant-loop-left l = (l.at + l.left * 16 ≡ l.from + l.n * 16) × (rising num (guids_in l.n (drop l.from l.s)) ≡ rising num (guids_in l.left (drop l.at l.s)))

abbrev pub decreases-loop-left : goal.decreases-loop-left
decreases-loop-left l = l.left
