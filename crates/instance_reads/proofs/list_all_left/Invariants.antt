-- `list_all_left` meets its contract: after i instances those of them that are left are listed.
use Prim.Native.Nat.{◌-◌, ◌≤◌}
use lib.ListN.{take}
use Rattle.model.specs.Guids.{guids_in}
use Rattle.model.specs.Reads.{table_of, left_with}
use Rattle.instance_reads.specs.Looked.{ListedBy}
use Rattle.instance_reads.proofs.list_all_left.Given as goal

abbrev pub invariant-loop-i : goal.invariant-loop-i
invariant-loop-i l =
    (l.i ≤ l.count) × ListedBy (left_with (guids_in l.m l.gone) l.view_states) (take l.i (table_of l.places l.pens)) l.initial.out l.k l.out

abbrev pub decreases-loop-i : goal.decreases-loop-i
decreases-loop-i l = l.count - l.i
