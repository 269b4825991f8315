-- `handles_ok` meets its contract: the handles passed are as they should be, and the flags of their remainders are set.
use Rattle.instance_table.proofs.Handles.{Met}
use Rattle.instance_table.proofs.handles_ok.Given as goal

abbrev pub invariant-loop-i : goal.invariant-loop-i
invariant-loop-i l = Met l.t l.next l.i l.met
