-- `lower_bound` meets its contract: lo and hi close in on the place.
use Prim.Native.Nat.{◌-◌}
use Rattle.model.specs.Guids.{num}
use Rattle.tables.specs.Keys.{keys}
use Rattle.tables.proofs.Search.{Bracket}
use Rattle.tables.proofs.lower_bound.Given as goal

abbrev pub invariant-loop-lo : goal.invariant-loop-lo
invariant-loop-lo l = Bracket (keys l.size l.count l.t) (num l.key) l.lo l.hi

abbrev pub decreases-loop-lo : goal.decreases-loop-lo
decreases-loop-lo l = l.hi - l.lo
