-- The walk: those that stay so far, and what is left of both.
use Prim.Native.Nat.{◌+◌, ◌-◌, ◌/◌}
use lib.ListN.{length}
use Rattle.writer_set_bytes.proofs.WalkLaws.{Walking}
use Rattle.writer_set_bytes.proofs.walk_through.Given as goal

abbrev pub invariant-loop-w : goal.invariant-loop-w
invariant-loop-w l = Walking l.initial.set l.n l.gone.list.now l.set l.w

abbrev pub decreases-loop-w : goal.decreases-loop-w
decreases-loop-w l = (l.n - l.w.i) + (length l.gone.list.now / 16 - l.w.j)
