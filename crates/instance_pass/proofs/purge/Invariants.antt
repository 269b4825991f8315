-- The pass.
use Prim.Native.Nat.{◌≤◌}
use mathlib.Core.Path.{◌≡◌}
use lib.ListN.{length}
use Rattle.instance_pass.proofs.PurgeLaws.{Purging}
use Rattle.instance_pass.proofs.purge.Given as goal

abbrev pub invariant-loop-i : goal.invariant-loop-i
invariant-loop-i l = (l.k ≤ l.i) × (length l.pens ≡ length l.initial.pens) × Purging l.fn.s l.count l.initial.pens l.i l.k l.pens
