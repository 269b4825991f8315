-- `writer_pass::find_dues` meets its contract.
use Prim.Native.Nat.{◌≤◌}
use mathlib.Core.Path.{◌≡◌}
use lib.ListN.{drop}
use Rattle.model.specs.State.{writers_in}
use Rattle.writer_pass.specs.Passes.{dues_of}
use Rattle.writer_pass.proofs.find_dues.Given as goal

abbrev pub invariant-loop-i : goal.invariant-loop-i
invariant-loop-i l = (l.i ≤ l.count) × (l.d ≡ dues_of l.clock (drop l.i (writers_in l.count l.t)))
