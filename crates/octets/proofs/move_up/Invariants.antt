-- `move_up` meets its contract: with i bytes left to move, those from i on are pasted.
use Prim.Native.Nat.{◌+◌, ◌-◌}
use mathlib.Core.Path.{◌≡◌}
use lib.ListN.{drop}
use lib.Seq.{paste}
use Rattle.octets.proofs.move_up.Given as goal

abbrev pub invariant-loop-i : goal.invariant-loop-i
invariant-loop-i l = l.b ≡ paste l.initial.b (l.to + l.i) (drop (l.from + l.i) l.initial.b) (l.n - l.i)
