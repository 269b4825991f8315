-- `zero_block` meets its contract: the OR of the words so far is 0 where their bytes are.
use Prim.Native.Nat.{◌*◌}
use mathlib.Core.Path.{◌≡◌}
use lib.Dec.{eqb}
use Rattle.zeros.proofs.Words.{zeros}
use Rattle.zeros.proofs.zero_block.Given as goal

abbrev pub invariant-loop-i : goal.invariant-loop-i
invariant-loop-i g l = eqb l.any 0 ≡ zeros l.s (l.i * 8) l.at
