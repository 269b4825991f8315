-- `zero_between` meets its contract: the bytes passed and the bytes left are all 0 where the whole part is.
use mathlib.Core.Path.{◌≡◌}
use mathlib.Core.Bool.{◌&&◌}
use lib.Dec.{eqb}
use lib.ListN.{drop}
use Rattle.octets.specs.Zeros.{all_zero}
use Rattle.octets.proofs.zero_between.Given as goal

abbrev pub invariant-loop-x : goal.invariant-loop-x
invariant-loop-x l = (eqb l.acc 0 && all_zero (drop l.x-index l.part)) ≡ all_zero l.part
