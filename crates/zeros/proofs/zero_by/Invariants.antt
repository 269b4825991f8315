-- `zero_by` meets its contract: what is left of the scan is the whole of it.
use Prim.Native.Nat.{◌+◌, ◌-◌, ◌*◌}
use mathlib.Core.Path.{◌≡◌}
use Rattle.zeros.proofs.Words.{zeros}
use Rattle.zeros.proofs.zero_by.Given as goal

abbrev pub invariant-loop-block : goal.invariant-loop-block
invariant-loop-block g l =
    let at = l.from + l.block-index * g.row.N in
    zeros l.s (l.end - l.from) l.from ≡ zeros l.s (l.end - at) at
