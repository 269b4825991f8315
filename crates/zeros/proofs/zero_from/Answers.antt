-- `zero_from` meets its contract: the part up to the end is all there is.
use Prim.Native.Nat.{◌-◌}
use mathlib.Core.Path.{◌∙◌, ap}
use native.Mathlib.Omega.{arith}
use lib.ListN.{length, drop, length-drop}
use lib.Seq.{take_all}
use Rattle.octets.specs.Zeros.{all_zero}
use Rattle.zeros.proofs.zero_from.Goals as goal

pub returns : goal.returns
returns c =
    let a = c.args in
    c.zero_by.ensures ∙ ap all_zero (take_all (length a.s.now - a.from) (drop a.from a.s.now) (omega (arith, length-drop a.from a.s.now)))
