-- `wire_time::wire_fraction` meets its contract.
use Prim.Native.Nat.{◌^◌}
use mathlib.Core.Path.{refl}
use native.Mathlib.Omega.{arith}
use borrow.Author.Tests.{lt-ltb, le-ltb}
use Rattle.wire_time.specs.WireTime.{wire_fraction_of}
use Rattle.wire_time.proofs.wire_fraction.Goals as goal

pub returns-then-nanosec-ge1000000000 : goal.returns-then-nanosec-ge1000000000
unfolding wire_fraction_of
returns-then-nanosec-ge1000000000 c = rw (le-ltb c.args.nanosec (10 ^ 9) (omega arith)) refl

pub returns : goal.returns
unfolding wire_fraction_of
returns c =
    rw (lt-ltb c.args.nanosec (10 ^ 9) (omega arith), c.fraction.ensures, c.remainder.ensures)
