-- `with_bit` meets its contract.
use Prim.Native.Nat.{◌/◌, ◌%◌}
use native.Mathlib.Omega.{arith}
use borrow.Author.Tests.{eq-eqb, ne_eqb}
use Rattle.instance_edits.specs.Edits.{with_bit}
use Rattle.instance_edits.proofs.with_bit.Goals as goal

pub returns-then-f-w-eq1 : goal.returns-then-f-w-eq1
unfolding with_bit
returns-then-f-w-eq1 c = (rw (eq-eqb (c.args.f / c.args.w % 2) 1 c.if-f-w-eq1.true), omega arith)

pub returns-else-f-w-eq1 : goal.returns-else-f-w-eq1
unfolding with_bit
returns-else-f-w-eq1 c = (rw (ne_eqb _ 1 c.if-f-w-eq1.false), omega arith)
