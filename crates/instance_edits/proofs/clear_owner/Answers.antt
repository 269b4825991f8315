-- `clear_owner` meets its contract.
use Prim.Native.Nat.{◌/◌, ◌%◌}
use native.Mathlib.Omega.{arith}
use borrow.Author.Tests.{eqb-true}
use Rattle.model.specs.InstanceRecord.{flags_at}
use Rattle.instance_edits.proofs.RecordEdits.{cleared_by}
use Rattle.instance_edits.proofs.clear_owner.Goals as goal

pub overflow_sub-f : goal.overflow_sub-f
overflow_sub-f c =
    omega (arith, eqb-true (flags_at c.args.s.now / 128 % 2) 1 c.requires.1, c.get_u16-f.ensures)

pub returns : goal.returns
returns c =
    cleared_by c.args.s.now c.put_u64.new.s c.put_u64-2.new.s c.put_u32.new.s c.put_u16.new.s c.get_u16-f.result
    c.get_u16-f.ensures c.put_u64.ensures c.put_u64-2.ensures c.put_u32.ensures c.put_u16.ensures
