-- `writer_record::due_at` meets its contract.
use Prim.Native.Nat.{◌*◌}
use native.Mathlib.Omega.{arith}
use Rattle.writer_record.proofs.Leases.{nanos_part, last-part}
use Rattle.writer_record.proofs.due_at.Goals as goal

pub overflow_add-result : goal.overflow_add-result
overflow_add-result c =
    omega
    (arith, c.requires.1, c.requires.2, c.get_u64-last.ensures, c.get_u64-nanos.ensures, nanos_part c.args.t.now (c.args.i * 40), last-part c.args.t.now (c.args.i * 40))

pub returns : goal.returns
returns c =
    rw (c.get_u64-last.ensures, c.get_u64-nanos.ensures, nanos_part c.args.t.now (c.args.i * 40), last-part c.args.t.now (c.args.i * 40))
