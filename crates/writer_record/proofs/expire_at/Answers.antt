-- `writer_record::expire_at` meets its contract.
use Prim.Native.Nat.{◌*◌}
use native.Mathlib.Omega.{arith}
use borrow.Author.Rules.{rules}
use Rattle.writer_record.proofs.Leases.{alive_flags, expired-part}
use Rattle.writer_record.proofs.expire_at.Goals as goal

pub overflow_add-flags : goal.overflow_add-flags
overflow_add-flags c =
    omega (arith, c.get_u8-flags.ensures, alive_flags c.args.t.now (c.args.i * 40) c.requires.2)

pub returns : goal.returns
returns c =
    expired-part c.args.t.now (c.args.i * 40) c.get_u8-flags.result c.put_u8.new.s (search rules) c.requires.0
    c.requires.1 c.requires.2 c.get_u8-flags.ensures c.put_u8.ensures
