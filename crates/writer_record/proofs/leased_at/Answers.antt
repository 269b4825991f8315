-- `writer_record::leased_at` meets its contract.
use Prim.Native.Nat.{◌*◌}
use Rattle.writer_record.proofs.Leases.{leased-part}
use Rattle.writer_record.proofs.leased_at.Goals as goal

pub returns : goal.returns
returns c =
    rw c.get_u8-flags.ensures (leased-part c.args.t.now (c.args.i * 40))
