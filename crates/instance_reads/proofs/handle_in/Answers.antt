-- `handle_in` meets its contract: the record at the position is the table's instance there.
use native.Mathlib.Omega.{arith}
use Rattle.instance_reads.proofs.Table.{whole, room_at}
use Rattle.instance_reads.proofs.Walks.{handle-here, handle_past}
use Rattle.instance_reads.proofs.handle_in.Goals as goal

pub used-count-requires : goal.used-count-requires
used-count-requires c = (whole _ _ c.requires).size

pub returns-then-count-position : goal.returns-then-count-position
returns-then-count-position c = handle_past _ _ c.args.position (omega (arith, c.used-count.ensures, c.if-count-position.true))

pub handle_at-handle-requires : goal.handle_at-handle-requires
handle_at-handle-requires c =
    room_at _ _ c.requires c.args.position (omega (arith, c.used-count.ensures, c.if-count-position.false))

pub returns : goal.returns
returns c =
    handle-here _ _ c.args.position (omega (arith, c.used-count.ensures, c.if-count-position.false)) _
    c.handle_at-handle.ensures
