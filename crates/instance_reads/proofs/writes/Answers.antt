-- `writes` meets its contract, by the flags.
use native.Mathlib.Omega.{arith}
use lib.ListN.{length-drop}
use Rattle.instance_reads.proofs.Members.{rest_part, set-few, writes_dead, writes-is}
use Rattle.instance_reads.proofs.writes.Goals as goal

pub returns-then-flags-ge16384 : goal.returns-then-flags-ge16384
returns-then-flags-ge16384 c = writes_dead _ _ c.get_u16-flags.ensures _ c.if-flags-ge16384.true

pub has_guid-requires : goal.has_guid-requires
has_guid-requires c =
    let e = rest_part c.args.r.now c.requires.0 in
    rw e (omega (arith, length-drop 256 c.args.r.now, c.requires.0, set-few _ _ c.get_u16-flags.ensures c.requires.1))

pub returns : goal.returns
returns c =
    let f = c.get_u16-flags.ensures in
    writes-is _ _ f _ c.if-flags-ge16384.false (set-few _ _ f c.requires.1) _ (rw (rest_part c.args.r.now c.requires.0) at c.has_guid.ensures)
