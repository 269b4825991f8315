-- One GUID taken out, or none.
use native.Mathlib.Omega.{arith}
use Rattle.writer_set_bytes.proofs.WalkLaws.{filled_long}
use Rattle.writer_set_bytes.proofs.OneOut.{place_few, gone_none, gone_one}
use Rattle.writer_set_bytes.proofs.keep_all_but.Goals as goal

pub place_of-p-requires : goal.place_of-p-requires
place_of-p-requires c =
    let l = filled_long c.args.n c.args.set.now c.requires in
    (omega (arith, c.requires.few), omega (arith, c.requires.few, l))

pub returns-then-p-n : goal.returns-then-p-n
returns-then-p-n c =
    gone_none c.args.n c.args.set.now c.args.g c.requires _ c.place_of-p.ensures (omega arith)

pub close_gap-requires : goal.close_gap-requires
close_gap-requires c =
    let l = filled_long c.args.n c.args.set.now c.requires in
    let m = place_few c.args.n c.args.set.now c.args.g c.requires _ c.place_of-p.ensures in
    (omega (arith, m), omega (arith, c.requires.few, l))

pub overflow_sub-result : goal.overflow_sub-result
overflow_sub-result c =
    omega (arith, place_few c.args.n c.args.set.now c.args.g c.requires _ c.place_of-p.ensures)

pub returns : goal.returns
returns c =
    gone_one c.args.n c.args.set.now c.args.g c.requires _ c.place_of-p.ensures c.if-p-n.false _ c.close_gap.ensures
