use native.Mathlib.Omega.{arith}
use Rattle.writer_set_bytes.proofs.WalkLaws.{filled_long, walking_start, walking_turn, walking_less, walking_end}
use Rattle.writer_set_bytes.proofs.walk_through.Goals as goal

pub loop-w-init : goal.loop-w-init
loop-w-init c =
    let a = c.args in
    walking_start a.set.now a.n a.gone.now.list.now c.requires.0 a.gone.now.listed a.from c.requires.1 c.requires.2

pub walk_on-w-requires : goal.walk_on-w-requires
walk_on-w-requires c =
    let l = c.loop-w in
    (l.invariant.kept, omega (arith, c.requires.0.few, l.invariant.long), omega (arith, l.invariant.long), omega (arith, l.invariant.listed, c.args.gone.now.listed.few))

pub loop-w-smaller : goal.loop-w-smaller
loop-w-smaller c =
    let a = c.args in
    let l = c.loop-w in
    rw c.walk_on-w.ensures.0 (walking_less a.set.now a.n a.gone.now.list.now c.requires.0 a.gone.now.listed l.set l.w l.invariant (omega arith))

pub loop-w-preserved : goal.loop-w-preserved
loop-w-preserved c =
    let a = c.args in
    let l = c.loop-w in
    let r = c.walk_on-w in
    rw (r.ensures.0, r.ensures.1) (walking_turn a.set.now a.n a.gone.now.list.now c.requires.0 a.gone.now.listed l.set l.w l.invariant (omega arith))

pub overflow_mul-k : goal.overflow_mul-k
overflow_mul-k c = let l = c.loop-w in omega (arith, l.invariant.kept, l.invariant.below, c.requires.0.few)

pub overflow_sub-n : goal.overflow_sub-n
overflow_sub-n c = let l = c.loop-w in omega (arith, l.invariant.kept, l.invariant.below, c.requires.0.few)

pub overflow_mul-n : goal.overflow_mul-n
overflow_mul-n c = let l = c.loop-w in omega (arith, l.invariant.kept, l.invariant.below, c.requires.0.few)

pub clear-requires : goal.clear-requires
clear-requires c = let l = c.loop-w in omega (arith, l.invariant.kept, l.invariant.below, l.invariant.long, c.requires.0.few)

pub shape_of-set : goal.shape_of-set
shape_of-set c = omega (arith, c.loop-w.invariant.long, filled_long c.args.n c.args.set.now c.requires.0)

pub returns : goal.returns
returns c =
    let a = c.args in
    let l = c.loop-w in
    let r = c.clear in
    walking_end a.set.now a.n a.gone.now.list.now c.requires.0 a.gone.now.listed l.set l.w l.invariant (omega arith) r.new.b r.ensures
