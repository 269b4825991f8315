-- `left_with` meets its contract, by the flags and its tests.
use native.Mathlib.Omega.{arith}
use Rattle.instance_reads.proofs.Left.{left_dead, left_unseen, left_empty, left_is}
use Rattle.instance_reads.proofs.Members.{set-few}
use Rattle.instance_reads.proofs.left_with.Goals as goal

pub returns-then-f-ge16384 : goal.returns-then-f-ge16384
returns-then-f-ge16384 c = left_dead _ _ c.get_u16-f.ensures _ _ c.if-f-ge16384.true

pub returns-then-not-view_in : goal.returns-then-not-view_in
returns-then-not-view_in c =
    let f = c.get_u16-f.ensures in
    left_unseen _ _ f _ _ c.if-f-ge16384.false _ c.view_in.ensures (c.if-not-view_in.true)

pub returns-then-n-eq0 : goal.returns-then-n-eq0
returns-then-n-eq0 c =
    let f = c.get_u16-f.ensures in
    left_empty _ _ f _ _ c.if-f-ge16384.false _ c.view_in.ensures (c.if-not-view_in.false)
    (set-few _ _ f c.requires.1) c.if-n-eq0.true

pub all_gone-requires : goal.all_gone-requires
all_gone-requires c =
    let f = c.get_u16-f.ensures in
    (omega (arith, c.requires.0, set-few _ _ f c.requires.1), c.requires.2)

pub returns : goal.returns
returns c =
    let f = c.get_u16-f.ensures in
    left_is _ _ f _ _ c.if-f-ge16384.false _ c.view_in.ensures (c.if-not-view_in.false)
    (set-few _ _ f c.requires.1) c.if-n-eq0.false _ c.all_gone.ensures
