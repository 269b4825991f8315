use Prim.Native.Nat.{◌<◌}
use mathlib.Core.Path.{◌∙◌}
use native.Mathlib.Omega.{arith}
use borrow.Author.Count.{below_more}
use Rattle.model.specs.Guids.{guids_in}
use Rattle.model.specs.Reads.{used_in, left_with}
use Rattle.instance_reads.proofs.Members.{part-ok, part-told, place_table}
use Rattle.instance_reads.proofs.Table.{whole, room_at, valid-at}
use Rattle.instance_reads.proofs.left_place.Goals as goal

pub loop-i-init : goal.loop-i-init
loop-i-init c = (omega arith, λ j l. absurd (omega arith))

pub overflow_mul-o : goal.overflow_mul-o
overflow_mul-o c = omega (arith, (whole _ _ c.requires.0).room, c.requires.1)

pub overflow_add-e : goal.overflow_add-e
overflow_add-e c = omega (arith, (whole _ _ c.requires.0).room, c.requires.1)

pub slice_bounds-left_with-end : goal.slice_bounds-left_with-end
slice_bounds-left_with-end c = omega (arith, (whole _ _ c.requires.0).room, c.requires.1)

pub left_with-requires : goal.left_with-requires
left_with-requires c =
    let i = c.loop-i.i in
    let h : i < used_in c.args.places c.args.pens.now = omega (arith, c.requires.1) in
    let p = part-ok _ i (room_at _ _ c.requires.0 i h) (valid-at _ _ c.requires.0 i h) in
    (p.0, p.1, c.requires.2)

pub returns-then-left_with : goal.returns-then-left_with
returns-then-left_with c =
    let l = c.loop-i in
    let p = left_with (guids_in c.args.m c.args.gone.now) c.args.view_states in
    place_table _ _ p _ l.i c.requires.1 l.invariant.0 l.invariant.1
    (λ m. part-told p _ l.i _ c.left_with.ensures ∙ c.if-left_with.true)

pub loop-i-preserved : goal.loop-i-preserved
loop-i-preserved c =
    let l = c.loop-i in
    let p = left_with (guids_in c.args.m c.args.gone.now) c.args.view_states in
    (omega arith, below_more _ _ l.invariant.1 (part-told p _ l.i _ c.left_with.ensures ∙ c.if-left_with.false))

pub returns : goal.returns
returns c =
    let l = c.loop-i in
    let p = left_with (guids_in c.args.m c.args.gone.now) c.args.view_states in
    place_table _ _ p _ l.i c.requires.1 l.invariant.0 l.invariant.1 (λ m. absurd (omega arith))
