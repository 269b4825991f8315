use Prim.Native.Nat.{◌<◌}
use mathlib.Core.Path.{◌∙◌}
use native.Mathlib.Omega.{arith}
use borrow.Author.Count.{below_more}
use Rattle.model.specs.Reads.{used_in, writes}
use Rattle.instance_reads.proofs.Members.{part-ok, part-told, place_table}
use Rattle.instance_reads.proofs.Table.{whole, room_at, valid-at}
use Rattle.instance_reads.proofs.writer_place.Goals as goal

pub loop-place-init : goal.loop-place-init
loop-place-init c = (omega arith, λ j l. absurd (omega arith))

pub overflow_mul-o : goal.overflow_mul-o
overflow_mul-o c = omega (arith, (whole _ _ c.requires.0).room, c.requires.1)

pub overflow_add-e : goal.overflow_add-e
overflow_add-e c = omega (arith, (whole _ _ c.requires.0).room, c.requires.1)

pub slice_bounds-writes-end : goal.slice_bounds-writes-end
slice_bounds-writes-end c = omega (arith, (whole _ _ c.requires.0).room, c.requires.1)

pub writes-requires : goal.writes-requires
writes-requires c =
    let i = c.loop-place.place in
    let h : i < used_in c.args.places c.args.pens.now = omega (arith, c.requires.1) in
    part-ok _ i (room_at _ _ c.requires.0 i h) (valid-at _ _ c.requires.0 i h)

pub returns-then-writes : goal.returns-then-writes
returns-then-writes c =
    let l = c.loop-place in
    let found = l.place in
    place_table _ _ (writes c.args.g) _ found c.requires.1 (omega (arith, l.invariant.0)) l.invariant.1
    (λ m. part-told (writes c.args.g) _ found _ c.writes.ensures ∙ c.if-writes.true)

pub loop-place-preserved : goal.loop-place-preserved
loop-place-preserved c =
    let l = c.loop-place in
    (omega arith, below_more _ _ l.invariant.1 (part-told (writes c.args.g) _ l.place _ c.writes.ensures ∙ c.if-writes.false))

pub returns : goal.returns
returns c =
    let l = c.loop-place in
    place_table _ _ (writes c.args.g) _ l.place c.requires.1 l.invariant.0 l.invariant.1 (λ m. absurd (omega arith))
