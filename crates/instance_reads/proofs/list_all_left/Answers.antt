use Prim.Native.Nat.{◌<◌}
use mathlib.Core.List.{[]}
use mathlib.Core.Path.{sym}
use native.Mathlib.Omega.{arith}
use lib.Seq.{length-take-le}
use Rattle.model.specs.InstanceRecord.{instance_of}
use Rattle.model.specs.Reads.{used_in, table_of}
use Rattle.instance_reads.proofs.Lists.{listed_start, listed-turn, listed-end, listed-room, listed-length}
use Rattle.instance_reads.proofs.Table.{whole, count-table, at_place, room_at, valid-at}
use Rattle.instance_reads.proofs.list_all_left.Goals as goal

pub used-count-requires : goal.used-count-requires
used-count-requires c = (whole _ _ c.requires.0).size

pub loop-i-init : goal.loop-i-init
loop-i-init c = (omega arith, listed_start _ (table_of c.args.places c.args.pens.now) _)

pub list_left-k-requires : goal.list_left-k-requires
list_left-k-requires c =
    let i = c.loop-i.i in
    let u = c.used-count.ensures in
    let n = count-table c.args.places c.args.pens.now in
    let w = (whole _ _ c.requires.0).few in
    let h : i < used_in c.args.places c.args.pens.now = omega (arith, u) in (
      room_at _ _ c.requires.0 i h,
      valid-at _ _ c.requires.0 i h,
      c.requires.1,
      listed-room (table_of c.args.places c.args.pens.now) i c.loop-i.invariant.1 (omega arith) c.args.places (omega arith) c.requires.2,
    )

pub loop-i-preserved : goal.loop-i-preserved
loop-i-preserved c =
    let l = c.loop-i in
    let u = c.used-count.ensures in
    let xs = table_of c.args.places c.args.pens.now in
    let n = count-table c.args.places c.args.pens.now in
    let w = (whole _ _ c.requires.0).few in
    let e = c.requires.2 in
    let h : l.i < used_in c.args.places c.args.pens.now = omega (arith, u) in
    let p = c.list_left-k.ensures in (
      omega arith,
      listed-turn xs l.i l.invariant.1 (omega arith) (omega arith) (instance_of []) _
          (sym (at_place c.args.places c.args.pens.now l.i (instance_of []) h)) _ _ p.count p.written,
    )

pub shape_of-out : goal.shape_of-out
shape_of-out c =
    let l = c.loop-i in
    let n = count-table c.args.places c.args.pens.now in
    let w = (whole _ _ c.requires.0).few in
    let e = c.requires.2 in
    let t = length-take-le l.i (table_of c.args.places c.args.pens.now) (omega (arith, c.used-count.ensures)) in
    omega (arith, listed-length l.invariant.1 (omega arith))

pub returns : goal.returns
returns c =
    let l = c.loop-i in
    listed-end (table_of c.args.places c.args.pens.now) l.i l.invariant.1
    (omega (arith, c.used-count.ensures, count-table c.args.places c.args.pens.now))
