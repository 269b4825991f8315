use Prim.Native.Nat.{◌*◌, ◌/◌, ◌%◌}
use mathlib.Core.Path.{refl}
use native.Mathlib.Omega.{arith}
use lib.Dec.{eqb, leb}
use lib.ListN.{take, drop}
use Rattle.model.specs.WriterRecord.{writer_of}
use Rattle.writer_validity.proofs.Values.{alive_read, not_read}
use Rattle.writer_validity.proofs.Pass.{start, stop_key, stop_record, turn, end}
use Rattle.writer_validity.proofs.records_ok.Goals as goal

pub loop-i-init : goal.loop-i-init
loop-i-init c = start c.args.count c.args.t.now c.nil-last.result

pub returns-then-not-follows : goal.returns-then-not-follows
returns-then-not-follows c =
    let a = c.args in
    stop_key a.count a.t.now c.loop-i.last c.loop-i.a c.loop-i.d c.loop-i.i c.loop-i.invariant c.loop-i-test.true
    c.guid_at-g.result c.follows.result a.alive a.not_alive c.guid_at-g.ensures c.follows.ensures (c.if-not-follows.true)

pub returns-then-not-record_ok : goal.returns-then-not-record_ok
returns-then-not-record_ok c =
    let a = c.args in
    stop_record a.count a.t.now c.loop-i.last c.loop-i.a c.loop-i.d c.loop-i.i c.loop-i.invariant c.loop-i-test.true
    c.record_ok.result a.alive a.not_alive c.record_ok.ensures (c.if-not-record_ok.true)

pub loop-i-preserved : goal.loop-i-preserved
loop-i-preserved c =
    let a = c.args in
    let w = writer_of (take 40 (drop (c.loop-i.i * 40) a.t.now)) in
    let state = c.get_u8.result / 16 % 4 in
    rw (c.one_more-a.ensures, c.one_more-d.ensures)
    (turn a.count a.t.now c.loop-i.last c.loop-i.a c.loop-i.d c.loop-i.i c.loop-i.invariant c.loop-i-test.true
    c.guid_at-g.result c.follows.result c.record_ok.result (eqb state 1) (leb 2 state) w refl c.guid_at-g.ensures
    c.follows.ensures (c.if-not-follows.false) c.record_ok.ensures (c.if-not-record_ok.false)
    (alive_read a.t.now (c.loop-i.i * 40) c.get_u8.result c.get_u8.ensures) (not_read a.t.now (c.loop-i.i * 40) c.get_u8.result c.get_u8.ensures))

pub returns : goal.returns
returns c =
    let l = c.loop-i in
    let a = c.args in
    end a.count a.t.now l.last l.a l.d l.i l.invariant a.alive a.not_alive (omega arith)
