use Rattle.std.proofs.Common.{sym, ◌∙◌, arith}
use Rattle.tables.proofs.RecordTests.{tests_start, tests_stop, tests_turn, tests_end}
use Rattle.instance_table.proofs.Records.{record_test, record_read, records_test, records-first, records_none}
use Rattle.instance_table.proofs.records_ok.Goals as goal

pub loop-k-init : goal.loop-k-init
loop-k-init c = tests_start 512 record_test records_test c.args.count c.args.t.now

pub returns-then-not-record_ok : goal.returns-then-not-record_ok
returns-then-not-record_ok c =
    let a = c.args in
    let l = c.loop-k in
    let r = c.record_ok in
    tests_stop 512 record_test records_test records-first l.k a.count a.t.now r.result (omega arith)
    (record_read a.t.now l.k c.record_at.result.now c.record_at.ensures r.ensures) l.invariant (c.if-not-record_ok.true)

pub loop-k-preserved : goal.loop-k-preserved
loop-k-preserved c =
    let a = c.args in
    let l = c.loop-k in
    let r = c.record_ok in
    tests_turn 512 record_test records_test records-first l.k a.count a.t.now r.result (omega arith)
    (record_read a.t.now l.k c.record_at.result.now c.record_at.ensures r.ensures) l.invariant c.if-not-record_ok.false

pub returns : goal.returns
returns c =
    let a = c.args in
    let l = c.loop-k in
    sym (tests_end 512 record_test records_test records_none l.k a.count a.t.now (omega arith)) ∙ l.invariant
