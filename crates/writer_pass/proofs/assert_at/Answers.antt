-- `writer_pass::assert_at` meets its contract.
use Rattle.writer_pass.proofs.Asserting.{part_touched, part-kept}
use Rattle.writer_pass.proofs.assert_at.Goals as goal

pub returns-then-not-asserts : goal.returns-then-not-asserts
returns-then-not-asserts c =
    let a = c.args in
    let y = c.asserts in
    part-kept a.a a.w a.t.now a.i y.result y.ensures (c.if-not-asserts.true)

pub returns : goal.returns
returns c =
    let a = c.args in
    part_touched a.a a.w c.with_state-v.result a.t.now c.put_writer.new.t a.i c.asserts.result c.counts_alive.result
    c.asserts.ensures (c.if-not-asserts.false) c.with_state-v.ensures c.put_writer.ensures c.counts_alive.ensures
