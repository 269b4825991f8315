-- `leave_writerless` meets its contract.
use Rattle.instance_edits.proofs.RecordEdits.{given_by, silent_by}
use Rattle.instance_edits.proofs.leave_writerless.Goals as goal

pub returns-then-at : goal.returns-then-at
returns-then-at c =
    given_by c.args.at c.args.s.now c.args.f c.put_u16.new.s c.put_u32.new.s c.put_u32-then-at.new.s c.put_u32-then-at-2.new.s
    c.put_u32-then-at-3.new.s c.with_bit.result c.with_bit-then-at.result c.if-at.true c.with_bit.ensures.0 c.with_bit-then-at.ensures.0
    c.put_u16.ensures c.put_u32.ensures c.put_u32-then-at.ensures c.put_u32-then-at-2.ensures c.put_u32-then-at-3.ensures

pub returns : goal.returns
returns c =
    silent_by c.args.at c.args.s.now c.args.f c.put_u16-2.new.s c.if-at.false c.put_u16-2.ensures
