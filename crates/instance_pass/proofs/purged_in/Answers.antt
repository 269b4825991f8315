-- By the kind of the instance.
use Rattle.instance_pass.proofs.PurgeLaws.{alive-stays, disposed_goes, writerless_goes}
use Rattle.instance_pass.proofs.purged_in.Goals as goal

pub returns-then-f-lt16384 : goal.returns-then-f-lt16384
returns-then-f-lt16384 c = alive-stays c.args.r.now c.get_u16-f.result c.get_u16-f.ensures c.args.s.now c.if-f-lt16384.true

pub returns-then-f-lt32768 : goal.returns-then-f-lt32768
returns-then-f-lt32768 c =
    let f = c.get_u16-f in
    disposed_goes c.args.r.now f.result f.ensures c.args.s.now c.purge_due.result c.read_time-since.result c.read_time-since.ensures c.purge_due.ensures c.if-f-lt16384.false c.if-f-lt32768.true

pub returns : goal.returns
returns c =
    let f = c.get_u16-f in
    writerless_goes c.args.r.now f.result f.ensures c.args.s.now c.purge_due-2.result c.read_time-since-2.result c.read_time-since-2.ensures c.purge_due-2.ensures c.if-f-lt32768.false
