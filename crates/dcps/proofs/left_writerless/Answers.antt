use Rattle.dcps.proofs.Numbers.{left-number}
use Rattle.dcps.proofs.left_writerless.Goals as goal

pub returns : goal.returns
returns c =
    let e = c.left_writerless.ensures in
    record { answer = e.answer; number = left-number _ _ _ _ _ e.answer; list = e.list }
