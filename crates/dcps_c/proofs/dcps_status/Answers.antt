-- `dcps_status` meets its contract.
use Rattle.std.proofs.Common.{rules}
use Rattle.dcps_c.proofs.HeadReads.{status_untold, status_told}
use Rattle.dcps_c.proofs.dcps_status.Goals as goal

pub returns-then-answer-ne72 : goal.returns-then-answer-ne72
returns-then-answer-ne72 c =
    let a = c.args in
    status_untold a.head.now a.answer.now _ c.if-answer-ne72.true c.unanswered.ensures

pub returns : goal.returns
returns c =
    let a = c.args in
    status_told a.head.now a.answer.now _ c.status_of-a.result c.if-answer-ne72.false (search rules) c.status_of-a.ensures c.write_answer.ensures
