-- `dcps_changes` meets its contract.
use Rattle.dcps_c.proofs.HeadReads.{changes_untold, changes-told}
use Rattle.dcps_c.proofs.Tellings.{retold}
use Rattle.dcps_c.proofs.dcps_changes.Goals as goal

pub returns-then-answer-ne24 : goal.returns-then-answer-ne24
returns-then-answer-ne24 c =
    let a = c.args in
    changes_untold a.head.now a.answer.now _ c.if-answer-ne24.true c.unanswered.ensures

pub returns : goal.returns
returns c =
    let a = c.args in
    changes-told a.head.now a.answer.now c.if-answer-ne24.false (retold _ _ c.tell.ensures c.changes_of-a.ensures)
