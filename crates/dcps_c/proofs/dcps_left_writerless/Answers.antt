-- `dcps_left_writerless` meets its contract.
use Rattle.dcps_c.proofs.Tellings.{left_untold, left-told}
use Rattle.dcps_c.proofs.dcps_left_writerless.Goals as goal

pub returns-then-answer-ne24 : goal.returns-then-answer-ne24
returns-then-answer-ne24 c = left_untold _ _ _ _ _ c.if-answer-ne24.true

pub returns : goal.returns
returns c =
    left-told _ _ _ _ _ _ _ _ _ _ c.if-answer-ne24.false c.tell.ensures c.listing_answer.ensures
    c.left_writerless-l.ensures.answer c.left_writerless-l.ensures.list
