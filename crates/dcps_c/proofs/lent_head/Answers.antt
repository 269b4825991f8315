-- `lent_head` meets its contract.
use mathlib.Core.Path.{sym, ◌∙◌}
use Rattle.dcps_c.proofs.Crossing.{laid-head, unlaid_head}
use Rattle.dcps_c.proofs.lent_head.Goals as goal

pub returns-then-head_laid : goal.returns-then-head_laid
returns-then-head_laid c =
    laid-head c.args.head.now (sym c.head_laid.ensures ∙ c.if-head_laid.true) c.read_head.ensures

pub returns-else-head_laid : goal.returns-else-head_laid
returns-else-head_laid c =
    unlaid_head c.args.head.now (sym c.head_laid.ensures ∙ c.if-head_laid.false) c.get_u16.ensures c.no_head.ensures
