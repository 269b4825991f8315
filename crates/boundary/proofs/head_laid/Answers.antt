-- `boundary::head_laid` meets its contract.
use Rattle.std.proofs.Common.{rules}
use Rattle.boundary.proofs.Read.{laid-present, laid_high, laid_low}
use Rattle.boundary.proofs.head_laid.Goals as goal

pub returns-then-get_u64-eq0 : goal.returns-then-get_u64-eq0
returns-then-get_u64-eq0 c =
    laid_low c.args.b.now c.get_u16.ensures c.in-0.is c.get_u64.ensures c.if-get_u64-eq0.true
    c.get_u64-then-get_u64-eq0.ensures

pub returns-else-get_u64-eq0 : goal.returns-else-get_u64-eq0
returns-else-get_u64-eq0 c =
    laid_high c.args.b.now c.get_u16.ensures c.in-0.is c.get_u64.ensures c.if-get_u64-eq0.false

pub returns-in_default : goal.returns-in_default
returns-in_default c = laid-present c.args.b.now c.get_u16.ensures (search rules)
