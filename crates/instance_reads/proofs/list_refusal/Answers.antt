-- `list_refusal` meets its contract, by its two tests.
use Rattle.instance_reads.proofs.Left.{list_odd, list-long, list_fine}
use Rattle.instance_reads.proofs.list_refusal.Goals as goal

pub returns-then-gone-ne0 : goal.returns-then-gone-ne0
returns-then-gone-ne0 c = list_odd _ _ _ c.if-gone-ne0.true

pub returns-then-gone-gt4096 : goal.returns-then-gone-gt4096
returns-then-gone-gt4096 c = list-long _ _ _ c.if-gone-ne0.false c.if-gone-gt4096.true

pub returns : goal.returns
returns c =
    list_fine _ _ _ c.if-gone-ne0.false c.if-gone-gt4096.false _ c.refusal_of.ensures
