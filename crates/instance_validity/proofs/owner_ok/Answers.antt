-- `owner_ok` meets its contract: its callees' equations say so.
use Rattle.model.specs.WellFormed.{owner_ok}
use borrow.Author.Tests.{eq-eqb, ne_eqb}
use Rattle.instance_validity.proofs.owner_ok.Goals as goal

pub returns-then-f-eq1 : goal.returns-then-f-eq1
unfolding owner_ok
returns-then-f-eq1 c = rw (eq-eqb _ _ c.if-f-eq1.true)

pub returns : goal.returns
unfolding owner_ok
returns c =
    rw (ne_eqb _ _ c.if-f-eq1.false, c.get_u32-n.ensures, c.is_same-absent.ensures, c.nil.ensures, c.guid_at-g.ensures)
