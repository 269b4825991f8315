-- `writer_pass::expires_at` meets its contract.
use Rattle.model.specs.Writers.{expires}
use Rattle.writer_pass.proofs.expires_at.Goals as goal

pub returns-then-leased_at : goal.returns-then-leased_at
unfolding expires
returns-then-leased_at c = rw (← c.leased_at.ensures, c.if-leased_at.true, c.due_at.ensures)

pub returns-else-leased_at : goal.returns-else-leased_at
unfolding expires
returns-else-leased_at c = rw (← c.leased_at.ensures, c.if-leased_at.false)
