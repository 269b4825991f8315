-- `lease_ok` meets its contract, present or not.
use Rattle.model.specs.WellFormed.{lease_ok}
use Rattle.writer_validity.proofs.lease_ok.Goals as goal

pub returns-then-present : goal.returns-then-present
unfolding lease_ok
returns-then-present c = rw c.if-present.true

pub returns-else-present : goal.returns-else-present
unfolding lease_ok
returns-else-present c = rw c.if-present.false
