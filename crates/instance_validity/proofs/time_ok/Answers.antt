-- `time_ok` meets its contract, present or not: 8 bytes are zero where both numbers in them are.
use Rattle.model.specs.WellFormed.{time_ok}
use Rattle.instance_validity.proofs.Nil.{zero-time}
use Rattle.instance_validity.proofs.time_ok.Goals as goal

pub returns-then-not-present : goal.returns-then-not-present
unfolding time_ok
returns-then-not-present c =
    rw (c.if-not-present.true, c.get_u64.ensures) (zero-time c.args.s.now c.args.at c.requires)

pub returns : goal.returns
unfolding time_ok
returns c = rw (c.if-not-present.false, c.get_u32.ensures)
