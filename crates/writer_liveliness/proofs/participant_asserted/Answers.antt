-- `writer_liveliness::participant_asserted` meets its contract.
use Rattle.writer_counts.proofs.Calls.{participant_asserts}
use Rattle.writer_counts.proofs.Holding.{good}
use borrow.Author.Rules.{rules}
use Rattle.writer_liveliness.proofs.participant_asserted.Goals as goal

pub assert_on-requires : goal.assert_on-requires
assert_on-requires c =
    (good c.args.head c.args.writers.now (search rules) c.requires).ready

pub returns : goal.returns
returns c =
    participant_asserts c.args.sheet c.args.head c.args.writers.now (search rules) c.requires
    c.assert_on.result c.assert_on.new.writers c.assert_on.ensures.0 c.assert_on.ensures.1
