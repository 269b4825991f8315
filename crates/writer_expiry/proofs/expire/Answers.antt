-- `writer_expiry::expire` meets its contract.
use borrow.Author.Rules.{rules}
use mathlib.Core.Path.{ap}
use native.Mathlib.Omega.{arith}
use Rattle.model.specs.declared.Called.{Called}
use Rattle.writer_counts.proofs.Holding.{good}
use Rattle.writer_expiry.proofs.Expiring.{lost-few, gone-room, expire-full}
use Rattle.writer_expiry.proofs.expire.Goals as goal

pub find_dues-dues-requires : goal.find_dues-dues-requires
find_dues-dues-requires c =
    (good c.args.head c.args.writers.now (search rules) c.requires.0).ready.sound

pub overflow_add-head : goal.overflow_add-head
overflow_add-head c =
    let d = c.find_dues-dues in
    omega
    (arith, lost-few c.args.head.lost_count c.args.lost.now c.requires.2, gone-room c.args.sheet c.args.head c.args.writers.now c.args.lost.now (search rules) c.requires.0 (search rules) c.requires.1 c.requires.2 d.result d.ensures)

pub returns-then-head-dues-gt256 : goal.returns-then-head-dues-gt256
returns-then-head-dues-gt256 c =
    expire-full c.args.sheet c.args.head c.args.writers.now c.args.lost.now (search rules) c.requires.0
    (search rules) c.requires.1 c.requires.2 c.find_dues-dues.result c.find_dues-dues.ensures c.if-head-dues-gt256.true
    c.refused.result (ap (λ (r : Called). r.answer) c.refused.ensures) (ap (λ (r : Called). r.head) c.refused.ensures)
