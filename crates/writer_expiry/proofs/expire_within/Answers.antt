-- `writer_expiry::expire_within` meets its contract.
use borrow.Author.Rules.{rules}
use Prim.Native.Nat.{◌+◌}
use mathlib.Core.Path.{◌∙◌, ap}
use Rattle.writer_pass.specs.declared.Dues.{Dues}
use Rattle.writer_counts.proofs.Holding.{good}
use Rattle.writer_counts.specs.Turns.{settled_head}
use Rattle.writer_expiry.proofs.Expiring.{lost-laid, gone-alive, gone-room, gone_fits, expire-leaves}
use Rattle.writer_expiry.proofs.expire_within.Goals as goal

pub declare-last-requires : goal.declare-last-requires
declare-last-requires c = (
  (good c.args.head c.args.writers.now (search rules) c.requires.0).ready.sound,
  c.requires.1,
  lost-laid c.args.head.lost_count c.args.lost.now (search rules) c.requires.1 c.requires.2,
  ap (λ (z : Dues). z.gone) c.requires.3,
  c.requires.4,
)

pub tally_of-tally-requires : goal.tally_of-tally-requires
tally_of-tally-requires c = (
  gone-alive c.args.sheet c.args.head c.args.writers.now c.args.lost.now (search rules) c.requires.0
      (search rules) c.requires.1 c.requires.2
      c.args.dues c.requires.3,
  gone-room c.args.sheet c.args.head c.args.writers.now c.args.lost.now (search rules) c.requires.0
      (search rules) c.requires.1 c.requires.2
      c.args.dues c.requires.3,
)

pub settle_head-requires : goal.settle_head-requires
settle_head-requires c =
    gone_fits c.args.sheet c.args.head c.args.writers.now c.args.lost.now (search rules) c.requires.0
    (search rules) c.requires.1 c.requires.2
    c.args.dues c.requires.3 c.declare-last.result c.tally_of-tally.result c.tally_of-tally.ensures

pub returns : goal.returns
returns c =
    expire-leaves c.args.sheet c.args.head c.args.writers.now c.args.lost.now (search rules) c.requires.0
    (search rules) c.requires.1 c.requires.2
    c.args.dues c.requires.3 c.requires.4 c.declare-last.new.t c.declare-last.new.lost c.declare-last.result _ c.declare-last.ensures.0
    c.declare-last.ensures.1 c.declare-last.ensures.2 c.saying_due.ensures (c.settle_head.ensures ∙
    ap (settled_head c.args.head c.args.head.writer_count (c.args.head.lost_count + c.args.dues.gone)) c.tally_of-tally.ensures)
