-- `writer_liveliness::unmatched_at` meets its contract.
use mathlib.Core.Path.{sym, refl, ◌∙◌}
use native.Mathlib.Omega.{arith}
use Rattle.writer_counts.specs.Turns.{still_tally}
use Rattle.writer_counts.proofs.Calling.{room_still}
use Rattle.writer_counts.proofs.Calls.{unmatched-gone, unmatched-stays, place_of}
use Rattle.writer_counts.proofs.Holding.{good}
use borrow.Author.Rules.{rules}
use Rattle.writer_liveliness.proofs.unmatched_at.Goals as goal

pub writer_at-w-requires : goal.writer_at-w-requires
writer_at-w-requires c =
    let g = good c.args.head c.args.writers.now (search rules) c.requires.0 in
    omega
    (arith, g.ready.sound.room, place_of c.args.sheet c.args.head c.args.writers.now (search rules) c.requires.0 c.args.i c.requires.1)

pub removed-requires : goal.removed-requires
removed-requires c = (
  c.requires.0,
  place_of c.args.sheet c.args.head c.args.writers.now (search rules) c.requires.0 c.args.i c.requires.1,
)

pub returns-then-is_tracked : goal.returns-then-is_tracked
returns-then-is_tracked c =
    unmatched-gone c.args.sheet c.args.head c.args.writers.now (search rules) c.requires.0 c.args.i
    c.requires.1 c.writer_at-w.result c.writer_at-w.ensures (sym c.is_tracked.ensures ∙ c.if-is_tracked.true)
    c.removed.result c.removed.new.writers c.removed.ensures.1 c.removed.ensures.0

pub kept-requires : goal.kept-requires
kept-requires c =
    room_still c.args.head c.args.head.writer_count c.args.writers.now
    (good c.args.head c.args.writers.now (search rules) c.requires.0).ready (still_tally c.args.head) refl

pub returns : goal.returns
returns c =
    unmatched-stays c.args.sheet c.args.head c.args.writers.now (search rules) c.requires.0 c.args.i
    c.requires.1 c.writer_at-w.result c.writer_at-w.ensures (sym c.is_tracked.ensures ∙ c.if-is_tracked.false)
    c.kept.result c.kept.ensures
