-- `writer_liveliness::matched` meets its contract.
use mathlib.Core.Path.{sym, ◌∙◌}
use native.Mathlib.Omega.{arith}
use Rattle.writer_counts.proofs.Calling.{find-rises}
use Rattle.writer_counts.proofs.Holding.{good}
use borrow.Author.Rules.{rules}
use Rattle.writer_liveliness.proofs.matched.Goals as goal

pub find-requires : goal.find-requires
find-requires c =
    let g = good c.args.head c.args.writers.now (search rules) c.requires.0 in
    (omega arith, g.ready.sound.few, g.ready.sound.room, find-rises c.args.head c.args.writers.now g)

pub match_again-requires : goal.match_again-requires
match_again-requires c =
    (c.requires.0, c.requires.1, sym c.find.ensures ∙ c.in-Ok.is)

pub match_first-requires : goal.match_first-requires
match_first-requires c =
    (c.requires.0, c.requires.1, sym c.find.ensures ∙ c.in-Err.is)
