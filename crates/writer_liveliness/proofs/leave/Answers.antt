-- `writer_liveliness::leave` meets its contract.
use mathlib.Core.Path.{sym, refl, ◌∙◌}
use native.Mathlib.Omega.{arith}
use Rattle.writer_counts.specs.Turns.{still_tally}
use Rattle.writer_counts.proofs.Calling.{find-rises, room_still}
use Rattle.writer_counts.proofs.Calls.{leave_missing}
use Rattle.writer_counts.proofs.Holding.{good}
use borrow.Author.Rules.{rules}
use Rattle.writer_liveliness.proofs.leave.Goals as goal

pub find-requires : goal.find-requires
find-requires c =
    let g = good c.args.head c.args.writers.now (search rules) c.requires in
    (omega arith, g.ready.sound.few, g.ready.sound.room, find-rises c.args.head c.args.writers.now g)

pub leave_at-requires : goal.leave_at-requires
leave_at-requires c =
    (c.requires, sym c.find.ensures ∙ c.in-Ok.is)

pub kept-requires : goal.kept-requires
kept-requires c =
    room_still c.args.head c.args.head.writer_count c.args.writers.now
    (good c.args.head c.args.writers.now (search rules) c.requires).ready (still_tally c.args.head) refl

pub returns-in-Err : goal.returns-in-Err
returns-in-Err c =
    leave_missing c.args.sheet c.args.head c.args.writers.now (search rules) c.requires c.args.lost _
    (sym c.find.ensures ∙ c.in-Err.is) c.kept.result c.kept.ensures
