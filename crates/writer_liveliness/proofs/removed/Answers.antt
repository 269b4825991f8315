-- `writer_liveliness::removed` meets its contract.
use Prim.Native.Nat.{◌-◌}
use mathlib.Core.Path.{ap, ◌∙◌}
use native.Mathlib.Omega.{arith}
use Rattle.writer_counts.specs.Turns.{called_by, gone_tally}
use Rattle.writer_counts.proofs.Calling.{alive-there, not-alive-there, room_gone}
use Rattle.writer_counts.proofs.Holding.{good}
use borrow.Author.Rules.{rules}
use Rattle.writer_liveliness.proofs.removed.Goals as goal

pub writer_at-w-requires : goal.writer_at-w-requires
writer_at-w-requires c =
    let g = good c.args.head c.args.writers.now (search rules) c.requires.0 in
    omega (arith, g.ready.sound.room, c.requires.1)

pub close_gap-requires : goal.close_gap-requires
close_gap-requires c =
    let g = good c.args.head c.args.writers.now (search rules) c.requires.0 in
    (c.requires.1, g.ready.sound.room)

pub gone-requires : goal.gone-requires
gone-requires c = (
  alive-there c.args.head c.args.writers.now
      (good c.args.head c.args.writers.now (search rules) c.requires.0) c.args.i c.writer_at-w.result
      c.requires.1 c.writer_at-w.ensures,
  not-alive-there c.args.head c.args.writers.now
      (good c.args.head c.args.writers.now (search rules) c.requires.0) c.args.i c.writer_at-w.result
      c.requires.1 c.writer_at-w.ensures,
)

pub called-requires : goal.called-requires
called-requires c =
    room_gone c.args.head c.args.head.writer_count c.args.writers.now
    (good c.args.head c.args.writers.now (search rules) c.requires.0).ready c.gone.result
    c.writer_at-w.result c.gone.ensures

pub returns : goal.returns
returns c = (
  c.close_gap.ensures,
  c.called.ensures ∙ ap (called_by c.args.head (c.args.head.writer_count - 1))
      (c.gone.ensures ∙ ap (gone_tally c.args.head) c.writer_at-w.ensures),
)
