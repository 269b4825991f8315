-- `writer_liveliness::departed_at` meets its contract.
use Prim.Native.Nat.{◌*◌}
use mathlib.Core.Path.{ap, ◌∙◌}
use native.Mathlib.Omega.{arith}
use Rattle.writer_counts.specs.Turns.{called_by, departs_tally}
use Rattle.writer_counts.proofs.Calling.{alive-there, room-departs, both-few}
use Rattle.writer_counts.proofs.Holding.{good, few-not-alive}
use Rattle.octets.specs.Patch.{patch}
use Rattle.model.specs.WriterRecord.{writer_bytes}
use Rattle.model.specs.Writers.{departed}
use Rattle.model.specs.declared.Writer.{Writer}
use borrow.Author.Rules.{rules}
use Rattle.writer_liveliness.proofs.departed_at.Goals as goal

pub writer_at-w-requires : goal.writer_at-w-requires
writer_at-w-requires c =
    let g = good c.args.head c.args.writers.now (search rules) c.requires.0 in
    omega (arith, g.ready.sound.room, c.requires.1)

pub put_writer-requires : goal.put_writer-requires
put_writer-requires c =
    let g = good c.args.head c.args.writers.now (search rules) c.requires.0 in
    omega (arith, g.ready.sound.room, c.requires.1)

pub departs-requires : goal.departs-requires
departs-requires c = (
  alive-there c.args.head c.args.writers.now
      (good c.args.head c.args.writers.now (search rules) c.requires.0) c.args.i c.writer_at-w.result
      c.requires.1 c.writer_at-w.ensures,
  few-not-alive c.args.head c.args.head.writer_count c.args.writers.now
      (good c.args.head c.args.writers.now (search rules) c.requires.0).ready,
)

pub called-requires : goal.called-requires
called-requires c =
    let g = good c.args.head c.args.writers.now (search rules) c.requires.0 in
    room-departs c.args.head c.args.head.writer_count c.args.writers.now g.ready c.departs.result c.writer_at-w.result
    (alive-there c.args.head c.args.writers.now (good c.args.head c.args.writers.now (search rules) c.requires.0) c.args.i c.writer_at-w.result c.requires.1 c.writer_at-w.ensures)
    (both-few c.args.head c.args.writers.now g) c.departs.ensures

pub returns : goal.returns
returns c = (
  c.put_writer.ensures ∙ ap
      (λ (z : Writer). patch c.args.writers.now (c.args.i * 40) 40 (writer_bytes z))
      (c.departed.ensures ∙ ap (λ (z : Writer). departed z.guid) c.writer_at-w.ensures),
  c.called.ensures ∙ ap (called_by c.args.head c.args.head.writer_count)
      (c.departs.ensures ∙ ap (departs_tally c.args.head) c.writer_at-w.ensures),
)
