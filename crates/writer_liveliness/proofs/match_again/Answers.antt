-- `writer_liveliness::match_again` meets its contract.
use Prim.Native.Nat.{◌*◌}
use mathlib.Core.Path.{sym, ap, refl, ◌∙◌}
use native.Mathlib.Omega.{arith}
use Rattle.writer_counts.specs.Turns.{still_tally}
use Rattle.writer_counts.proofs.Calling.{room_still}
use Rattle.writer_counts.proofs.Calls.{place_of, again_ready, again_tracked, again_after}
use Rattle.writer_counts.proofs.Holding.{good}
use Rattle.octets.specs.Patch.{patch}
use Rattle.model.proofs.Fits.{FitsGuid}
use Rattle.model.specs.WriterRecord.{writer_bytes}
use Rattle.model.specs.declared.Writer.{Writer}
use borrow.Author.Rules.{rules}
use Rattle.writer_liveliness.proofs.match_again.Goals as goal

pub writer_at-w-requires : goal.writer_at-w-requires
writer_at-w-requires c =
    let g = good c.args.head c.args.writers.now (search rules) c.requires.0 in
    omega
    (arith, g.ready.sound.room, place_of c.args.sheet c.args.head c.args.writers.now (search rules) c.requires.0 c.args.i c.requires.2)

pub put_writer-requires : goal.put_writer-requires
put_writer-requires c =
    let g = good c.args.head c.args.writers.now (search rules) c.requires.0 in
    omega
    (arith, g.ready.sound.room, place_of c.args.sheet c.args.head c.args.writers.now (search rules) c.requires.0 c.args.i c.requires.2)

pub kept-requires : goal.kept-requires
kept-requires c =
    room_still c.args.head c.args.head.writer_count c.args.writers.now
    (good c.args.head c.args.writers.now (search rules) c.requires.0).ready (still_tally c.args.head) refl

pub returns-then-is_tracked : goal.returns-then-is_tracked
returns-then-is_tracked c =
    let fits : FitsGuid c.args.sheet.guid = record { high = omega (arith, c.well_formed.0); low = omega (arith, c.well_formed.0) } in
    again_tracked c.args.sheet c.args.head c.args.writers.now (search rules) c.requires.0 c.args.i c.requires.2
    c.writer_at-w.result c.writer_at-w.ensures fits c.requires.1 c.put_writer.new.t
    (c.put_writer.ensures ∙ ap (λ (z : Writer). patch c.args.writers.now (c.args.i * 40) 40 (writer_bytes z)) c.matched_again.ensures)
    (sym c.is_tracked.ensures ∙ c.if-is_tracked.true) c.kept.result c.kept.ensures

pub match_asserts-requires : goal.match_asserts-requires
match_asserts-requires c =
    let fits : FitsGuid c.args.sheet.guid = record { high = omega (arith, c.well_formed.0); low = omega (arith, c.well_formed.0) } in
    again_ready c.args.sheet c.args.head c.args.writers.now (search rules) c.requires.0 c.args.i c.requires.2
    c.writer_at-w.result c.writer_at-w.ensures fits c.requires.1 c.put_writer.new.t
    (c.put_writer.ensures ∙ ap (λ (z : Writer). patch c.args.writers.now (c.args.i * 40) 40 (writer_bytes z)) c.matched_again.ensures)

pub returns : goal.returns
returns c =
    let fits : FitsGuid c.args.sheet.guid = record { high = omega (arith, c.well_formed.0); low = omega (arith, c.well_formed.0) } in
    again_after c.args.sheet c.args.head c.args.writers.now (search rules) c.requires.0 c.args.i c.requires.2
    c.writer_at-w.result c.writer_at-w.ensures fits c.requires.1 c.put_writer.new.t
    (c.put_writer.ensures ∙ ap (λ (z : Writer). patch c.args.writers.now (c.args.i * 40) 40 (writer_bytes z)) c.matched_again.ensures)
    (sym c.is_tracked.ensures ∙ c.if-is_tracked.false) c.match_asserts.result c.match_asserts.new.writers
    c.match_asserts.ensures.0 c.match_asserts.ensures.1
