-- `writer_liveliness::match_first` meets its contract.
use Prim.Native.Nat.{ℕ, ◌*◌}
use mathlib.Core.List.{List}
use mathlib.Core.Option.{none}
use mathlib.Core.Path.{ap, ◌∙◌}
use native.Mathlib.Omega.{arith}
use Rattle.model.specs.declared.Called.{Called}
use Rattle.writer_counts.proofs.Calls.{first-within, first-full, first_ready, first-after}
use Rattle.octets.specs.Patch.{patch}
use Rattle.model.proofs.Fits.{FitsGuid}
use Rattle.model.specs.WriterRecord.{writer_bytes}
use Rattle.model.specs.Writers.{matched_writer}
use Rattle.model.specs.declared.Writer.{Writer}
use borrow.Author.Rules.{rules}
use Rattle.writer_liveliness.proofs.match_first.Goals as goal

pub returns-then-count-ge128 : goal.returns-then-count-ge128
returns-then-count-ge128 c =
    let fits : FitsGuid c.args.sheet.guid = record { high = omega (arith, c.well_formed.0); low = omega (arith, c.well_formed.0) } in
    first-full c.args.sheet c.args.head c.args.writers.now (search rules) c.requires.0
    c.args.i c.requires.2 fits c.requires.1 c.if-count-ge128.true c.refused.result (ap (λ (r : Called). r.answer) c.refused.ensures) (ap (λ (r : Called). r.head) c.refused.ensures)

pub open_gap-requires : goal.open_gap-requires
open_gap-requires c =
    let fits : FitsGuid c.args.sheet.guid = record { high = omega (arith, c.well_formed.0); low = omega (arith, c.well_formed.0) } in (
      first-within c.args.sheet c.args.head c.args.writers.now (search rules) c.requires.0
          c.args.i c.requires.2 fits c.requires.1,
      omega (arith, c.requires.0.long, c.if-count-ge128.false),
    )

pub put_writer-requires : goal.put_writer-requires
put_writer-requires c =
    let fits : FitsGuid c.args.sheet.guid = record { high = omega (arith, c.well_formed.0); low = omega (arith, c.well_formed.0) } in
    omega
    (arith, c.requires.0.long, c.if-count-ge128.false, first-within c.args.sheet c.args.head c.args.writers.now (search rules) c.requires.0 c.args.i c.requires.2 fits c.requires.1, c.open_gap.auto.t)

pub match_asserts-requires : goal.match_asserts-requires
match_asserts-requires c =
    let fits : FitsGuid c.args.sheet.guid = record { high = omega (arith, c.well_formed.0); low = omega (arith, c.well_formed.0) } in
    first_ready c.args.sheet c.args.head c.args.writers.now (search rules) c.requires.0 c.args.i c.requires.2
    fits c.requires.1 c.if-count-ge128.false c.put_writer.new.t
    (c.put_writer.ensures ∙ ap (λ (z : Writer). patch c.open_gap.new.t (c.args.i * 40) 40 (writer_bytes z)) c.first_matched.ensures ∙ ap (λ (z : List ℕ). patch z (c.args.i * 40) 40 (writer_bytes (matched_writer c.args.sheet none))) c.open_gap.ensures)

pub returns : goal.returns
returns c =
    let fits : FitsGuid c.args.sheet.guid = record { high = omega (arith, c.well_formed.0); low = omega (arith, c.well_formed.0) } in
    first-after c.args.sheet c.args.head c.args.writers.now (search rules) c.requires.0 c.args.i c.requires.2 fits
    c.requires.1 c.if-count-ge128.false c.put_writer.new.t
    (c.put_writer.ensures ∙ ap (λ (z : Writer). patch c.open_gap.new.t (c.args.i * 40) 40 (writer_bytes z)) c.first_matched.ensures ∙ ap (λ (z : List ℕ). patch z (c.args.i * 40) 40 (writer_bytes (matched_writer c.args.sheet none))) c.open_gap.ensures)
    c.match_asserts.result c.match_asserts.new.writers c.match_asserts.ensures.0 c.match_asserts.ensures.1
