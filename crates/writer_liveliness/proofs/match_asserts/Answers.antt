-- `writer_liveliness::match_asserts` meets its contract.
use mathlib.Core.Bool.{true, false}
use mathlib.Core.Path.{◌≡◌, sym, ap, refl, ◌∙◌}
use Rattle.writer_counts.specs.Turns.{called_by}
use Rattle.writer_counts.proofs.Calling.{room_still}
use Rattle.writer_counts.proofs.Calls.{asserting, not_asserting}
use Rattle.writer_counts.specs.WriterCalls.{automatic}
use Rattle.model.specs.Writers.{is_automatic}
use Rattle.writer_liveliness.proofs.match_asserts.Goals as goal

pub returns-then-is_automatic : goal.returns-then-is_automatic
returns-then-is_automatic c =
    let b : automatic c.args.sheet ≡ true = sym (c.is_automatic.ensures ∙ ap is_automatic c.kind_numbered.ensures) ∙
    c.if-is_automatic.true in
    asserting (automatic c.args.sheet) _ _ _ c.assert_on.result c.args.head c.args.count _ _ b c.assert_on.ensures.0
    c.assert_on.ensures.1

pub called-requires : goal.called-requires
called-requires c =
    room_still c.args.head c.args.count c.args.writers.now c.requires c.still.result c.still.ensures

pub returns : goal.returns
returns c =
    let b : automatic c.args.sheet ≡ false = sym
    (c.is_automatic.ensures ∙ ap is_automatic c.kind_numbered.ensures) ∙
    c.if-is_automatic.false in
    not_asserting (automatic c.args.sheet) _ _ _ c.called.result c.args.head c.args.count _ _ b refl
    (c.called.ensures ∙ ap (called_by c.args.head c.args.count) c.still.ensures)
