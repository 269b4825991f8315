-- `writer_calls::tracker_turn` meets its contract: what the sheet decides, then the call.
use mathlib.Core.Path.{sym, ◌∙◌}
use Rattle.writer_calls.proofs.Leaving.{refuses_judged}
use Rattle.writer_calls.proofs.tracker_turn.Goals as goal

pub returns-then-number-ne0 : goal.returns-then-number-ne0
returns-then-number-ne0 c =
    refuses_judged c.args.c c.args.s c.args.head c.args.writers.now c.args.lost.now c.args.out.now
    c.tracker_refusal-number.result c.tracker_refusal-number.ensures c.if-number-ne0.true c.refused.result c.refused.ensures

pub turn_writers-requires : goal.turn_writers-requires
turn_writers-requires c = (
  c.requires.0,
  c.requires.1,
  c.requires.2,
  c.requires.3,
  λ pens writers lost. sym c.if-number-ne0.false ∙ c.tracker_refusal-number.ensures pens writers
      lost,
)
