-- `joined_calls::leave` meets its contract.
use mathlib.Core.Path.{sym, ◌∙◌}
use Rattle.joined_calls.proofs.Entering.{sheet-refused}
use Rattle.joined_calls.proofs.Losing.{kept_losable, leave_left, leave_number}
use Rattle.writer_counts.specs.WriterCalls.{leaving}
use Rattle.joined_calls.specs.Losses.{departing}
use Rattle.joined_calls.proofs.leave.Goals as goal

pub returns-then-number-ne0 : goal.returns-then-number-ne0
returns-then-number-ne0 c =
    let a = c.args in
    λ places lost e. sheet-refused (departing a.lost) a.s a.head c.leave_refusal-number.result c.refused.result (λ st. leave_number a.s a.lost st _ (c.leave_refusal-number.ensures st))
    c.if-number-ne0.true c.refused.ensures places a.pens.now a.writers.now lost a.out.now

pub lose_writer-requires : goal.lose_writer-requires
lose_writer-requires c =
    let a = c.args in
    kept_losable (leaving a.lost) a.s a.head a.pens.now a.writers.now a.out.now c.leave-r.result
    c.leave-r.new.writers c.leave-r.ensures c.requires.1

pub returns : goal.returns
returns c =
    let a = c.args in
    leave_left a.s a.lost a.head a.pens.now a.writers.now a.out.now
    (λ st. sym c.if-number-ne0.false ∙ leave_number a.s a.lost st _ (c.leave_refusal-number.ensures st)) c.leave-r.result c.lose_writer.result
    c.lose_writer.new.pens c.leave-r.new.writers c.lose_writer.new.out c.leave-r.ensures
    c.lose_writer.ensures
