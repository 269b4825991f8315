-- `time_refusal` meets its contract, by its two tests.
use mathlib.Core.Path.{sym, ◌∙◌}
use Rattle.instance_reads.proofs.Answers.{time-first, time_early, time_late}
use Rattle.instance_reads.proofs.time_refusal.Goals as goal

pub returns-then-number-ne0 : goal.returns-then-number-ne0
returns-then-number-ne0 c =
    c.refusal_of-number.ensures ∙ time-first _ _ _ (λ e. c.if-number-ne0.true (c.refusal_of-number.ensures ∙ e))

pub returns-then-time-lt1000000000 : goal.returns-then-time-lt1000000000
returns-then-time-lt1000000000 c = time_early _ _ _ (sym c.refusal_of-number.ensures ∙ c.if-number-ne0.false) c.if-time-lt1000000000.true

pub returns-else-time-lt1000000000 : goal.returns-else-time-lt1000000000
returns-else-time-lt1000000000 c = time_late _ _ _ (sym c.refusal_of-number.ensures ∙ c.if-number-ne0.false) c.if-time-lt1000000000.false
