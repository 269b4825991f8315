-- `writer_calls::tracker_refusal` meets its contract: one law a link of the chain.
use mathlib.Core.Path.{sym, ◌∙◌}
use Rattle.writer_calls.proofs.Sheets.{tracker_5, tracker_7, tracker_8, tracker_none}
use Rattle.writer_counts.specs.WriterCalls.{held_by}
use Rattle.writer_calls.proofs.tracker_refusal.Goals as goal

pub returns-then-not-clocks_ok : goal.returns-then-not-clocks_ok
returns-then-not-clocks_ok c =
    λ pens writers lost. tracker_5 c.args.c c.args.s (held_by c.args.head pens writers lost) c.tracker_rule-rule.result c.tracker_rule-rule.ensures
    (sym c.clocks_ok.ensures ∙ c.if-not-clocks_ok.true)

pub returns-then-not-kind_ok : goal.returns-then-not-kind_ok
returns-then-not-kind_ok c =
    λ pens writers lost. tracker_7 c.args.c c.args.s (held_by c.args.head pens writers lost) c.tracker_rule-rule.result c.tracker_rule-rule.ensures
    (sym c.clocks_ok.ensures ∙ c.if-not-clocks_ok.false)
    (sym c.kind_ok.ensures ∙ c.if-not-kind_ok.true)

pub returns-then-not-acknowledge_ok : goal.returns-then-not-acknowledge_ok
returns-then-not-acknowledge_ok c =
    λ pens writers lost. tracker_8 c.args.c c.args.s (held_by c.args.head pens writers lost) c.tracker_rule-rule.result c.tracker_rule-rule.ensures
    (sym c.clocks_ok.ensures ∙ c.if-not-clocks_ok.false)
    (sym c.kind_ok.ensures ∙ c.if-not-kind_ok.false)
    (sym (c.acknowledge_ok.ensures pens writers lost) ∙ c.if-not-acknowledge_ok.true)

pub returns : goal.returns
returns c =
    λ pens writers lost. tracker_none c.args.c c.args.s (held_by c.args.head pens writers lost) c.tracker_rule-rule.result c.tracker_rule-rule.ensures
    (sym c.clocks_ok.ensures ∙ c.if-not-clocks_ok.false)
    (sym c.kind_ok.ensures ∙ c.if-not-kind_ok.false)
    (sym (c.acknowledge_ok.ensures pens writers lost) ∙ c.if-not-acknowledge_ok.false)
