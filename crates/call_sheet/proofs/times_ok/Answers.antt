-- `call_sheet::times_ok` meets its contract: time 1, then time 2, as the call's row says.
use mathlib.Core.Path.{sym, ◌∙◌}
use Rattle.call_sheet.proofs.Laws.{times_on, times_off}
use Rattle.call_sheet.proofs.times_ok.Goals as goal

pub returns-then-time_ok : goal.returns-then-time_ok
returns-then-time_ok c =
    let r = c.rule_of-rule in
    let a = c.args in
    times_on a.c a.s r.result r.ensures _ (sym c.time_ok.ensures ∙ c.if-time_ok.true) c.time_ok-then-time_ok.ensures

pub returns-else-time_ok : goal.returns-else-time_ok
returns-else-time_ok c =
    let r = c.rule_of-rule in
    let a = c.args in
    c.if-time_ok.false ∙ times_off a.c a.s r.result r.ensures (sym c.time_ok.ensures ∙ c.if-time_ok.false)
