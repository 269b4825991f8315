-- `call_sheet::instance_refusal` meets its contract: one law a link of the chain.
use mathlib.Core.Path.{sym, ◌∙◌}
use Rattle.call_sheet.proofs.Laws.{refuses_4, refuses_6, refuses_none}
use Rattle.call_sheet.proofs.instance_refusal.Goals as goal

pub returns-then-not-times_ok : goal.returns-then-not-times_ok
returns-then-not-times_ok c = λ st. refuses_4 c.args.c c.args.s st (sym c.times_ok.ensures ∙ c.if-not-times_ok.true)

pub returns-then-not-holder_fits : goal.returns-then-not-holder_fits
returns-then-not-holder_fits c =
    λ st. refuses_6 c.args.c c.args.s st (sym c.times_ok.ensures ∙ c.if-not-times_ok.false)
    (sym c.holder_fits.ensures ∙ c.if-not-holder_fits.true)

pub returns : goal.returns
returns c =
    λ st. refuses_none c.args.c c.args.s st (sym c.times_ok.ensures ∙ c.if-not-times_ok.false)
    (sym c.holder_fits.ensures ∙ c.if-not-holder_fits.false)
