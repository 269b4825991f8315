-- `call_codes::lapse_refusal` meets its contract: one law a link of the chain.
use mathlib.Core.Path.{refl, sym, ◌∙◌}
use Rattle.model.specs.declared.JoinedCall.TheVariants.{Lapse}
use Rattle.model.specs.Calls.{joined}
use Rattle.call_codes.proofs.SheetChain.{sheet_4, sheet_5, sheet_none}
use Rattle.call_codes.proofs.lapse_refusal.Goals as goal

pub returns-then-not-optional_ok : goal.returns-then-not-optional_ok
returns-then-not-optional_ok c = λ st. sheet_4 (joined Lapse) c.args.s st (sym c.optional_ok.ensures ∙ c.if-not-optional_ok.true)

pub returns-then-not-clock_ok : goal.returns-then-not-clock_ok
returns-then-not-clock_ok c =
    λ st. sheet_5 (joined Lapse) c.args.s st (sym c.optional_ok.ensures ∙ c.if-not-optional_ok.false)
    (sym c.clock_ok.ensures ∙ c.if-not-clock_ok.true)

pub returns : goal.returns
returns c =
    λ st. sheet_none (joined Lapse) c.args.s st
    (sym c.optional_ok.ensures ∙ c.if-not-optional_ok.false)
    (sym c.clock_ok.ensures ∙ c.if-not-clock_ok.false) refl refl refl
