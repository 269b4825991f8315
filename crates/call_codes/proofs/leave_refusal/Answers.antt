-- `call_codes::leave_refusal` meets its contract: one law a link of the chain.
use mathlib.Core.Path.{refl, sym, ◌∙◌}
use Rattle.model.specs.declared.JoinedCall.TheVariants.{Part, Depart}
use Rattle.model.specs.Calls.{joined}
use Rattle.model.specs.Tables.{all}
use Rattle.call_codes.proofs.SheetChain.{sheet_4, sheet_none}
use Rattle.call_codes.proofs.leave_refusal.Goals as goal

pub returns-then-not-optional_ok : goal.returns-then-not-optional_ok
returns-then-not-optional_ok c =
    λ st.
    (sheet_4 (joined Part) c.args.s st (sym c.optional_ok.ensures ∙ c.if-not-optional_ok.true), sheet_4 (joined Depart) c.args.s st (sym c.optional_ok.ensures ∙ c.if-not-optional_ok.true))

pub returns : goal.returns
unfolding all
returns c =
    λ st.
    (sheet_none (joined Part) c.args.s st (sym c.optional_ok.ensures ∙ c.if-not-optional_ok.false) refl refl refl refl, sheet_none (joined Depart) c.args.s st (sym c.optional_ok.ensures ∙ c.if-not-optional_ok.false) refl refl refl refl)
