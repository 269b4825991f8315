-- `call_codes::admit_refusal` meets its contract: one law a link of the chain.
use mathlib.Core.Path.{refl, sym, ◌∙◌}
use borrow.Author.Tests.{le-leb, lt-leb}
use Rattle.model.specs.declared.JoinedCall.TheVariants.{Admit}
use Rattle.model.specs.Calls.{joined}
use Rattle.model.specs.Tables.{all}
use Rattle.call_codes.proofs.SheetChain.{sheet_4, sheet_6, sheet_none}
use Rattle.call_codes.proofs.admit_refusal.Goals as goal

pub returns-then-not-both_ok : goal.returns-then-not-both_ok
returns-then-not-both_ok c = λ st. sheet_4 (joined Admit) c.args.s st (sym c.both_ok.ensures ∙ c.if-not-both_ok.true)

pub returns-then-h-gt144 : goal.returns-then-h-gt144
unfolding all
returns-then-h-gt144 c =
    λ st. sheet_6 (joined Admit) c.args.s st
    (sym c.both_ok.ensures ∙ c.if-not-both_ok.false) refl
    (lt-leb _ 144 c.if-h-gt144.true)

pub returns : goal.returns
unfolding all
returns c =
    λ st. sheet_none (joined Admit) c.args.s st
    (sym c.both_ok.ensures ∙ c.if-not-both_ok.false) refl
    (le-leb _ 144 c.if-h-gt144.false) refl refl
