-- `unanswered` meets its contract.
use Rattle.std.proofs.Common.{rules, ◌≡◌, ◌∙◌, ap, sym, List, ℕ}
use Rattle.octets.specs.Octets.{be}
use Rattle.dcps_c.proofs.HeadReads.{unanswered_short, unanswered-one, unanswered_three}
use Rattle.dcps_c.proofs.unanswered.Goals as goal

pub returns-in-Some : goal.returns-in-Some
returns-in-Some c =
    let whole : c.in-Some.head.now ≡ c.args.head.now = search rules in
    unanswered_three c.args.head.now (search rules) (c.get_u16.ensures ∙ ap (λ (b : List ℕ). be 2 b 30) whole)
    (sym c.figure_ok.ensures ∙ c.if-not-figure_ok.true)

pub returns-in_default : goal.returns-in_default
returns-in_default c =
    let whole : c.in-Some.head.now ≡ c.args.head.now = search rules in
    unanswered-one c.args.head.now (search rules) (c.get_u16.ensures ∙ ap (λ (b : List ℕ). be 2 b 30) whole)
    (sym c.figure_ok.ensures ∙ c.if-not-figure_ok.false)

pub returns-in_default-2 : goal.returns-in_default-2
returns-in_default-2 c = unanswered_short c.args.head.now (search rules)
