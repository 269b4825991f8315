-- Outcome 3, then refusals 9 and 13.
use mathlib.Core.Path.{refl, sym, ◌∙◌}
use native.Mathlib.Omega.{arith}
use borrow.Author.Rules.{rules}
use Rattle.instance_reach.proofs.Table.{start_free}
use Rattle.admission.proofs.Leaves.{limited-left, refused-left}
use Rattle.admission.proofs.admit_new.Goals as goal

pub returns-then-at_limit : goal.returns-then-at_limit
returns-then-at_limit c =
    rw c.left.ensures
    (limited-left c.requires.0 c.args.s (λ n. search rules) c.args.i c.requires.1
    c.stopped.result c.args.t.next (sym c.at_limit.ensures ∙ c.if-at_limit.true) (c.stopped.ensures.stop refl) refl)

pub returns-then-n-ne0 : goal.returns-then-n-ne0
returns-then-n-ne0 c =
    rw c.left-then-n-ne0.ensures
    (refused-left c.requires.0 c.args.s (λ n. search rules) c.args.i c.requires.1
    c.stopped-then-n-ne0.result c.args.t.next (sym c.at_limit.ensures ∙ c.if-at_limit.false)
    c.start_refusal-n.result c.start_refusal-n.ensures c.if-n-ne0.true (c.stopped-then-n-ne0.ensures.refusal refl) refl)

pub admit_first-requires : goal.admit_first-requires
admit_first-requires c =
    let free = start_free c.args.t.places c.args.t.count c.args.t.next.0 c.start_refusal-n.result c.start_refusal-n.ensures (omega (arith, c.if-n-ne0.false)) in
    (c.requires.0, c.requires.1, sym c.at_limit.ensures ∙ c.if-at_limit.false, free.0, free.1)
