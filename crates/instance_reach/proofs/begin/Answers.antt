-- The limit, then the refusals, then the start.
use mathlib.Core.Path.{sym, ◌∙◌}
use native.Mathlib.Omega.{arith}
use borrow.Author.Rules.{rules}
use Rattle.instance_reach.proofs.Table.{start_free, limited-left, refused-left}
use Rattle.instance_reach.proofs.begin.Goals as goal

pub returns-then-limited : goal.returns-then-limited
returns-then-limited c =
    rw c.stopped.ensures
    (limited-left c.args.t.next c.requires.0 c.requires.1 (λ n. search rules) (sym c.limited.ensures ∙ c.if-limited.true))

pub returns-then-n-ne0 : goal.returns-then-n-ne0
returns-then-n-ne0 c =
    rw c.stopped-then-n-ne0.ensures
    (refused-left c.args.t.next c.requires.0 c.requires.1 (sym c.limited.ensures ∙ c.if-limited.false) (λ n. search rules)
    c.start_refusal-n.result c.start_refusal-n.ensures c.if-n-ne0.true)

pub start-requires : goal.start-requires
start-requires c =
    let free = start_free c.args.t.places c.args.t.count c.args.t.next.0 c.start_refusal-n.result c.start_refusal-n.ensures (omega (arith, c.if-n-ne0.false)) in
    (c.requires.0, c.requires.1, free.0, free.1, sym c.limited.ensures ∙ c.if-limited.false)
