-- Outcome 1, then outcome 2.
use mathlib.Core.Path.{refl, sym, ◌∙◌}
use borrow.Author.Rules.{rules}
use Rattle.admission.proofs.Leaves.{known_place, known_read, order-left, filter-left}
use Rattle.admission.proofs.admit_known.Goals as goal

pub instance_at-x-requires : goal.instance_at-x-requires
instance_at-x-requires c = known_place c.requires.0 c.args.s c.args.i c.requires.1

pub returns-then-not-in_order : goal.returns-then-not-in_order
returns-then-not-in_order c =
    rw c.left.ensures
    (order-left c.requires.0 c.args.s (λ n. search rules) c.args.i c.instance_at-x.result
    (known_read c.requires.0 c.args.s c.args.i c.instance_at-x.result c.requires.1 c.instance_at-x.ensures) c.stopped.result
    c.args.t.next refl (sym c.in_order.ensures ∙ c.if-not-in_order.true) (c.stopped.ensures.stop refl))

pub returns-then-not-passes_filter : goal.returns-then-not-passes_filter
returns-then-not-passes_filter c =
    rw c.left-then-not-passes_filter.ensures
    (filter-left c.requires.0 c.args.s (λ n. search rules) c.args.i c.instance_at-x.result
    (known_read c.requires.0 c.args.s c.args.i c.instance_at-x.result c.requires.1 c.instance_at-x.ensures) c.stopped-then-not-passes_filter.result
    c.args.t.next refl (sym c.in_order.ensures ∙ c.if-not-in_order.false)
    (sym c.passes_filter.ensures ∙ c.if-not-passes_filter.true) (c.stopped-then-not-passes_filter.ensures.stop refl))

pub admit_timely-requires : goal.admit_timely-requires
admit_timely-requires c = (
  c.requires.0,
  (known_read c.requires.0 c.args.s c.args.i c.instance_at-x.result c.requires.1 c.instance_at-x.ensures),
  record { order = sym c.in_order.ensures ∙ c.if-not-in_order.false; filter = sym c.passes_filter.ensures ∙ c.if-not-passes_filter.false },
)
