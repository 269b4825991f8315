-- Refusal 10, then outcome 4.
use mathlib.Core.Path.{refl, sym, ◌∙◌}
use borrow.Author.Rules.{rules}
use Rattle.admission.proofs.Leaves.{known-usable, crowded_left, weaker_left}
use Rattle.admission.proofs.admit_timely.Goals as goal

pub crowds-requires : goal.crowds-requires
crowds-requires c = known-usable c.requires.0 c.args.s c.args.i c.args.x c.requires.1

pub returns-then-crowds : goal.returns-then-crowds
returns-then-crowds c =
    rw c.left.ensures
    (crowded_left c.requires.0 c.args.s (λ n. search rules) c.args.i c.args.x c.requires.1 c.stopped.result
    c.args.t.next refl c.requires.2 (sym c.crowds.ensures ∙ c.if-crowds.true) (c.stopped.ensures.refusal refl))

pub returns-then-not-takes_over : goal.returns-then-not-takes_over
returns-then-not-takes_over c =
    rw c.left-then-not-takes_over.ensures
    (weaker_left c.requires.0 c.args.s (λ n. search rules) c.args.i c.args.x c.requires.1 c.stopped-then-not-takes_over.result
    c.args.t.next refl c.requires.2 (sym c.crowds.ensures ∙ c.if-crowds.false)
    (sym c.takes_over.ensures ∙ c.if-not-takes_over.true) (c.stopped-then-not-takes_over.ensures.stop refl))

pub admit_at-requires : goal.admit_at-requires
admit_at-requires c = (
  c.requires.0,
  c.requires.1,
  c.requires.2,
  sym c.crowds.ensures ∙ c.if-crowds.false,
  sym c.takes_over.ensures ∙ c.if-not-takes_over.false,
)
