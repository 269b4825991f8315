-- The instance is put in.
use mathlib.Core.Path.{refl, ap, ◌∙◌}
use native.Mathlib.Omega.{arith}
use borrow.Author.Rules.{rules}
use Rattle.model.specs.declared.Allocated.{Allocated}
use Rattle.model.specs.Instances.{started}
use Rattle.instance_reach.proofs.Table.{ready_place}
use Rattle.admission.proofs.Effects.{first_asked}
use Rattle.admission.proofs.Leaves.{new_within, first-left}
use Rattle.admission.proofs.admit_first.Goals as goal

pub sampled-y-requires : goal.sampled-y-requires
sampled-y-requires c =
    first_asked c.args.s c.started-x.result c.allocate_step-a.result.handle.0 c.started-x.ensures

pub insert-requires : goal.insert-requires
insert-requires c = (
  new_within c.requires.0 c.args.s c.args.i c.requires.1,
  ready_place c.requires.0 c.args.t.count c.requires.3,
  c.sampled-y.ensures.few,
)

pub overflow_add-result : goal.overflow_add-result
overflow_add-result c =
    omega (arith, c.requires.0.few, c.requires.3)

pub returns : goal.returns
returns c =
    first-left c.requires.0 c.args.s (λ n. search rules) c.args.i c.requires.1 c.admitted_answer.result _
    c.requires.2 c.requires.3 c.started-x.result c.sampled-y.result _ c.insert.new.t c.requires.4
    (c.started-x.ensures ∙ ap (λ (z : Allocated). started c.args.s.key z.handle.0) c.allocate_step-a.ensures) c.sampled-y.ensures
    c.admitted_answer.ensures refl (ap (λ (z : Allocated). z.counter) c.allocate_step-a.ensures) c.insert.ensures
