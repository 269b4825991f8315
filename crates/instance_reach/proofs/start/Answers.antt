-- The instance is started, changed and put in.
use mathlib.Core.Path.{ap, ◌∙◌}
use native.Mathlib.Omega.{arith}
use borrow.Author.Rules.{rules}
use Rattle.model.specs.declared.Allocated.{Allocated}
use Rattle.model.specs.Instances.{started}
use Rattle.instance_reach.proofs.Table.{ready_place, starts_asked, starts-within, started-left}
use Rattle.instance_reach.proofs.start.Goals as goal

pub acted-y-requires : goal.acted-y-requires
acted-y-requires c =
    starts_asked c.args.t.next c.requires.0 c.requires.1 c.allocate_step-a.result.handle.0 c.started-x.ensures

pub insert-requires : goal.insert-requires
insert-requires c = (
  starts-within c.args.t.next c.requires.0 c.requires.1,
  ready_place c.requires.0 c.args.t.count c.requires.2,
  c.acted-y.ensures.few,
)

pub overflow_add-result : goal.overflow_add-result
overflow_add-result c = omega (arith, c.requires.0.few, c.requires.2)

pub returns : goal.returns
returns c =
    rw c.answered.ensures
    (started-left c.args.t.next c.requires.0 c.requires.1 c.requires.4 c.requires.2 (λ n. search rules) c.requires.3
    (c.started-x.ensures ∙ ap (λ (z : Allocated). started c.args.s.key z.handle.0) c.allocate_step-a.ensures)
    c.acted-y.result c.acted-y.ensures c.insert.new.t _ (ap (λ (z : Allocated). z.counter) c.allocate_step-a.ensures)
    c.insert.ensures)
