-- Code 5.
use mathlib.Core.Path.{sym, ap, ◌∙◌}
use Rattle.model.specs.declared.InstanceState.{InstanceState}
use Rattle.model.specs.Instances.{sampled_at, writer_unregistered}
use Rattle.instance_lifecycle.proofs.StepLaws.{without-sound, without-left}
use Rattle.instance_lifecycle.proofs.writer_unregistered.Goals as goal

pub is_writerless-requires : goal.is_writerless-requires
is_writerless-requires c = without-sound c.args.g c.args.x c.without-rest.result c.without-rest.ensures c.requires

pub returns-then-is_writerless : goal.returns-then-is_writerless
unfolding writer_unregistered
returns-then-is_writerless c =
    let t = sym (without-left c.args.g c.args.x c.without-rest.result c.without-rest.ensures) ∙ sym
    c.is_writerless.ensures ∙ c.if-is_writerless.true in
    rw (t, c.sampled_at.ensures, c.writerless.ensures, c.without-rest.ensures)

pub returns-else-is_writerless : goal.returns-else-is_writerless
unfolding writer_unregistered
returns-else-is_writerless c =
    let t = sym (without-left c.args.g c.args.x c.without-rest.result c.without-rest.ensures) ∙ sym c.is_writerless.ensures
    ∙ c.if-is_writerless.false in
    rw t (c.sampled_at-else-is_writerless.ensures ∙ ap (λ (z : InstanceState). sampled_at c.args.at z) c.without-rest.ensures)
