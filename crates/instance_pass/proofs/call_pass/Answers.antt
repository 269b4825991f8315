-- The pass of each call.
use mathlib.Core.Path.{ap}
use Rattle.model.specs.declared.Rule.{Rule}
use Rattle.model.specs.declared.Report.TheVariants.{Nothing, Left, Purge}
use Rattle.model.specs.State.{instances_in}
use Rattle.instance_pass.proofs.CallLaws.{by_report, by_owner, by_prefix}
use Rattle.instance_pass.proofs.call_pass.Goals as goal

pub returns-in-Nothing : goal.returns-in-Nothing
returns-in-Nothing c =
    let a = c.args in
    let k = c.rule_of in
    let r = c.set_strengths in
    by_report a.c a.s k.result.reports c.requires.0 (ap (λ (r : Rule). r.reports) k.ensures) (instances_in a.count a.pens.now) a.pens.now a.out.now r.new.pens a.out.now r.result Nothing c.in-Nothing.is (r.ensures a.out.now c.requires.2)

pub returns-in-Left : goal.returns-in-Left
returns-in-Left c =
    let a = c.args in
    let k = c.rule_of in
    let r = c.drop_writer in
    by_report a.c a.s k.result.reports c.requires.0 (ap (λ (r : Rule). r.reports) k.ensures) (instances_in a.count a.pens.now) a.pens.now a.out.now r.new.pens r.new.out r.result Left c.in-Left.is r.ensures

pub returns-in-Owner : goal.returns-in-Owner
returns-in-Owner c =
    let a = c.args in
    let k = c.rule_of in
    let r = c.clear_owners in
    by_owner a.c a.s k.result.reports c.requires.0 (ap (λ (r : Rule). r.reports) k.ensures) (instances_in a.count a.pens.now) a.pens.now a.out.now r.new.pens a.out.now r.result c.in-Owner.is (r.ensures a.out.now c.requires.2)

pub returns-in-Prefix : goal.returns-in-Prefix
returns-in-Prefix c =
    let a = c.args in
    let k = c.rule_of in
    let r = c.clear_owners-in-Prefix in
    by_prefix a.c a.s k.result.reports c.requires.0 (ap (λ (r : Rule). r.reports) k.ensures) (instances_in a.count a.pens.now) a.pens.now a.out.now r.new.pens a.out.now r.result c.in-Prefix.is (r.ensures a.out.now c.requires.2)

pub returns-in-Purge : goal.returns-in-Purge
returns-in-Purge c =
    let a = c.args in
    let k = c.rule_of in
    let r = c.purge in
    by_report a.c a.s k.result.reports c.requires.0 (ap (λ (r : Rule). r.reports) k.ensures) (instances_in a.count a.pens.now) a.pens.now a.out.now r.new.pens a.out.now r.result Purge c.in-Purge.is (r.ensures a.out.now c.requires.2)
