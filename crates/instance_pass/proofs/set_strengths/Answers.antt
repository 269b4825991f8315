use mathlib.Core.Path.{refl}
use native.Mathlib.Omega.{arith}
use Rattle.model.specs.Instances.{strength_updated}
use Rattle.instance_pass.specs.Steps.{strength_act}
use Rattle.instance_pass.proofs.OwnerLaws.{changing_start, changing_turn, changing_end}
use Rattle.instance_pass.proofs.set_strengths.Goals as goal

pub loop-i-init : goal.loop-i-init
loop-i-init c =
    let a = c.args in
    let g = a.s.guid in
    let strength = a.s.second in
    (refl, changing_start (strength_act g strength) (strength_updated g strength) (λ x. refl) (λ x. refl) a.count a.pens.now)

pub loop-i-preserved : goal.loop-i-preserved
loop-i-preserved c =
    let a = c.args in
    let g = a.s.guid in
    let strength = a.s.second in
    let l = c.loop-i in
    let r = c.strength_at in (
      omega arith,
      changing_turn (strength_act g strength) (strength_updated g strength) (λ x. refl) (λ x. refl) a.count a.pens.now l.i 0 0 l.pens r.new.pens (λ x. omega arith) c.requires.0 c.requires.1 (omega arith) l.invariant.1 (omega arith) r.ensures (omega arith),
    )

pub returns : goal.returns
returns c =
    let a = c.args in
    let g = a.s.guid in
    let strength = a.s.second in
    let l = c.loop-i in
    changing_end (strength_act g strength) (strength_updated g strength) (λ x. refl) (λ x. refl) a.count a.pens.now l.i 0 l.pens (omega arith) (omega arith) l.invariant.1
