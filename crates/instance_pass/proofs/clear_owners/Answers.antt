use Prim.Native.Nat.{ℕ, ◌+◌}
use mathlib.Core.Path.{refl, ap, ◌∙◌}
use native.Mathlib.Omega.{arith}
use Rattle.model.specs.InstanceRecord.{bit}
use Rattle.instance_pass.specs.Steps.{owns_as, cleared_as, owner_act}
use Rattle.instance_pass.proofs.StepLaws.{bit_le, byte_bit}
use Rattle.instance_pass.proofs.OwnerLaws.{changing_start, changing_turn, changing_end}
use Rattle.instance_pass.proofs.clear_owners.Goals as goal

pub loop-i-init : goal.loop-i-init
loop-i-init c =
    let a = c.args in
    (omega arith, refl, changing_start (owner_act a.prefix a.g) (cleared_as a.prefix a.g) (λ x. refl) (λ x. refl) a.count a.pens.now)

pub loop-i-preserved : goal.loop-i-preserved
loop-i-preserved c =
    let a = c.args in
    let l = c.loop-i in
    let r = c.owner_at in (
      omega (arith, bit_le r.result, byte_bit r.result, c.from-n.ensures, l.invariant.0),
      omega arith,
      changing_turn (owner_act a.prefix a.g) (cleared_as a.prefix a.g) (λ x. refl) (λ x. refl) a.count a.pens.now l.i l.n _ l.pens r.new.pens (λ x. omega (arith, bit_le (owns_as a.prefix a.g x.owner))) c.requires.0 c.requires.1 (omega arith) l.invariant.2 (omega arith) r.ensures.1
          (ap (λ (m : ℕ). l.n + m) (c.from-n.ensures ∙ byte_bit r.result ∙ ap bit r.ensures.0)),
    )

pub returns : goal.returns
returns c =
    let a = c.args in
    let l = c.loop-i in
    changing_end (owner_act a.prefix a.g) (cleared_as a.prefix a.g) (λ x. refl) (λ x. refl) a.count a.pens.now l.i l.n l.pens (omega arith) (omega arith) l.invariant.2
