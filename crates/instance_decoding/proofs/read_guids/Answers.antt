use Rattle.std.proofs.Common.{refl, ◌∙◌, arith, length-set, get_or-set_other, get_or-set_same, below_more}
use Rattle.model.specs.Guids.{nil}
use Rattle.instance_decoding.proofs.Rows.{guids_are}
use Rattle.instance_decoding.proofs.read_guids.Goals as goal

pub loop-i-init : goal.loop-i-init
loop-i-init c = (refl, (λ k l. absurd (omega arith)))

pub loop-i-preserved : goal.loop-i-preserved
loop-i-preserved c =
    let l = c.loop-i in
    let g = c.guid_at.result in (
      simp length-set l.invariant.0,
      below_more _ _ (λ k h. get_or-set_other l.guids l.i k g nil (λ e. omega arith) ∙ l.invariant.1 k h)
          (get_or-set_same l.guids l.i g nil (omega arith) ∙ c.guid_at.ensures),
    )

pub returns : goal.returns
returns c =
    let l = c.loop-i in
    guids_are l.guids c.args.s.now l.invariant.0 (λ i m. l.invariant.1 i (omega arith))
