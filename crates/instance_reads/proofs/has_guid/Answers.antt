use mathlib.Core.Path.{◌∙◌}
use native.Mathlib.Omega.{arith}
use borrow.Author.Count.{below_more}
use Rattle.instance_reads.proofs.Scans.{guid-test, has_here, has-nowhere}
use Rattle.instance_reads.proofs.has_guid.Goals as goal

pub loop-i-init : goal.loop-i-init
loop-i-init c = (omega arith, λ j l. absurd (omega arith))

pub returns-then-is_same : goal.returns-then-is_same
returns-then-is_same c =
    let i = c.loop-i.i in
    has_here _ _ _ i (omega arith)
    (guid-test _ i _ _ _ c.guid_at.ensures c.is_same.ensures ∙ c.if-is_same.true)

pub loop-i-preserved : goal.loop-i-preserved
loop-i-preserved c =
    let l = c.loop-i in (
      omega arith,
      below_more _ _ l.invariant.1 (guid-test _ l.i _ _ _ c.guid_at.ensures c.is_same.ensures ∙ c.if-is_same.false),
    )

pub returns : goal.returns
returns c = has-nowhere _ _ _ (λ j l. c.loop-i.invariant.1 j (omega arith))
