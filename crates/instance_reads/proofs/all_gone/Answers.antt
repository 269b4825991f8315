use mathlib.Core.Path.{sym, ◌∙◌}
use native.Mathlib.Omega.{arith}
use borrow.Author.Count.{below_more}
use Rattle.model.specs.Guids.{guid_of}
use Rattle.model.specs.Reads.{among}
use Rattle.instance_reads.proofs.Left.{gone-test}
use Rattle.instance_reads.proofs.Scans.{each_row, not_each_row}
use Rattle.instance_reads.proofs.all_gone.Goals as goal

pub loop-i-init : goal.loop-i-init
loop-i-init c = (omega arith, λ j l. absurd (omega arith))

pub returns-then-not-has_guid : goal.returns-then-not-has_guid
returns-then-not-has_guid c =
    let i = c.loop-i.i in
    sym (not_each_row guid_of 16 _ _ (among _) i (omega arith)
    (gone-test _ i _ _ _ c.guid_at.ensures c.has_guid.ensures ∙ c.if-not-has_guid.true))

pub loop-i-preserved : goal.loop-i-preserved
loop-i-preserved c =
    let l = c.loop-i in (
      omega arith,
      below_more _ _ l.invariant.1
          (gone-test _ l.i _ _ _ c.guid_at.ensures c.has_guid.ensures ∙ c.if-not-has_guid.false),
    )

pub returns : goal.returns
returns c =
    sym (each_row guid_of 16 _ _ (among _) (λ j l. c.loop-i.invariant.1 j (omega arith)))
