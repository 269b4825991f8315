-- `joined_calls::lapse` meets its contract.
use mathlib.Core.Path.{sym, ◌∙◌}
use Rattle.model.specs.declared.JoinedCall.TheVariants.{Lapse}
use Rattle.joined_calls.proofs.Entering.{sheet-refused}
use Rattle.joined_calls.proofs.Lapsing.{lapse-counts, lapse-listed, lapse_losable, lapse-left, lapse-stays}
use borrow.Author.Rules.{rules}
use Rattle.joined_calls.proofs.lapse.Goals as goal

pub returns-then-number-ne0 : goal.returns-then-number-ne0
returns-then-number-ne0 c =
    let a = c.args in
    λ places e. sheet-refused Lapse a.s a.head c.lapse_refusal-number.result c.refused.result c.lapse_refusal-number.ensures
    c.if-number-ne0.true c.refused.ensures places a.pens.now a.writers.now a.lost.now a.out.now

pub returns-then-r-ne0 : goal.returns-then-r-ne0
returns-then-r-ne0 c =
    let a = c.args in
    lapse-stays a.s a.head a.pens.now a.writers.now a.lost.now a.out.now c.expire-r.result c.expire-r.new.writers
    c.expire-r.new.lost c.expire-r.ensures (λ st. sym c.if-number-ne0.false ∙ c.lapse_refusal-number.ensures st) c.if-r-ne0.true

pub lose_expired-requires : goal.lose_expired-requires
lose_expired-requires c =
    let a = c.args in
    let e = c.expire-r in
    let n = lapse-counts a.s a.head a.pens.now a.writers.now a.lost.now a.out.now e.result e.new.writers
    e.new.lost e.ensures c.if-r-ne0.false in
    let m = lapse-listed a.s a.head a.pens.now a.writers.now a.lost.now a.out.now e.result e.new.writers
    e.new.lost e.ensures (search rules) c.requires.0 c.if-r-ne0.false in (
      lapse_losable a.s a.head a.pens.now a.writers.now a.lost.now a.out.now e.result e.new.writers
          e.new.lost e.ensures c.requires.1,
      search rules,
      n.0,
      n.1,
      m.0,
      m.1,
    )

pub returns : goal.returns
returns c =
    let a = c.args in
    let e = c.expire-r in
    let l = c.lose_expired in
    lapse-left a.s a.head a.pens.now a.writers.now a.lost.now a.out.now e.result e.new.writers e.new.lost
    e.ensures (λ st. sym c.if-number-ne0.false ∙ c.lapse_refusal-number.ensures st) c.if-r-ne0.false l.result
    l.new.pens l.new.out l.ensures
