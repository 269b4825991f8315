-- Purged, or moved behind those kept.
use mathlib.Core.Path.{sym, ◌∙◌}
use Rattle.instance_pass.proofs.PurgeLaws.{purged-part, purge_one, keep_one}
use Rattle.instance_pass.proofs.purge_at.Goals as goal

pub returns-then-purged_in : goal.returns-then-purged_in
returns-then-purged_in c =
    let a = c.args in
    purge_one a.i a.k a.pens.now _ (sym (purged-part a.i a.pens.now a.s.now c.purged_in.result c.purged_in.ensures) ∙ c.if-purged_in.true)

pub returns : goal.returns
returns c =
    let a = c.args in
    let p = c.purged_in in
    keep_one a.i a.k a.pens.now _ c.close_up.new.pens (sym (purged-part a.i a.pens.now a.s.now p.result p.ensures) ∙ c.if-purged_in.false)
    c.close_up.ensures
