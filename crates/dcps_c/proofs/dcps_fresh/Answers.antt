-- `dcps_fresh` meets its contract.
use Rattle.std.proofs.Common.{rules, ◌≡◌, ◌∙◌, ap}
use Rattle.dcps_c.specs.Boundary.{called_head}
use Rattle.dcps_c.proofs.Crossing.{fresh_short, fresh_made}
use Rattle.dcps_c.proofs.dcps_fresh.Goals as goal

pub returns-in_default : goal.returns-in_default
returns-in_default c =
    let a = c.args in
    fresh_short a.head.now a.pens.now a.writers.now a.lost.now c.in_default.ensures.cases

pub returns : goal.returns
returns c =
    let a = c.args in
    let whole : c.in-Some.head.now ≡ a.head.now = search rules in
    fresh_made a.head.now a.pens.now a.writers.now a.lost.now c.fresh-r.result _ _ _ _ _
    (search rules) c.fresh-r.ensures (search rules) (c.write_new_head.ensures ∙ ap (called_head c.fresh-r.result) whole)
