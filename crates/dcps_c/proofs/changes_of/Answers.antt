-- `changes_of` meets its contract.
use Rattle.std.proofs.Common.{rules, ◌≡◌, ◌∙◌, ap}
use Rattle.dcps_c.specs.Boundary.{head_or}
use Rattle.dcps_c.proofs.HeadReads.{changes_short, changes_made}
use Rattle.dcps_c.proofs.changes_of.Goals as goal

pub returns-in-Some : goal.returns-in-Some
returns-in-Some c =
    let whole : c.in-Some.head.now ≡ c.args.head.now = search rules in
    changes_made c.args.head.now (search rules) (c.lent_head.ensures ∙ ap head_or whole) c.changes.ensures.case
    c.changes_answer.ensures

pub returns-in-None : goal.returns-in-None
returns-in-None c = changes_short c.args.head.now (search rules) c.refused_answer.ensures
