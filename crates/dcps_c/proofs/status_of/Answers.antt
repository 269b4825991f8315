-- `status_of` meets its contract.
use Rattle.std.proofs.Common.{rules, ◌≡◌, ◌∙◌, ap}
use Rattle.dcps_c.specs.Boundary.{head_or}
use Rattle.dcps_c.proofs.HeadReads.{status_short, status_made}
use Rattle.dcps_c.proofs.status_of.Goals as goal

pub returns-in-Some : goal.returns-in-Some
returns-in-Some c =
    let whole : c.in-Some.head.now ≡ c.args.head.now = search rules in
    status_made c.args.head.now (search rules) (c.lent_head.ensures ∙ ap head_or whole) c.status.ensures.case
    c.status_answer.ensures

pub returns-in-None : goal.returns-in-None
returns-in-None c = status_short c.args.head.now (search rules) c.refused_with.ensures
