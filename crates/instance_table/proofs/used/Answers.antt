-- `used` meets its contract.
use Rattle.instance_table.proofs.Handles.{used_by}
use Rattle.instance_table.proofs.used.Goals as goal

pub returns : goal.returns
returns c =
    let f = c.first_numbered in
    used_by c.args.t.now c.args.places f.result f.ensures.within f.ensures.before f.ensures.here
