-- `is_unused` meets its contract.
use Rattle.instance_table.proofs.Handles.{others-by}
use Rattle.instance_table.proofs.is_unused.Goals as goal

pub returns : goal.returns
returns c =
    let f = c.first_numbered in
    others-by c.args.t.now c.args.n c.args.h f.result f.ensures.within f.ensures.before f.ensures.here
