-- `find_handle` meets its contract.
use Rattle.instance_table.proofs.Handles.{handle_place}
use Rattle.instance_table.proofs.find_handle.Goals as goal

pub returns : goal.returns
returns c =
    let f = c.first_numbered in
    handle_place c.args.t.now c.args.count c.args.h f.result f.ensures.within f.ensures.before f.ensures.here
