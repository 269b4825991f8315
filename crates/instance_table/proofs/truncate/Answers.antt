-- `truncate` meets its contract: places cleared at the end are a shorter list.
use Rattle.std.proofs.Common.{arith}
use Rattle.instance_table.proofs.LaidOut.{truncated}
use Rattle.instance_table.proofs.truncate.Goals as goal

pub returns : goal.returns
returns c =
    let a = c.args in
    truncated a.kept a.count a.t.now c.clear.new.b c.clear.ensures (omega arith)
