-- `insert` meets its contract: a gap opened and written over is an insert.
use Rattle.std.proofs.Common.{arith, rules}
use Rattle.instance_table.proofs.LaidOut.{inserted}
use Rattle.instance_table.proofs.insert.Goals as goal

pub returns : goal.returns
returns c =
    let g = c.open_gap in
    let p = c.put_instance in
    inserted c.args.t.now g.new.t p.new.t c.args.count c.args.at c.args.x g.ensures p.ensures (search rules)
    (omega arith) c.requires.0
