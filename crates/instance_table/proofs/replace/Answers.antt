-- `replace` meets its contract: a write at a place is a `set`.
use Rattle.std.proofs.Common.{rules}
use Rattle.instance_table.proofs.LaidOut.{replaced}
use Rattle.instance_table.proofs.replace.Goals as goal

pub returns : goal.returns
returns c =
    let a = c.args in
    let p = c.put_instance in
    replaced a.t.now p.new.t a.i a.x p.ensures (search rules) c.requires.0
