-- `locate` meets its contract: the used records are the table's instances, and their keys rise.
use native.Mathlib.Omega.{arith}
use Rattle.model.specs.Reads.{table_of}
use Rattle.instance_reads.proofs.Table.{whole, located}
use Rattle.instance_reads.proofs.locate.Goals as goal

pub used-count-requires : goal.used-count-requires
used-count-requires c = (whole _ _ c.requires.1).size

pub find_key-requires : goal.find_key-requires
unfolding table_of
find_key-requires c =
    let w = whole _ _ c.requires.1 in
    rw c.used-count.ensures (omega (arith, w.few, c.requires.0), w.room, w.rises)

pub returns : goal.returns
returns c = located _ _ _ _ _ c.used-count.ensures c.find_key.ensures
