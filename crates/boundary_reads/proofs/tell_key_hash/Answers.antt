-- `boundary_reads::tell_key_hash` meets its contract.
use Rattle.std.proofs.Common.{rules}
use Rattle.boundary_reads.proofs.Telling.{hash_short, hash_whole}
use Rattle.boundary_reads.proofs.tell_key_hash.Goals as goal

pub returns : goal.returns
returns c =
    let a = c.args in
    rw c.from.ensures (hash_whole a.k a.answer.now c.write_key_hash.new.answer (search rules) c.write_key_hash.ensures)

pub returns-in_default : goal.returns-in_default
returns-in_default c = hash_short c.args.k c.args.answer.now c.in_default.ensures.cases
