-- `boundary_reads::tell` meets its contract.
use Rattle.std.proofs.Common.{rules}
use Rattle.boundary_reads.proofs.Telling.{told_short, told_whole}
use Rattle.boundary_reads.proofs.tell.Goals as goal

pub returns : goal.returns
returns c =
    let a = c.args in
    rw c.from.ensures (told_whole a.a a.answer.now c.write_bits.new.b c.write_values.new.b (search rules) (search rules) (search rules))

pub returns-in_default : goal.returns-in_default
returns-in_default c = told_short c.args.a c.args.answer.now c.in_default.ensures.cases
