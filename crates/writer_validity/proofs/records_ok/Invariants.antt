-- `records_ok` meets its contract: the pass so far.
use Rattle.writer_validity.proofs.Pass.{During}
use Rattle.writer_validity.proofs.records_ok.Given as goal

abbrev pub invariant-loop-i : goal.invariant-loop-i
invariant-loop-i l = During l.count l.t l.last l.a l.d l.i
