-- `writer_pass::assert_writers` meets its contract.
use Rattle.writer_pass.proofs.Asserting.{Asserting}
use Rattle.writer_pass.proofs.assert_writers.Given as goal

abbrev pub invariant-loop-i : goal.invariant-loop-i
invariant-loop-i l = Asserting l.a l.initial.tally.last l.initial.t l.count l.initial.i l.t l.tally l.i
