-- `writer_pass::declare` meets its contract.
use Rattle.writer_pass.proofs.Declaring.{Declaring}
use Rattle.writer_pass.proofs.declare.Given as goal

abbrev pub invariant-loop-i : goal.invariant-loop-i
invariant-loop-i l = Declaring l.initial.t l.count l.clock l.initial.lost l.n l.initial.newest l.t l.lost l.newest l.at l.i
