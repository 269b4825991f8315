-- The pass.
use Rattle.writer_set_bytes.specs.Lists.{gones_in}
use Rattle.instance_pass.specs.Steps.{loss_by}
use Rattle.instance_pass.proofs.PassLaws.{During}
use Rattle.instance_pass.proofs.lose_over.Given as goal

abbrev pub invariant-loop-i : goal.invariant-loop-i
invariant-loop-i l = During (loss_by l.loss.clears (gones_in l.loss.gone.list.now) l.loss.at) l.count l.initial.pens l.initial.out l.i l.pens l.out l.tally
