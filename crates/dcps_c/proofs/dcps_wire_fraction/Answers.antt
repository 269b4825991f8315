-- `dcps_wire_fraction` meets its contract.
use mathlib.Core.Path.{ap, ◌∙◌}
use Rattle.boundary_reads.specs.WireAnswers.{fraction_answer}
use Rattle.dcps_c.proofs.Tellings.{retold}
use Rattle.dcps_c.proofs.dcps_wire_fraction.Goals as goal

pub returns : goal.returns
returns c =
    retold _ _ c.tell.ensures (c.fraction_answer.ensures ∙ ap fraction_answer c.wire_fraction-w.ensures)
