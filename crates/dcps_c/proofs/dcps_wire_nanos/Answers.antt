-- `dcps_wire_nanos` meets its contract.
use mathlib.Core.Path.{ap, ◌∙◌}
use Rattle.boundary_reads.specs.WireAnswers.{nanos_answer}
use Rattle.dcps_c.proofs.Tellings.{retold}
use Rattle.dcps_c.proofs.dcps_wire_nanos.Goals as goal

pub returns : goal.returns
returns c =
    retold _ _ c.tell.ensures (c.nanos_answer.ensures ∙ ap nanos_answer c.nanos_of-n.ensures)
