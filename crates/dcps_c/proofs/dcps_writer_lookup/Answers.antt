-- `dcps_writer_lookup` meets its contract.
use Rattle.dcps_c.proofs.Tellings.{handled}
use Rattle.dcps_c.proofs.dcps_writer_lookup.Goals as goal

pub returns : goal.returns
returns c =
    handled _ _ c.tell.ensures c.handle_answer.ensures c.writer_lookup-f.ensures.case
