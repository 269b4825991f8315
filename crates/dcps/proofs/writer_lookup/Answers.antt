use Rattle.dcps.proofs.Numbers.{lookup_number}
use Rattle.dcps.proofs.writer_lookup.Goals as goal

pub returns : goal.returns
returns c = record { case = c.writer_lookup.ensures; number = lookup_number _ _ _ c.writer_lookup.ensures }
