-- `dcps_key_hash` meets its contract: what was hashed is what is told.
use Rattle.dcps_c.proofs.Tellings.{hashed}
use Rattle.dcps_c.proofs.dcps_key_hash.Goals as goal

pub returns : goal.returns
returns c = hashed _ _ c.tell_key_hash.ensures c.key_hash-k.ensures
