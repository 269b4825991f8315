-- `read_key` meets its contract.
use Rattle.model.specs.InstanceRecord.{instance_of}
use Rattle.instance_decoding.proofs.read_key.Goals as goal

pub returns : goal.returns
unfolding instance_of
returns c = c.guid_at.ensures
