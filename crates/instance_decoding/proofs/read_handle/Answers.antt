-- `read_handle` meets its contract.
use Rattle.model.specs.InstanceRecord.{instance_of}
use Rattle.instance_decoding.proofs.read_handle.Goals as goal

pub returns : goal.returns
unfolding instance_of
returns c = rw c.get_u64.ensures
