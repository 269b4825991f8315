-- `read_instance` meets its contract: its callees' equations say so.
use Rattle.model.specs.InstanceRecord.{instance_of}
use Rattle.instance_decoding.proofs.read_instance.Goals as goal

pub returns : goal.returns
unfolding instance_of
returns c = rw (c.read_state.ensures, c.as_record.ensures, c.get_u16.ensures, c.read_handle.ensures, c.read_key.ensures)
