-- `read_state` meets its contract: its callees' equations say so.
use Rattle.instance_decoding.proofs.read_state.Goals as goal

pub returns : goal.returns
returns c = rw (c.read_writers.ensures, c.read_holder.ensures, c.read_owner.ensures, c.read_times.ensures, c.read_life.ensures)
