-- `instance_at` meets its contract.
use mathlib.Core.Path.{ap, ◌∙◌}
use Rattle.model.specs.InstanceRecord.{instance_of}
use Rattle.instance_decoding.proofs.instance_at.Goals as goal

pub returns : goal.returns
returns c = c.read_instance.ensures ∙ ap instance_of c.record_at.ensures
