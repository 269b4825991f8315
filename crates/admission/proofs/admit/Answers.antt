-- Where the key stands, or where its instance would go in.
use mathlib.Core.Path.{sym, ◌∙◌}
use Rattle.model.specs.Guids.{num}
use Rattle.model.specs.State.{instance_key}
use Rattle.tables.proofs.Puts.{found_only}
use Rattle.instance_reach.specs.Turned.{blank}
use Rattle.instance_reach.proofs.Table.{ready_most, ready_room_all, ready_rises}
use Rattle.admission.proofs.admit.Goals as goal

pub find_key-requires : goal.find_key-requires
find_key-requires c = (ready_most c.requires, ready_room_all c.requires, ready_rises c.requires)

pub admit_known-requires : goal.admit_known-requires
admit_known-requires c = (
  c.requires,
  found_only instance_key _ blank (ready_rises c.requires) (num c.args.s.key) _
      (sym c.find_key.ensures ∙ c.in-Ok.is),
)

pub admit_new-requires : goal.admit_new-requires
admit_new-requires c =
    (c.requires, sym c.find_key.ensures ∙ c.in-Err.is)
