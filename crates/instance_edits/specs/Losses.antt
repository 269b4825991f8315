-- The writers of a list lost to an instance, all at once.
--     emptied_by           the list takes its last writers from an alive instance
--     dropped_of           the writers of the list are taken out of its set
--     owned_by             its owner is in the list
--     disowned_by          such an owner is cleared
use Rattle.std.specs.Prelude.{Bool, ◌&&◌, cond, List}
use Rattle.model.specs.declared.Guid.{Guid}
use Rattle.model.specs.declared.InstanceState.{InstanceState}
use Rattle.model.specs.declared.MaybeOwner.{MaybeOwner}
use Rattle.model.specs.declared.MaybeTime.{MaybeTime}
use Rattle.model.specs.Instances.{no_owner, with_owner, writers_in}
use Rattle.model.specs.Sets.{has}
use Rattle.writer_set_bytes.specs.Others.{others}
use Rattle.instance_edits.specs.Edits.{emptied_to, settled}

abbrev pub emptied_by : List Guid → InstanceState → Bool
emptied_by gone x = emptied_to (others gone (writers_in x)) x

-- times are given only to an instance that is left writerless
abbrev pub dropped_of : List Guid → MaybeTime → InstanceState → InstanceState
dropped_of gone at x = settled (others gone (writers_in x)) at x

abbrev pub owned_by : List Guid → MaybeOwner → Bool
owned_by gone o = o.present && has o.guid gone

unfoldable pub disowned_by : List Guid → InstanceState → InstanceState
disowned_by gone x = cond (owned_by gone x.owner) (with_owner no_owner x) x
