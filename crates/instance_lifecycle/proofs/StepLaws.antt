-- A writer taken out of an instance.
--     without-sound          leaves a sound set
--     without-left           the test for writerless sees the list
use mathlib.Core.Bool.{◌&&◌}
use mathlib.Core.Path.{◌≡◌}
use Rattle.model.specs.declared.Guid.{Guid}
use Rattle.model.specs.declared.InstanceState.{InstanceState}
use Rattle.model.specs.Instances.{is_alive, writers_in, without}
use Rattle.model.specs.Sets.{remove, is_empty}
use Rattle.instance_fields.proofs.UsableLaws.{without-sound as still_sound}
use Rattle.model.proofs.SetLaws.{members_of}
use Rattle.writer_set.specs.Places.{Sound}

module _ (g : Guid) (x y : InstanceState) (e : y ≡ without g x) where
  pub without-sound : Sound x.writers → Sound y.writers
  without-sound s = rw e (still_sound g x.writers s)

  pub without-left : is_empty (writers_in y) && is_alive y.life.kind ≡ is_empty (remove g (writers_in x)) && is_alive x.life.kind
  without-left = rw (e, members_of)
