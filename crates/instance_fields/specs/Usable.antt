-- What the effects on one instance ask.
--     UsableLife, Usable     generations within their bound, and a sound writer set
--     Room                   a place for the writer that a call adds
use Rattle.std.specs.Prelude.{◌≤◌, length}
use Rattle.model.specs.declared.Guid.{Guid}
use Rattle.model.specs.declared.InstanceState.{InstanceState}
use Rattle.model.specs.declared.Life.{Life}
use Rattle.model.specs.Instances.{top_generation, writers_in}
use Rattle.model.specs.Sets.{set_places, insert}
use Rattle.writer_set.specs.Places.{Sound}

-- generations within their bound
pub record UsableLife (l : Life) : Type 0 where
  pub disposed : l.disposed_generations ≤ top_generation
  pub no_writers : l.no_writers_generations ≤ top_generation

-- and a sound writer set
pub record Usable (x : InstanceState) : Type 0 where
  pub life : UsableLife x.life
  pub writers : Sound x.writers

-- the writer that is put in has a place
abbrev pub Room : Guid → InstanceState → Type 0
Room g x = length (insert g (writers_in x)) ≤ set_places
