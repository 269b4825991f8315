-- What the calls on one instance need to know of how a call reaches.
--     single, handled          the call reaches one instance; it does so by its handle
use Rattle.std.specs.Prelude.{Bool, true, false, not}
use Rattle.model.specs.declared.Reach.{Reach}
use Rattle.model.specs.declared.Reach.TheVariants.{ByKey as by_key, StartingByKey as starting_by_key, StartingWithin as starting_within, ByHandle as by_handle, Every as every}
use Rattle.model.specs.Instances.{is_every}

abbrev pub single : Reach → Bool
single r = not (is_every r)

abbrev pub handled : Reach → Bool
handled by_key = false
handled starting_by_key = false
handled starting_within = false
handled by_handle = true
handled every = false
