-- A step of the walker: it answers what model's walk_read does.
use Rattle.std.specs.Prelude.{ℕ, ◌+◌, List}
use Rattle.model.specs.declared.FoundHandle.{FoundHandle}
use Rattle.model.specs.declared.FoundHandle.TheVariants.{Is as found_handle_is, Missing as found_handle_missing, Refused as found_handle_refused}
use Rattle.model.specs.Reads.{walk_read}
use Rattle.instance_walker.specs.declared.Walked.{Walked}

-- behind the instance whose handle was given; after none or a refusal the walker stays
abbrev pub moved_on : FoundHandle → ℕ → ℕ
moved_on (found_handle_refused n) position = position
moved_on found_handle_missing position = position
moved_on (found_handle_is h) position = position + 1

-- what a step answers, and where the walker stands after it
unfoldable pub walked : ℕ → List ℕ → ℕ → Walked
walked places t position = record { found = walk_read places t position; position = moved_on (walk_read places t position) position }
