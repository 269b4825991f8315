-- A table in lent bytes as the layout of a list of instances.
use Rattle.std.specs.Prelude.{◌≡◌, ℕ, ◌+◌, ◌*◌, ◌≤◌, List, length}
use Rattle.octets.specs.Lay.{All}
use Rattle.octets.specs.Octets.{be}
use Rattle.model.specs.declared.Instance.{Instance}
use Rattle.model.specs.InstanceRecord.{instance_size, instance_bytes}
use Rattle.model.specs.State.{pens_of}

-- the handle of record i, as a number
abbrev pub handle_at : List ℕ → ℕ → ℕ
handle_at t i = be 8 t (i * instance_size + 16)

-- the instance takes the bytes of one place
abbrev pub Wide : Instance → Type 0
Wide x = length (instance_bytes x) ≡ instance_size

-- t is the layout of the instances xs, in a table of so many places
pub record Laid (places : ℕ) (xs : List Instance) (t : List ℕ) : Type 0 where
  pub few : length xs ≤ places
  pub wide : All Wide xs
  pub laid : t ≡ pens_of places xs
