-- Code 21 over the records of a table.
--     PurgedOne     what a turn leaves of the table, and how many are kept
use Rattle.std.specs.Prelude.{ℕ, ◌+◌, ◌*◌, Bool, cond, List, ◌≡◌}
use Rattle.octets.specs.Patch.{patch}
use Rattle.model.specs.InstanceRecord.{instance_size}
use Rattle.instance_decoding.specs.Parts.{record_at}

-- an instance that is not gone goes with its bytes behind those kept
pub record PurgedOne (gone : Bool) (i k : ℕ) (t t' : List ℕ) (k' : ℕ) : Type 0 where
  pub table : t' ≡ cond gone t (patch t (k * instance_size) instance_size (record_at t i))
  pub kept : k' ≡ cond gone k (k + 1)
