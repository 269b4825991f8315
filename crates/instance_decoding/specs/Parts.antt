-- An instance's record: its place in a table, and the test of a whole one.
use Rattle.std.specs.Prelude.{ℕ, zero, suc, ◌*◌, Bool, true, ◌&&◌, List, ltb, take, drop}
use Rattle.model.specs.InstanceRecord.{instance_of, flags_at}
use Rattle.model.specs.WellFormed.{instance_ok}

-- the record is well formed: kind is no 3, and its instance is as section 2 asks
abbrev pub record_ok : List ℕ → Bool
record_ok r = ltb (flags_at r) 49152 && instance_ok (instance_of r)

-- so are the first n records of a table
unfoldable pub records_ok : ℕ → List ℕ → Bool
records_ok zero t = true
records_ok (suc n) t = record_ok (take 512 t) && records_ok n (drop 512 t)

-- record i of a table
abbrev pub record_at : List ℕ → ℕ → List ℕ
record_at t i = take 512 (drop (i * 512) t)
