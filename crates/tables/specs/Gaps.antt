-- A place opened and closed among the first `count` records of a table of records of `size` bytes.
use Rattle.std.specs.Prelude.{ℕ, ◌+◌, ◌-◌, ◌*◌, List, drop, replicate}
use Rattle.std.proofs.Math.Seq.{paste}
use Rattle.octets.specs.Patch.{patch}

-- the records from place at on stand one place higher
abbrev pub opened : ℕ → ℕ → ℕ → List ℕ → List ℕ
opened size at count t = paste t (at * size + size) (drop (at * size) t) ((count - at) * size)

-- the records behind place at stand one place lower, and the last place is zeros
abbrev pub closed : ℕ → ℕ → ℕ → List ℕ → List ℕ
closed size at count t =
    patch (paste t (at * size) (drop (at * size + size) t) ((count - (at + 1)) * size)) ((count - 1) * size) size (replicate size 0)
