-- The first records of the writer table, and the counts of both classes.
use Rattle.std.specs.Prelude.{ℕ, Bool, ◌&&◌, List, eqb}
use Rattle.model.specs.State.{writer_key, writers_in, alive_count, not_alive_count}
use Rattle.model.specs.Tables.{all, rising}
use Rattle.model.specs.WellFormed.{writer_ok, spares_ok}

-- each of the first n records is well formed by itself
abbrev pub records_test : ℕ → List ℕ → Bool
records_test n t = spares_ok n t && all writer_ok (writers_in n t)

-- and their keys rise, and so many of them are alive and not alive
unfoldable pub records_agree : ℕ → List ℕ → ℕ → ℕ → Bool
records_agree n t alive not_alive =
    records_test n t && (rising writer_key (writers_in n t)
    && (eqb alive (alive_count (writers_in n t)) && eqb not_alive (not_alive_count (writers_in n t))))
