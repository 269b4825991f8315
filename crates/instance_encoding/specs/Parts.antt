-- Groups of fields of an instance's record, as their widths and values.
use Rattle.std.specs.Prelude.{ℕ, List, [], ◌∷◌}
use Rattle.model.specs.declared.Life.{Life}
use Rattle.model.specs.declared.Times.{Times}

-- the fields at offset 24: flags, the holder's length, and what is counted
abbrev pub life_widths : List ℕ
life_widths = 2 ∷ 2 ∷ 4 ∷ 4 ∷ 4 ∷ 4 ∷ []

abbrev pub life_values : ℕ → ℕ → Life → List ℕ
life_values flags len l =
    flags ∷ len ∷ l.disposed_generations ∷ l.no_writers_generations ∷ l.writer_count ∷ l.samples ∷ []

-- the fields at offset 44: six times
abbrev pub times_widths : List ℕ
times_widths = 4 ∷ 4 ∷ 4 ∷ 4 ∷ 4 ∷ 4 ∷ 4 ∷ 4 ∷ 4 ∷ 4 ∷ 4 ∷ 4 ∷ []

abbrev pub times_values : Times → List ℕ
times_values t =
    t.last_sample.sec ∷ t.last_sample.nanosec ∷ t.last_delivered.sec ∷ t.last_delivered.nanosec
    ∷ t.last_filter.sec ∷ t.last_filter.nanosec ∷ t.disposed_at.sec ∷ t.disposed_at.nanosec
    ∷ t.no_writers_at.sec ∷ t.no_writers_at.nanosec ∷ t.owner_at.sec ∷ t.owner_at.nanosec ∷ []
