-- Section 2: records of one size, one behind the other from the front of a buffer. `rows` lays them out and `lay` adds the
-- zeros behind them (crate octets); `read_rows` reads them back.
use Rattle.std.specs.Prelude.{ℕ, zero, suc, List, [], ◌∷◌, take, drop}

-- the first n records of a buffer
unfoldable pub read_rows : {A : Type 0} → (List ℕ → A) → ℕ → ℕ → List ℕ → List A
read_rows record_of size zero t = []
read_rows record_of size (suc n) t = record_of (take size t) ∷ read_rows record_of size n (drop size t)
