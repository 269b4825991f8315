-- Document 02, ticket 4: wire time. The stamps of RTPS carry a 32-bit fraction of a second, in units of 2^-32 s.
use Rattle.std.specs.Prelude.{ℕ, zero, suc, ◌+◌, ◌*◌, ◌/◌, ◌%◌, ◌^◌, cond, List, [], ◌∷◌, ltb}
use Rattle.wire_time.specs.declared.WireFraction.{WireFraction}

-- nanoseconds n to the fraction floor(n × 2^32 / 10^9)
abbrev pub fraction_of : ℕ → ℕ
fraction_of n = n * 2 ^ 32 / 10 ^ 9

-- the remainder of that division, at whole milliseconds too
abbrev pub remainder_of : ℕ → ℕ
remainder_of n = n * 2 ^ 32 % 10 ^ 9

-- the nanoseconds of a fraction and a remainder, rounded down where no conversion gave the two
abbrev pub nanos_of : ℕ → ℕ → ℕ
nanos_of fraction remainder = (fraction * 10 ^ 9 + remainder) / 2 ^ 32

-- entry m of the table: floor(m × 2^32 / 1000)
abbrev pub entry_of : ℕ → ℕ
entry_of m = m * 2 ^ 32 / 1000

-- so many entries, from entry m on
abbrev pub entries_from : ℕ → ℕ → List ℕ
entries_from m zero = []
entries_from m (suc count) = entry_of m ∷ entries_from (suc m) count

-- what the printed table has to be
abbrev pub table : List ℕ
table = entries_from 0 1000

abbrev pub accepted : ℕ → ℕ → WireFraction
accepted fraction remainder = record { number = 0; fraction = fraction; remainder = remainder }

-- a refusal: its number, and zeros
abbrev pub refused : ℕ → WireFraction
refused number = record { number = number; fraction = 0; remainder = 0 }

-- nanoseconds below 10^9 are converted; 10^9 or more meet number 4
unfoldable pub wire_fraction_of : ℕ → WireFraction
wire_fraction_of n = cond (ltb n (10 ^ 9)) (accepted (fraction_of n) (remainder_of n)) (refused 4)
