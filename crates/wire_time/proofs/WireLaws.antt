-- The laws of wire time.
--     worked            five conversions, worked out by hand
--     rule              each of the table's 1,000 entries is floor(m × 2^32 / 1000) for its own m; that the printed table is
--                       this one, the contract of `fractions` says
--     agreement         it is what the conversion gives at m × 10^6 nanoseconds
--     recovery          from its fraction and its remainder n comes back
--     near              and from any fraction less than a unit away, whichever way it was rounded, with 999,999,999 for the
--                       remainder
--     fraction_le       a fraction is at most 2^32 - 5, so it has 32 bits
--     nanos_le          the nanoseconds of any two are at most 10^9
--     nanos_lt          and below it where the remainder is below it
use Prim.Native.Nat.{ℕ, zero, suc, ◌+◌, ◌-◌, ◌*◌, ◌^◌, ◌<◌, ◌≤◌}
use mathlib.Core.List.{[], ◌∷◌, map}
use mathlib.Core.Path.{◌≡◌, refl, sym, ap, ◌∙◌}
use native.Mathlib.Nat.{add-zero, zero-add, add-suc, suc-add, le_of_suc-le-suc, not-suc-le-zero}
use native.Mathlib.Omega.{arith}
use borrow.Author.Tests.{lt-ltb}
use lib.ListN.{get_or}
use Rattle.wire_time.specs.WireTime.{fraction_of, entry_of, entries_from, table, nanos_of, accepted, refused, wire_fraction_of}

-- ---- lines

pub worked :
    map wire_fraction_of (0 ∷ 2 ∷ 1_000_000 ∷ 999_999_999 ∷ 1_000_000_000 ∷ [])
    ≡ accepted 0 0 ∷ accepted 8 589_934_592 ∷ accepted 4_294_967 296_000_000 ∷ accepted 4_294_967_291 705_032_704 ∷ refused 4 ∷ []
unfolding wire_fraction_of
worked = refl

-- ---- the table

rule-from : (count m i : ℕ) → i < count → get_or (entries_from m count) i 0 ≡ entry_of (m + i)
rule-from zero m i h = absurd (not-suc-le-zero h)
rule-from (suc count) m zero h = ap entry_of (sym (add-zero m))
rule-from (suc count) m (suc i) h = rule-from count (suc m) i (le_of_suc-le-suc h) ∙ ap entry_of (suc-add m i ∙ sym (add-suc m i))

pub rule : (m : ℕ) → m < 1000 → get_or table m 0 ≡ entry_of m
rule m h = rule-from 1000 0 m h ∙ ap entry_of (zero-add m)

pub whole_milliseconds : (m : ℕ) → fraction_of (m * 10 ^ 6) ≡ entry_of m
whole_milliseconds m = omega arith

pub agreement : (m : ℕ) → m < 1000 → (wire_fraction_of (m * 10 ^ 6)).fraction ≡ get_or table m 0
unfolding wire_fraction_of
agreement m h = rw (lt-ltb (m * 10 ^ 6) (10 ^ 9) (omega arith)) (whole_milliseconds m ∙ sym (rule m h))

-- ---- there and back

pub recovery : (n : ℕ) → n < 10 ^ 9 → nanos_of (wire_fraction_of n).fraction (wire_fraction_of n).remainder ≡ n
unfolding wire_fraction_of
recovery n h = rw (lt-ltb n (10 ^ 9) h) (omega arith)

pub near : (f n : ℕ) → f * 10 ^ 9 < n * 2 ^ 32 + 10 ^ 9 → n * 2 ^ 32 < f * 10 ^ 9 + 10 ^ 9 → nanos_of f 999_999_999 ≡ n
near f n above below = omega arith

-- ---- ranges

pub fraction_le : (n : ℕ) → n < 10 ^ 9 → fraction_of n ≤ 2 ^ 32 - 5
fraction_le n h = omega arith

pub nanos_le : (f r : ℕ) → f < 2 ^ 32 → r < 2 ^ 32 → nanos_of f r ≤ 10 ^ 9
nanos_le f r hf hr = omega arith

pub nanos_lt : (f r : ℕ) → f < 2 ^ 32 → r < 10 ^ 9 → nanos_of f r < 10 ^ 9
nanos_lt f r hf hr = omega arith
