-- The nanosecond value of a time as a difference of naturals: nanoseconds since -2^31 seconds, less 2^31 × 10^9.
--     seconds_are, nanos_are               the value of seconds alone, and of a time
--     later_is, gap_is                     of two values
--     nanos_fit, gap_fits                  64 bits hold it
--     gap_asked                            the same of two values, as a function reads what others returned
use Prim.Native.Nat.{ℕ, ◌*◌, ◌^◌, ◌<◌}
use mathlib.Core.Path.{◌≡◌, ap, ap₂, ◌∙◌}
use native.Mathlib.Omega.{arith}
use lib.Dec.{ltb}
use lib.IntN.{ℤ, pos, sub_ℕ, ◌+ℤ◌, ◌*ℤ◌}
use mir.Syntax.{w32, w64}
use mir.Val.{Fits, SFits, of_z, to_z}
use Rattle.model.specs.declared.MaybeTime.{MaybeTime}
use Rattle.model.specs.Times.{billion, raised, time_value, gap, is_later}
use Rattle.numbers.proofs.Signed.{fits_as, back, lowered}
use Rattle.sample_time.specs.Clamped.{raised_nanos_of}
use Rattle.sample_time.proofs.Differences.{sub-plus, sub-times, sub_order, sub-gap, sub_fits}

abbrev epoch : ℕ
epoch = 2 ^ 31 * billion

pub seconds_are : (b : ℕ) → b < 2 ^ 32 → to_z w32 b *ℤ pos billion ≡ sub_ℕ (raised b * billion) epoch
seconds_are b h = rw (← lowered h) (sub-times (raised b) (2 ^ 31))

pub nanos_are : (t : MaybeTime) → t.sec < 2 ^ 32 → time_value t ≡ sub_ℕ (raised_nanos_of t) epoch
unfolding time_value
nanos_are t h =
    ap (λ (z : ℤ). z +ℤ pos t.nanosec) (seconds_are t.sec h) ∙ sub-plus (raised t.sec * billion) epoch t.nanosec

module _ (a b : MaybeTime) (p : a.sec < 2 ^ 32) (q : b.sec < 2 ^ 32) where
  pub later_is : is_later (time_value a) (time_value b) ≡ ltb (raised_nanos_of a) (raised_nanos_of b)
  later_is = rw (nanos_are a p, nanos_are b q) (sub_order (raised_nanos_of a) (raised_nanos_of b) epoch)

  pub gap_is : gap (time_value a) (time_value b) ≡ sub_ℕ (raised_nanos_of b) (raised_nanos_of a)
  gap_is = rw (nanos_are a p, nanos_are b q) (sub-gap (raised_nanos_of a) (raised_nanos_of b) epoch)

  pub gap_fits : a.nanosec < 2 ^ 32 → b.nanosec < 2 ^ 32 → SFits w64 (gap (time_value a) (time_value b))
  gap_fits m n = fits_as gap_is (sub_fits (raised_nanos_of b) (raised_nanos_of a) (omega arith) (omega arith))

pub nanos_fit : (t : MaybeTime) → t.sec < 2 ^ 32 → t.nanosec < 2 ^ 32 → SFits w64 (time_value t)
nanos_fit t h m = fits_as (nanos_are t h) (sub_fits (raised_nanos_of t) epoch (omega arith) (omega arith))

-- ---- as they are read

read : (t : MaybeTime) → Fits w32 t.sec → Fits w32 t.nanosec → {z : ℤ} → z ≡ time_value t → to_z w64 (of_z w64 z) ≡ time_value t
read t p m e = back e (nanos_fit t p.fits m.fits)

module _ (a b : MaybeTime) (p : Fits w32 a.sec) (m : Fits w32 a.nanosec) (q : Fits w32 b.sec) (n : Fits w32 b.nanosec) {y z : ℤ} (e : y ≡ time_value a) (f : z ≡ time_value b) where
  pub gap_asked : SFits w64 (gap (to_z w64 (of_z w64 y)) (to_z w64 (of_z w64 z)))
  gap_asked = fits_as (ap₂ gap (read a p m e) (read b q n f)) (gap_fits a b p.fits q.fits m.fits n.fits)
