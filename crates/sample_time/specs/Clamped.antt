-- The tests of document 01's section 3, which the Rust has: under filter, destination order and autopurge a time counted
-- max(seconds, 0), under the deadline as it is. Document 02's request 7 takes the Rust as yardstick where seconds are not
-- negative.
use Rattle.std.specs.Prelude.{ℕ, ◌+◌, ◌-◌, ◌*◌, ◌%◌, ◌^◌, ◌≤◌, ◌<◌, Bool, not, ◌&&◌, ◌||◌, cond, leb, ltb, eqb}
use Rattle.model.specs.declared.MaybeTime.{MaybeTime}
use Rattle.model.specs.Times.{billion, raised, negative}

-- max(seconds, 0), and nanoseconds
abbrev pub clamped_nanos_of : MaybeTime → ℕ
clamped_nanos_of t = cond (negative t.sec) 0 t.sec * billion + t.nanosec

abbrev pub filter_clamped : MaybeTime → MaybeTime → ℕ → Bool
filter_clamped last candidate separation =
    not last.present
    || (ltb (clamped_nanos_of candidate) (clamped_nanos_of last) || leb (clamped_nanos_of last + separation) (clamped_nanos_of candidate))

abbrev pub order_clamped : MaybeTime → MaybeTime → Bool
order_clamped last candidate = not last.present || ltb (clamped_nanos_of last) (clamped_nanos_of candidate)

abbrev pub purge_clamped : MaybeTime → MaybeTime → ℕ → Bool
purge_clamped since now delay =
    since.present && (not (eqb delay (2 ^ 64 - 1)) && leb delay (clamped_nanos_of now - clamped_nanos_of since))

-- signed seconds, counted from -2^31 on, and nanoseconds
abbrev pub raised_nanos_of : MaybeTime → ℕ
raised_nanos_of t = raised t.sec * billion + t.nanosec

abbrev pub deadline_raised : MaybeTime → MaybeTime → ℕ → Bool
deadline_raised owner_at now deadline = owner_at.present && leb (raised_nanos_of owner_at + deadline) (raised_nanos_of now)

-- ---- which times the laws are about

-- at the epoch or after it
abbrev pub NotBefore : MaybeTime → Type 0
NotBefore t = t.sec < 2 ^ 31

-- so many seconds later
abbrev pub shifted : ℕ → MaybeTime → MaybeTime
shifted seconds t = record { present = t.present; sec = (t.sec + seconds) % 2 ^ 32; nanosec = t.nanosec }

-- the seconds fit 32 bits then too
pub record Room (seconds : ℕ) (t : MaybeTime) : Type 0 where
  pub bits : t.sec < 2 ^ 32
  pub room : raised t.sec + seconds < 2 ^ 32

-- seconds from -2^30 to 2^30 - 1
pub record Near (t : MaybeTime) : Type 0 where
  pub bits : t.sec < 2 ^ 32
  pub from : 2 ^ 30 ≤ raised t.sec
  pub to : raised t.sec < 3 * 2 ^ 30
