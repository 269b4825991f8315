-- Times and the four tests on them: the opening paragraphs, and section 3's lines on filters, order, deadline and
-- autopurge, over the signed value of document 02's request 7. Seconds are given by their 32 bits in two's complement.
use Rattle.std.specs.Prelude.{ℕ, ◌+◌, ◌-◌, ◌%◌, ◌^◌, Bool, true, false, not, ◌&&◌, ◌||◌, cond, leb, eqb, ℤ, pos, negsuc, ◌+ℤ◌, ◌-ℤ◌, ◌*ℤ◌}
use Rattle.std.specs.Int.Signed.{lt_z, le_z}
use Rattle.std.specs.Int.{w32}
use Rattle.std.proofs.Common.{of_z, to_z}
use Rattle.model.specs.declared.Time.{Time}
use Rattle.model.specs.declared.MaybeTime.{MaybeTime}

abbrev pub billion : ℕ
billion = 1_000_000_000

-- a number of 32 bits with a sign, plus 2^31: the order of these is the order of the signed numbers; strengths are compared so
abbrev pub raised : ℕ → ℕ
raised bits = (bits + 2 ^ 31) % 2 ^ 32

abbrev pub negative : ℕ → Bool
negative bits = leb (2 ^ 31) bits

-- ---- the nanosecond value, and the tests on such values

-- under filters, destination order, autopurge and the deadline: signed seconds × 10^9, and nanoseconds added below zero too
unfoldable pub time_value : MaybeTime → ℤ
time_value t = to_z w32 t.sec *ℤ pos billion +ℤ pos t.nanosec

-- from one value to another; below zero where the other is earlier
abbrev pub gap : ℤ → ℤ → ℤ
gap from to = to -ℤ from

-- a gap is so many nanoseconds or more
abbrev pub reaches : ℤ → ℕ → Bool
reaches g nanoseconds = le_z (pos nanoseconds) g

-- filter: earlier than the last is admitted, else the gap must reach the separation
abbrev pub gap_passes : ℤ → ℤ → ℕ → Bool
gap_passes last candidate separation = lt_z candidate last || reaches (gap last candidate) separation

-- destination order: strictly later
abbrev pub is_later : ℤ → ℤ → Bool
is_later last candidate = lt_z last candidate

-- autopurge: a negative gap counts as 0
abbrev pub elapsed : ℤ → ℕ
elapsed (pos n) = n
elapsed (negsuc n) = 0

-- ---- the tests on times

-- filter: with no last time yes
unfoldable pub filter_admits : MaybeTime → MaybeTime → ℕ → Bool
filter_admits last candidate separation = not last.present || gap_passes (time_value last) (time_value candidate) separation

-- destination order: with no last time yes
unfoldable pub order_admits : MaybeTime → MaybeTime → Bool
order_admits last candidate = not last.present || is_later (time_value last) (time_value candidate)

-- the owner's deadline is missed: its last accepted sample is a deadline or more before now
unfoldable pub deadline_missed : MaybeTime → MaybeTime → ℕ → Bool
deadline_missed owner_at now deadline = owner_at.present && reaches (gap (time_value owner_at) (time_value now)) deadline

-- autopurge: the delay has run out since a time that is there; the delay 2^64 - 1 never does
unfoldable pub purge_due : MaybeTime → MaybeTime → ℕ → Bool
purge_due since now delay =
    since.present && (not (eqb delay (2 ^ 64 - 1)) && leb delay (elapsed (gap (time_value since) (time_value now))))

-- ---- optional times

abbrev pub no_time : MaybeTime
no_time = record { present = false; sec = 0; nanosec = 0 }

-- the time that a call takes in any case
abbrev pub always : MaybeTime → MaybeTime
always t = record { present = true; sec = t.sec; nanosec = t.nanosec }

-- the time that a call takes where its presence bit is set
abbrev pub if_present : MaybeTime → MaybeTime
if_present t = cond t.present t no_time

-- a given time, else what was there
abbrev pub given : MaybeTime → MaybeTime → MaybeTime
given new old = cond new.present new old

-- a caller's time as the records hold it, and back
abbrev pub time_bits : Time → MaybeTime
time_bits t = record { present = true; sec = of_z w32 t.sec; nanosec = t.nanosec }

abbrev pub time_of : MaybeTime → Time
time_of t = record { sec = to_z w32 t.sec; nanosec = t.nanosec }
