-- What a sheet of 256 bytes has, and the times and clocks that a call takes from it.
--     sheet_fits             every field fits
--     taken_time, used-time, absent-time     times that go to a record
--     taken_holder           the holder
use mathlib.Core.Bool.{true}
use mathlib.Core.List.{List, [], ◌∷◌, ◌++◌}
use mathlib.Core.Path.{◌≡◌, refl, ap, ◌∙◌}
use Prim.Native.Nat.{ℕ, zero, suc, ◌-◌, ◌^◌, ◌≤◌, ◌<◌, min}
use native.Mathlib.Omega.{arith}
use borrow.Author.Tests.{le-leb}
use lib.ListN.{length, take, drop, replicate, length-append, length-replicate, length-drop}
use lib.Seq.{drop_at, length-take-le}
use Rattle.octets.specs.Bounds.{Bytes}
use Rattle.octets.proofs.BoundLaws.{be-lt}
use Rattle.octets.specs.Octets.{be}
use Rattle.model.specs.declared.MaybeTime.{MaybeTime}
use Rattle.model.specs.declared.Sheet.{Sheet}
use Rattle.model.specs.Refusals.{optional, nanoseconds_ok}
use Rattle.model.specs.Sheets.{padded, sheet_of}
use Rattle.model.specs.Tables.{all}
use Rattle.model.specs.Times.{no_time, always, if_present}
use Rattle.octets.specs.Zeros.{all_zero}
use Rattle.octets.proofs.ZeroLaws.{all_zero-zeros}
use Rattle.model.specs.WellFormed.{time_ok, holder_ok}
use Rattle.model.proofs.Fits.{FitsGuid, FitsTime}
use Rattle.model.proofs.GuidLaws.{bytes_take, bytes_drop}
use Rattle.model.proofs.Tests.{both}
use Rattle.accounts.proofs.Basics.{either}
use Rattle.accounts.proofs.Sound.{SoundTime, SoundHolder}

pub record SheetFits (s : Sheet) : Type 0 where
  pub key : FitsGuid s.key
  pub guid : FitsGuid s.guid
  pub time1 : FitsTime s.time_1
  pub time2 : FitsTime s.time_2
  pub strength : s.second < 256 ^ 4
  pub holder_size : length s.holder.bytes ≡ 144
  pub holder_bytes : Bytes s.holder.bytes
  pub holder_zeros : s.holder.len ≤ 144 → all_zero (drop s.holder.len s.holder.bytes) ≡ true

bytes-padded : (n : ℕ) (xs : List ℕ) → Bytes xs → Bytes (xs ++ replicate n 0)
bytes-padded zero [] b i = omega arith
bytes-padded (suc n) [] b zero = omega arith
bytes-padded (suc n) [] b (suc i) = bytes-padded n [] b i
bytes-padded n (x ∷ xs) b zero = b zero
bytes-padded n (x ∷ xs) b (suc i) = bytes-padded n xs (λ j. b (suc j)) i

length-padded : (xs : List ℕ) → length xs ≤ 144 → length (padded xs) ≡ 144
length-padded xs l =
    omega (arith, length-append xs (replicate (144 - length xs) 0), length-replicate {A = ℕ} (144 - length xs) 0)

zeros-padded : (n : ℕ) (xs : List ℕ) → length xs ≡ n → all_zero (drop n (padded xs)) ≡ true
zeros-padded n xs e = ap all_zero (drop_at xs (replicate (144 - length xs) 0) n e) ∙ all_zero-zeros (144 - length xs)

pub sheet_fits : (b : List ℕ) → Bytes b → length b ≡ 256 → SheetFits (sheet_of b)
unfolding sheet_of
sheet_fits b bytes size =
    record {
      key = record { high = be-lt 8 b 0 bytes; low = be-lt 8 b 8 bytes };
      guid = record { high = be-lt 8 b 16 bytes; low = be-lt 8 b 24 bytes };
      time1 = record { sec = be-lt 4 b 40 bytes; nanosec = be-lt 4 b 44 bytes };
      time2 = record { sec = be-lt 4 b 48 bytes; nanosec = be-lt 4 b 52 bytes };
      strength = be-lt 4 b 76 bytes;
      holder_size = length-padded part (omega (arith, part_length));
      holder_bytes =
          bytes-padded (144 - length part) part (bytes_take (min (be 2 b 82) 144) (drop 84 b) (bytes_drop 84 b bytes));
      holder_zeros = λ l. zeros-padded (be 2 b 82) part (part_length ∙ omega arith);
    }
  where
    part : List ℕ
    part = take (min (be 2 b 82) 144) (drop 84 b)

    part_length : length part ≡ min (be 2 b 82) 144
    part_length = length-take-le (min (be 2 b 82) 144) (drop 84 b) (omega (arith, length-drop 84 b))

-- ---- times

pub absent-time : SoundTime no_time
unfolding time_ok
absent-time = record { sec = omega arith; nanosec = omega arith; ok = refl }

-- a time that a call takes in any case
pub taken_time : (t : MaybeTime) → FitsTime t → nanoseconds_ok t ≡ true → SoundTime (always t)
unfolding time_ok
taken_time t f e = record { sec = f.sec; nanosec = f.nanosec; ok = e }

present-ok : (t : MaybeTime) → t.present ≡ true → nanoseconds_ok t ≡ true → time_ok t ≡ true
unfolding time_ok
present-ok t p e = rw (p, e)

-- a time that a call takes by its presence bit
pub used-time : (t : MaybeTime) → FitsTime t → all nanoseconds_ok (optional t) ≡ true → SoundTime (if_present t)
used-time t f e =
    either SoundTime t.present t no_time
    (λ p. record { sec = f.sec; nanosec = f.nanosec; ok = present-ok t p (nano p) })
    (λ p. absent-time)
  where
    nano : t.present ≡ true → nanoseconds_ok t ≡ true
    nano p = unfold all in (both (nanoseconds_ok t) true (rw p at e)).0

-- ---- the holder

pub taken_holder : (s : Sheet) → SheetFits s → s.holder.len ≤ 144 →
    SoundHolder record { present = true; len = s.holder.len; bytes = s.holder.bytes }
unfolding holder_ok
taken_holder s f l =
    record {
      len = l;
      size = f.holder_size;
      bytes = f.holder_bytes;
      ok = rw
          (le-leb s.holder.len 144 l, f.holder_zeros l);
    }
