-- Section 2, Sheet: its 256 bytes as fields. Which of them a call uses is said in Refusals.antt.
use Rattle.std.specs.Prelude.{ℕ, ◌-◌, ◌%◌, min, Bool, true, List, ◌++◌, length, take, drop, replicate}
use Rattle.octets.specs.Octets.{be}
use Rattle.model.specs.declared.Holder.{Holder}
use Rattle.model.specs.declared.Sheet.{Sheet}
use Rattle.model.specs.Guids.{guid_at}
use Rattle.model.specs.Handles.{handle}
use Rattle.model.specs.InstanceRecord.{flag, time_at, holder_places}

abbrev pub sheet_size : ℕ
sheet_size = 256

-- bytes, zeros behind them
abbrev pub padded : List ℕ → List ℕ
padded bytes = bytes ++ replicate (holder_places - length bytes) 0

-- the holder on a sheet: 82 its length, 84 its bytes
abbrev pub holder_on : List ℕ → Bool → Holder
holder_on s present =
    record { present = present; len = be 2 s 82; bytes = padded (take (min (be 2 s 82) holder_places) (drop 84 s)) }

-- the fields: 0 key, 16 GUID, 32 handle, 40 time 1, 48 time 2, 56 A, 64 B, 72 limit or first acknowledged change, 76
-- strength, second change or n, 80 bits, 81 call code. The bits are time 1, deadline, lease and holder present, manual, by
-- source, and kind in two
abbrev pub sheet_by : List ℕ → ℕ → Sheet
sheet_by s bits =
    record {
      key = guid_at s 0;
      guid = guid_at s 16;
      handle = handle (be 8 s 32);
      time_1 = time_at s 40 (flag 128 bits);
      time_2 = time_at s 48 true;
      a = be 8 s 56;
      b = be 8 s 64;
      first = be 4 s 72;
      second = be 4 s 76;
      deadline_present = flag 64 bits;
      lease_present = flag 32 bits;
      manual = flag 8 bits;
      by_source = flag 4 bits;
      kind = bits % 4;
      code = be 1 s 81;
      holder = holder_on s (flag 16 bits);
    }

unfoldable pub sheet_of : List ℕ → Sheet
sheet_of s = sheet_by s (be 1 s 80)
