-- Section 8: refusal 1, and 4 to 8 as one chain in the order of their numbers (2 and 3 stand in Call.antt); and section 2's "a
-- field is used if the call takes it and its presence bit, where it has one, is set". The late ones, 9 to 13, stand with
-- their calls.
use Rattle.std.specs.Prelude.{ℕ, ◌*◌, Bool, true, false, not, ◌&&◌, ◌||◌, cond, List, [], ◌∷◌, eqb, leb, ltb, length}
use Rattle.model.specs.declared.ClockUse.{ClockUse}
use Rattle.model.specs.declared.ClockUse.TheVariants.{NoClock, Clock, ClockAndLease}
use Rattle.model.specs.declared.MaybeTime.{MaybeTime}
use Rattle.model.specs.declared.Sheet.{Sheet}
use Rattle.model.specs.Calls.{Call, instances, tracker, joined, InstanceCall, TrackerCall, JoinedCall, admit, lapse, part, depart}
use Rattle.model.specs.Guids.{guid_size}
use Rattle.model.specs.InstanceRecord.{instance_size, holder_places}
use Rattle.model.specs.Instances.{FieldUse, Never, IfPresent, Always, rule}
use Rattle.model.specs.Sheets.{sheet_size}
use Rattle.model.specs.State.{Lent, State, writer_places, lost_places, out_size}
use Rattle.model.specs.Tables.{all}
use Rattle.model.specs.Times.{billion}
use Rattle.model.specs.WellFormed.{clock_ok}
use Rattle.model.specs.WriterRecord.{writer_size}
use Rattle.model.specs.Writers.{tracker_rule, acknowledgeable}

-- ---- 1: a buffer length other than stated

unfoldable pub lengths_ok : ℕ → List ℕ → Lent → Bool
lengths_ok places sheet l =
    eqb (length sheet) sheet_size && (eqb (length l.pens) (places * instance_size)
    && (eqb (length l.writers) (writer_places * writer_size)
    && (eqb (length l.lost) (lost_places * guid_size) && eqb (length l.out) out_size)))

-- ---- a used field: the call takes it and its presence bit, where it has one, is set

abbrev pub used : FieldUse → Bool → Bool
used Never present = false
used IfPresent present = present
used Always present = true

-- ---- 4: nanoseconds of 10^9 or more in a used time

-- the times ts, and before them t where it is used
abbrev pub with_time : FieldUse → MaybeTime → List MaybeTime → List MaybeTime
with_time k t ts = cond (used k t.present) (t ∷ ts) ts

-- a time where its presence bit is set
abbrev pub optional : MaybeTime → List MaybeTime
optional t = with_time IfPresent t []

abbrev pub times_used_by : InstanceCall → Sheet → List MaybeTime
times_used_by c s = with_time (rule c).time_1 s.time_1 (with_time (rule c).time_2 s.time_2 [])

abbrev pub times_used_joined : JoinedCall → Sheet → List MaybeTime
times_used_joined admit s = s.time_1 ∷ s.time_2 ∷ []
times_used_joined lapse s = optional s.time_1
times_used_joined part s = optional s.time_1
times_used_joined depart s = optional s.time_1

abbrev pub times_used : Call → Sheet → List MaybeTime
times_used (instances c) s = times_used_by c s
times_used (tracker c) s = []
times_used (joined c) s = times_used_joined c s

abbrev pub nanoseconds_ok : MaybeTime → Bool
nanoseconds_ok t = ltb t.nanosec billion

-- ---- 5: used clock or lease of 2^62 or more

-- A, and B where its lease bit is set
abbrev pub clocks_with : ClockUse → Sheet → List ℕ
clocks_with NoClock s = []
clocks_with Clock s = s.a ∷ []
clocks_with ClockAndLease s = s.a ∷ cond s.lease_present (s.b ∷ []) []

abbrev pub clocks_used_by : TrackerCall → Sheet → List ℕ
clocks_used_by c s = clocks_with (tracker_rule c).clocks s

abbrev pub clocks_used_joined : JoinedCall → Sheet → List ℕ
clocks_used_joined admit s = []
clocks_used_joined lapse s = s.a ∷ []
clocks_used_joined part s = []
clocks_used_joined depart s = []

abbrev pub clocks_used : Call → Sheet → List ℕ
clocks_used (instances c) s = []
clocks_used (tracker c) s = clocks_used_by c s
clocks_used (joined c) s = clocks_used_joined c s

-- ---- 6: used holder above 144. Codes 1, 9 and 48 take the holder in any case, code 8 by its presence bit

abbrev pub holder_used_by : InstanceCall → Sheet → Bool
holder_used_by c s = used (rule c).holder s.holder.present

abbrev pub holder_used_joined : JoinedCall → Bool
holder_used_joined admit = true
holder_used_joined lapse = false
holder_used_joined part = false
holder_used_joined depart = false

abbrev pub holder_used : Call → Sheet → Bool
holder_used (instances c) s = holder_used_by c s
holder_used (tracker c) s = false
holder_used (joined c) s = holder_used_joined c

abbrev pub holder_fits : Call → Sheet → Bool
holder_fits c s = not (holder_used c s) || leb s.holder.len holder_places

-- ---- 7: kind 3 in matched

abbrev pub kind_with : Bool → Sheet → Bool
kind_with matches s = not matches || not (eqb s.kind 3)

abbrev pub kind_ok : Call → Sheet → Bool
kind_ok (instances c) s = true
kind_ok (tracker c) s = kind_with (tracker_rule c).matches s
kind_ok (joined c) s = true

-- ---- 8: acknowledge taking count minus change beyond ±2^30

abbrev pub acknowledge_ok : Call → Sheet → State → Bool
acknowledge_ok (instances c) s st = true
acknowledge_ok (tracker c) s st = acknowledgeable c s st
acknowledge_ok (joined c) s st = true

-- ---- the chain of 4 to 8: the lowest number that applies, 0 for none

unfoldable pub sheet_refusal : Call → Sheet → State → ℕ
sheet_refusal c s st =
    cond (not (all nanoseconds_ok (times_used c s))) 4
    (cond (not (all clock_ok (clocks_used c s))) 5
    (cond (not (holder_fits c s)) 6
    (cond (not (kind_ok c s)) 7
    (cond (not (acknowledge_ok c s st)) 8 0))))
