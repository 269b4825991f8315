-- Section 8 on the accounts: where a call whose sheet is in order is refused still, by 8 and by 9 to 13. Each is the number,
-- 0 for none. And the claims that a list's calls are refused so, and never as 3.
use Rattle.std.specs.Prelude.{ℕ, ◌+◌, ◌^◌, ◌≡◌, List, ◌≢◌, Bool, true, false, not, ◌&&◌, ◌||◌, cond, eqb, leb, ltb, ◌+ℤ◌, length}
use Rattle.std.proofs.Math.Option.{some}
use Rattle.std.specs.Int.{w32}
use Rattle.std.proofs.Common.{to_z}
use Rattle.octets.specs.Lay.{All}
use Rattle.model.specs.declared.AcknowledgeUse.{AcknowledgeUse}
use Rattle.model.specs.declared.AcknowledgeUse.TheVariants.{Nothing, Whole, Part}
use Rattle.model.specs.declared.Sheet.{Sheet}
use Rattle.model.specs.declared.InstanceCall.{InstanceCall}
use Rattle.model.specs.declared.TrackerCall.{TrackerCall}
use Rattle.model.specs.declared.JoinedCall.{JoinedCall}
use Rattle.model.specs.declared.TrackerCall.TheVariants.{Expire as expire}
use Rattle.model.specs.declared.JoinedCall.TheVariants.{Admit as admit, Lapse as lapse, Part as part, Depart as depart}
use Rattle.model.specs.Call.{Left}
use Rattle.model.specs.Calls.{Call, instances, tracker, joined, call_of_code}
use Rattle.model.specs.Guids.{num}
use Rattle.model.specs.InstanceCalls.{crowds, reached}
use Rattle.model.specs.Instances.{rule, starts_by, limited_by}
use Rattle.model.specs.Joined.{in_order, passes_filter}
use Rattle.model.specs.Refusals.{nanoseconds_ok, times_used, clocks_used, holder_fits, kind_ok}
use Rattle.model.specs.Sheets.{sheet_of}
use Rattle.model.specs.State.{Lent, fresh}
use Rattle.model.specs.Tables.{all, is_some}
use Rattle.model.specs.Times.{negative}
use Rattle.model.specs.WellFormed.{clock_ok, within}
use Rattle.model.specs.Writers.{tracker_rule, appends}
use Rattle.accounts.specs.Accounts.{Accounts, accounts_of, Lending, next, final, history, SheetBytes, instances_in, writers_in}
use Rattle.accounts.specs.WriterAccounts.{expired_in, writers_after}

-- ---- a sheet in order: used times, clocks, leases and holder within 4 to 6 and, in code 32, kind not 3

-- these four
pub record Ordered (c : Call) (s : Sheet) : Type 0 where
  pub times : all nanoseconds_ok (times_used c s) ≡ true
  pub clocks : all clock_ok (clocks_used c s) ≡ true
  pub holder : holder_fits c s ≡ true
  pub kind : kind_ok c s ≡ true

-- ---- the numbers that are left: 8 in code 40 alone, and 9 to 13

-- a part: code 40
abbrev pub in_part : AcknowledgeUse → Bool
in_part Nothing = false
in_part Whole = false
in_part Part = true

abbrev pub acknowledges : Call → Bool
acknowledges (instances c) = false
acknowledges (tracker c) = in_part (tracker_rule c).acknowledges
acknowledges (joined c) = false

-- accepted, or refused by 9 to 13
abbrev pub late_number : ℕ → Bool
late_number n = eqb n 0 || (leb 9 n && leb n 13)

-- or by 8, in code 40
abbrev pub allowed : Call → ℕ → Bool
allowed c n = late_number n || (acknowledges c && eqb n 8)

-- ---- 9, 13 and 10

-- a new instance: the account of the sheet's key is absent
abbrev pub is_new : Sheet → Accounts → Bool
is_new s acc = not (is_some (acc.instances.at (num s.key)))

-- a negative limit is none; a known key never meets it
abbrev pub limit_met : Sheet → Accounts → Bool
limit_met s acc = is_new s acc && (not (negative s.first) && leb s.first (length (instances_in acc)))

-- 9: every place taken
abbrev pub places_taken : ℕ → Accounts → Bool
places_taken places acc = leb places (length (instances_in acc))

-- 13: the next handle is 2^63
abbrev pub handles_spent : Accounts → Bool
handles_spent acc = leb (2 ^ 63) (1 + length acc.instances.handles)

-- in codes 2 and 9 none at the limit comes before 9 and 13; 10 is a new writer with 16 in the set of the instance reached
unfoldable pub busy_instance : ℕ → InstanceCall → Sheet → Accounts → ℕ
busy_instance places c s acc =
    cond (limited_by (rule c).reach && limit_met s acc) 0
    (cond ((starts_by (rule c).reach && is_new s acc) && places_taken places acc) 9
    (cond ((starts_by (rule c).reach && is_new s acc) && handles_spent acc) 13
    (cond ((rule c).adds_writer && crowds s (reached c s (instances_in acc))) 10 0)))

-- ---- 11, 12 and 8

-- 11: new GUID, 128 writer records
abbrev pub busy_match : Sheet → Accounts → Bool
busy_match s acc = not (is_some (acc.writers.at (num s.guid))) && leb 128 (length (writers_in acc))

-- 12: expiries beyond 256 in Lost
abbrev pub busy_expire : TrackerCall → Sheet → Accounts → Bool
busy_expire c s acc =
    ltb 256
    (length acc.writers.lost + length (expired_in acc.writers.at (writers_after c s acc.writers.at)))

-- 8: acknowledge taking count minus change beyond ±2^30
abbrev pub busy_acknowledge : Sheet → Accounts → Bool
busy_acknowledge s acc =
    not (within (acc.writers.acknowledged_alive +ℤ to_z w32 s.first)
    && within (acc.writers.acknowledged_not_alive +ℤ to_z w32 s.second))

-- tracker calls
abbrev pub busy_tracker : TrackerCall → Sheet → Accounts → ℕ
busy_tracker c s acc =
    cond (in_part (tracker_rule c).acknowledges && busy_acknowledge s acc) 8
    (cond ((tracker_rule c).matches && busy_match s acc) 11
    (cond (appends (tracker_rule c).lost && busy_expire c s acc) 12 0))

-- ---- joined calls

-- outcomes 1, 2 and 3 come before 9, 13 and 10
unfoldable pub busy_admit : ℕ → Sheet → Accounts → ℕ
busy_admit places s acc =
    cond (not (in_order s (acc.instances.at (num s.key)))) 0
    (cond (not (passes_filter s (acc.instances.at (num s.key)))) 0
    (cond (limit_met s acc) 0
    (cond (is_new s acc && places_taken places acc) 9
    (cond (is_new s acc && handles_spent acc) 13
    (cond (crowds s (acc.instances.at (num s.key))) 10 0)))))

-- codes 49 to 51 meet what 37, 33 and 34 meet
abbrev pub busy_joined : ℕ → JoinedCall → Sheet → Accounts → ℕ
busy_joined places admit s acc = busy_admit places s acc
busy_joined places lapse s acc = cond (busy_expire expire s acc) 12 0
busy_joined places part s acc = 0
busy_joined places depart s acc = 0

-- any call
abbrev pub busy : ℕ → Call → Sheet → Accounts → ℕ
busy places (instances c) s acc = busy_instance places c s acc
busy places (tracker c) s acc = busy_tracker c s acc
busy places (joined c) s acc = busy_joined places c s acc

-- ---- the claims, on the next call after any list from the fresh state

module _ (places : ℕ) (call : List ℕ → Lent → Left) where
  abbrev pub after : Lending → List Lending → List ℕ → Left
  after i is out = next call i (final call is (fresh places out))

  -- none is refused by 3, whatever its sheet and Out
  abbrev pub Never3 : Type 0
  Never3 = (is : List Lending) (out : List ℕ) (i : Lending) → All SheetBytes is → (after i is out).answer.number ≢ 3

  -- with a sheet of 256 bytes in order, an Out of 4,096 and a valid code it is refused as the accounts say
  abbrev pub OnlyBusy : Type 0
  OnlyBusy =
      (is : List Lending) (out : List ℕ) (i : Lending) (c : Call) → All SheetBytes is → SheetBytes i →
      length i.sheet ≡ 256 → length i.out ≡ 4096 → call_of_code (sheet_of i.sheet).code ≡ some c →
      Ordered c (sheet_of i.sheet) →
      (after i is out).answer.number ≡ busy places c (sheet_of i.sheet) (accounts_of (history call is (fresh places out)))

  -- so by nothing but 8, in code 40 alone, and 9 to 13
  abbrev pub NothingElse : Type 0
  NothingElse =
      (is : List Lending) (out : List ℕ) (i : Lending) (c : Call) → All SheetBytes is →
      length i.sheet ≡ 256 → length i.out ≡ 4096 → call_of_code (sheet_of i.sheet).code ≡ some c →
      Ordered c (sheet_of i.sheet) →
      allowed c (after i is out).answer.number ≡ true
