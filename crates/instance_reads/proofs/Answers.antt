-- The answers of the reads, from the refusal's number and what was looked up.
--     time-free, time_early, time_late, table-free          the number with a time
--     refused-decision, refused-handle, refused-time        an answer that refuses
--     times-here, times_none, delivered_in, filter-in       the times that were looked up
--     bits-time                                             a caller's time, from its bits
--     filter-refused, filter-is                             the filter
--     order-refused, order-any, order_is                    destination order
--     delivered_refused, delivered_missing, delivered_is    last_delivered_ts
use Prim.Native.Nat.{ℕ, zero, suc, ◌≤◌, ◌<◌}
use mathlib.Core.Bool.{Bool, true, false}
use mathlib.Core.List.{List}
use mathlib.Core.Logic.{◌≢◌}
use mathlib.Core.Option.{Option, none, some}
use mathlib.Core.Path.{◌≡◌, refl, ap}
use native.Mathlib.Omega.{arith}
use borrow.Author.Tests.{eq-eqb, ne_eqb, lt-ltb, le-ltb}
use lib.IntN.{ℤ}
use mir.Syntax.{w32}
use mir.Val.{of_z, to_z}
use Rattle.model.specs.declared.Decision.TheVariants.{Is as decision_is, Refused as decision_refused}
use Rattle.model.specs.declared.FoundHandle.TheVariants.{Refused as found_handle_refused}
use Rattle.model.specs.declared.FoundTime.TheVariants.{Is as found_time_is, Missing as found_time_missing, Refused as found_time_refused}
use Rattle.model.specs.declared.Guid.{Guid}
use Rattle.model.specs.declared.Instance.{Instance}
use Rattle.model.specs.declared.MaybeTime.{MaybeTime}
use Rattle.model.specs.declared.Time.{Time}
use Rattle.model.specs.declared.Times.{Times}
use Rattle.model.specs.Instances.{has_key}
use Rattle.model.specs.Joined.{last_delivered, last_filter}
use Rattle.model.specs.Reads.{table_of, table_refusal, time_refusal, decision, handle_found, time_found, filter_read, order_read, last_delivered_read}
use Rattle.model.specs.Tables.{find}
use Rattle.model.specs.Times.{no_time, time_bits, filter_admits, order_admits}
use Rattle.instance_reads.specs.Looked.{times_in}

-- ---- the number with a time

module _ (places : ℕ) (t : List ℕ) (time : Time) where
  pub time-first : table_refusal places t ≢ 0 → table_refusal places t ≡ time_refusal places t time
  unfolding time_refusal
  time-first n = rw (ne_eqb (table_refusal places t) 0 n)

  pub time_early : table_refusal places t ≡ 0 → time.nanosec < 1000000000 → 0 ≡ time_refusal places t time
  unfolding time_refusal
  time_early e h = rw (eq-eqb (table_refusal places t) 0 e, lt-ltb time.nanosec 1000000000 h)

  pub time_late : table_refusal places t ≡ 0 → 1000000000 ≤ time.nanosec → 4 ≡ time_refusal places t time
  unfolding time_refusal
  time_late e h = rw (eq-eqb (table_refusal places t) 0 e, le-ltb time.nanosec 1000000000 h)

  pub table-free : time_refusal places t time ≡ 0 → table_refusal places t ≡ 0
  unfolding time_refusal
  table-free e = each (table_refusal places t) refl
    where
      each : (n : ℕ) → table_refusal places t ≡ n → table_refusal places t ≡ 0
      each zero q = q
      each (suc n) q = absurd (omega (arith, time-first (λ z. omega arith)))

-- ---- an answer that refuses

pub refused-decision : (n : ℕ) (b : Bool) → n ≢ 0 → decision_refused n ≡ decision n b
refused-decision zero b h = absurd (h refl)
refused-decision (suc n) b h = refl

pub refused-handle : (n : ℕ) (x : Option Instance) → n ≢ 0 → found_handle_refused n ≡ handle_found n x
refused-handle zero x h = absurd (h refl)
refused-handle (suc n) x h = refl

pub refused-time : (n : ℕ) (x : MaybeTime) → n ≢ 0 → found_time_refused n ≡ time_found n x
refused-time zero x h = absurd (h refl)
refused-time (suc n) x h = refl

-- ---- the times that were looked up

pub delivered_in : (o : Option Instance) → (times_in o).last_delivered ≡ last_delivered o
delivered_in none = refl
delivered_in (some x) = refl

pub filter-in : (o : Option Instance) → (times_in o).last_filter ≡ last_filter o
filter-in none = refl
filter-in (some x) = refl

pub times-here : (o : Option Instance) (x : Instance) → o ≡ some x → x.state.times ≡ times_in o
times-here o x e = rw e

pub times_none : (o : Option Instance) (n : MaybeTime) → n ≡ no_time → o ≡ none →
    record { last_sample = n; last_delivered = n; last_filter = n; disposed_at = n; no_writers_at = n; owner_at = n } ≡ times_in o
times_none o n e h = rw (e, h)

-- a caller's time, from the bits of its seconds
pub bits-time : (time : Time) (s : ℕ) → s ≡ of_z w32 time.sec → record { present = true; sec = s; nanosec = time.nanosec } ≡ time_bits time
bits-time time s e = rw e

-- ---- the three reads by key; n is the refusal's number

module _ (places : ℕ) (t : List ℕ) (key : Guid) where
  abbrev looked : Option Instance
  looked = find (has_key key) (table_of places t)

  module _ (time : Time) (n : ℕ) (en : n ≡ time_refusal places t time) where
    pub filter-refused : (separation : ℕ) → n ≢ 0 → decision_refused n ≡ filter_read places t key time separation
    unfolding filter_read
    filter-refused separation h = rw (← en) (refused-decision n _ h)

    pub order-refused : (by_source : Bool) → n ≢ 0 → decision_refused n ≡ order_read places t key time by_source
    unfolding order_read
    order-refused by_source h = rw (← en) (refused-decision n _ h)

    pub order-any : (by_source : Bool) → n ≡ 0 → by_source ≡ false → decision_is true ≡ order_read places t key time by_source
    unfolding order_read
    order-any by_source z f = rw (← en, z, f)

    module _ (times : Times) (et : times ≡ times_in looked) (candidate : MaybeTime) (ec : candidate ≡ time_bits time) (b : Bool) where
      pub filter-is : (separation : ℕ) → n ≡ 0 → b ≡ filter_admits times.last_filter candidate separation →
          decision_is b ≡ filter_read places t key time separation
      unfolding filter_read
      filter-is separation z eb = rw (← en, z, ← filter-in looked, ← et, ← ec) (ap decision_is eb)

      pub order_is : (by_source : Bool) → n ≡ 0 → by_source ≡ true → b ≡ order_admits times.last_delivered candidate →
          decision_is b ≡ order_read places t key time by_source
      unfolding order_read
      order_is by_source z s eb = rw (← en, z, s, ← delivered_in looked, ← et, ← ec) (ap decision_is eb)

  module _ (n : ℕ) (en : n ≡ table_refusal places t) where
    pub delivered_refused : n ≢ 0 → found_time_refused n ≡ last_delivered_read places t key
    unfolding last_delivered_read
    delivered_refused h = rw (← en) (refused-time n _ h)

    module _ (times : Times) (et : times ≡ times_in looked) (z : n ≡ 0) where
      pub delivered_missing : times.last_delivered.present ≡ false → found_time_missing ≡ last_delivered_read places t key
      unfolding last_delivered_read
      delivered_missing f = rw (← en, z, ← delivered_in looked, ← et, f)

      pub delivered_is : times.last_delivered.present ≡ true → (sec : ℤ) → sec ≡ to_z w32 times.last_delivered.sec →
          found_time_is record { sec = sec; nanosec = times.last_delivered.nanosec } ≡ last_delivered_read places t key
      unfolding last_delivered_read
      delivered_is f sec s = rw (← en, z, ← delivered_in looked, ← et, f, s)
