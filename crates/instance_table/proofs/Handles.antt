-- Handles of a table, by the places of their records.
--     others-all, others-not, others-by                      a handle that none has, and one that some has
--     handle_place                                           the place of the first that has it
--     Met, met_start, met_tells, met_turn                    the test of all handles: what is known after i of them
--     handles-ok, met_end, low_end, high_end, used-end       how it ends
--     noted_outside, noted_by                                the handles as numbers, and what is known of these
--     used_by                                                how many records are used
use Rattle.std.proofs.Common.{◌≡◌, ℕ, zero, suc, ◌+◌, ◌-◌, ◌*◌, ◌%◌, ◌<◌, ◌≤◌, Bool, true, false, not, ◌&&◌, eqb, ltb, leb, ◌≢◌, List, [], length, get_or, drop, set, replicate, sym, refl, ap, ◌∙◌, ⊎_elim, zero-add, add-one, arith, length-set, get_or-set_other, get_or-set_same, drop-drop, below_more, ltb-true, lt-ltb, eq-eqb, ne_eqb, le-leb, leb-true}
use native.Mathlib.Nat.{sub-zero}
use borrow.Author.Tests.{not-true}
use Rattle.octets.specs.Octets.{be}
use Rattle.model.specs.declared.Instance.{Instance}
use Rattle.model.specs.declared.InstanceHandle.{InstanceHandle}
use Rattle.model.specs.InstanceRecord.{instance_of}
use Rattle.model.specs.Instances.{has_handle}
use Rattle.model.specs.Reads.{used_in}
use Rattle.model.specs.State.{instances_in}
use Rattle.model.specs.Tables.{all}
use Rattle.model.specs.WellFormed.{other_handle, handle_below, handles_distinct}
use Rattle.model.proofs.RowLaws.{length_read}
use Rattle.tables.specs.Places.{place_of}
use Rattle.model.proofs.Tests.{both, split, clash, lt-or-le, eq-or-ne}
use Rattle.tables.proofs.Finds.{all-at, at_all, place_unique}
use Rattle.tables.proofs.Puts.{distinct_ne, pairs_distinct}
use Rattle.distinct_handles.proofs.Order.{positive}
use Rattle.distinct_handles.specs.Apart.{Within, Apart}
use Rattle.instance_table.specs.Laid.{handle_at}
use Rattle.octets.proofs.Laws.{be-drop}
use Rattle.instance_table.proofs.Rows.{handle_read}

-- what stands in for an instance that is not there
abbrev pub blank : Instance
blank = instance_of []

module _ (t : List ℕ) (n : ℕ) where
  abbrev xs : List Instance
  xs = instances_in n t

  count : length xs ≡ n
  count = length_read instance_of 512 n t

  -- ---- a handle that none has

  pub others-all : (h : ℕ) → ((j : ℕ) → j < n → handle_at t j ≢ h) → all (other_handle h) xs ≡ true
  others-all h o =
      at_all (other_handle h) xs blank
      (λ j l. ap not (ne_eqb (get_or xs j blank).handle.0 h (λ e. o j (omega (arith, count)) (sym (handle_read n t j (omega (arith, count))) ∙ e))))

  pub others-not : (h j : ℕ) → j < n → handle_at t j ≡ h → all (other_handle h) xs ≡ false
  others-not h j l e =
      split (all (other_handle h) xs)
      (λ a.
      clash (eqb (get_or xs j blank).handle.0 h) (eq-eqb (get_or xs j blank).handle.0 h (handle_read n t j l ∙ e))
      (not-true (eqb (get_or xs j blank).handle.0 h) (all-at (other_handle h) xs blank a j (omega (arith, count)))))
      (λ a. a)

  pub others-at : (h : ℕ) → all (other_handle h) xs ≡ true → (j : ℕ) → j < n → handle_at t j ≢ h
  others-at h a j l e = clash (all (other_handle h) xs) a (others-not h j l e)

  -- by the place of the first that has it, n where none has
  pub others-by : (h i : ℕ) → i ≤ n → ((j : ℕ) → j < i → handle_at t j ≢ h) → (i < n → handle_at t i ≡ h) → eqb i n ≡ all (other_handle h) xs
  others-by h i l b a =
      ⊎_elim (λ m. rw (ne_eqb i n (λ e. omega arith)) (sym (others-not h i m (a m))))
      (λ m. let e : i ≡ n = omega arith in rw (eq-eqb i n e) (sym (others-all h (λ j k. b j (omega arith)))))
      (lt-or-le i n)

  pub handle_place : (h : InstanceHandle) (i : ℕ) → i ≤ n → ((j : ℕ) → j < i → handle_at t j ≢ h.0) → (i < n → handle_at t i ≡ h.0) →
      i ≡ place_of (has_handle h) xs
  handle_place h i l b a =
      sym (place_unique (has_handle h) xs blank i (omega (arith, count))
      (λ j m. ne_eqb (get_or xs j blank).handle.0 h.0 (λ e. b j m (sym (handle_read n t j (omega arith)) ∙ e)))
      (λ m. eq-eqb (get_or xs i blank).handle.0 h.0 (handle_read n t i (omega (arith, count)) ∙ a (omega (arith, count)))))

-- ---- the test of all handles

-- the first i handles are from 1 to below next and distinct, and the flag of each one's remainder is set
pub record Met (t : List ℕ) (next i : ℕ) (met : List Bool) : Type 0 where
  pub size : length met ≡ 1024
  pub low : (j : ℕ) → j < i → 1 ≤ handle_at t j
  pub high : (j : ℕ) → j < i → handle_at t j < next
  pub apart : (k : ℕ) → k < i → (j : ℕ) → j < k → handle_at t j ≢ handle_at t k
  pub flags : (j : ℕ) → j < i → get_or met (handle_at t j % 1024) false ≡ true

pub met_start : (t : List ℕ) (next : ℕ) → Met t next 0 (replicate 1024 false)
met_start t next =
    record {
      size = refl;
      low = λ j l. absurd (omega arith);
      high = λ j l. absurd (omega arith);
      apart = λ k l. absurd (omega arith);
      flags = λ j l. absurd (omega arith);
    }

module _ {t : List ℕ} {next i : ℕ} {met : List Bool} (m : Met t next i met) where
  pub met_tells : (h : ℕ) → get_or met (h % 1024) false ≡ false → all (other_handle h) (instances_in i t) ≡ true
  met_tells h z = others-all t i h (λ j l e. clash (get_or met (h % 1024) false) (rw e at (m.flags j l)) z)

  pub met_turn : (h : ℕ) → h ≡ handle_at t i → h ≢ 0 → h < next → all (other_handle h) (instances_in i t) ≡ true → Met t next (i + 1) (set met (h % 1024) true)
  met_turn h e z l o =
      record {
        size = length-set met (h % 1024) true ∙ m.size;
        low = below_more (λ (j : ℕ). 1 ≤ handle_at t j) i m.low (rw (← e) (positive h z));
        high = below_more (λ (j : ℕ). handle_at t j < next) i m.high (rw (← e) l);
        apart = below_more (λ (k : ℕ). (j : ℕ) → j < k → handle_at t j ≢ handle_at t k) i m.apart (rw (← e) (others-at t i h o));
        flags =
            below_more (λ (j : ℕ). get_or (set met (h % 1024) true) (handle_at t j % 1024) false ≡ true) i (λ j k. stays j k)
            (rw (← e) (get_or-set_same met (h % 1024) true false (omega (arith, m.size))));
      }
    where
      stays : (j : ℕ) → j < i → get_or (set met (h % 1024) true) (handle_at t j % 1024) false ≡ true
      stays j k =
          ⊎_elim (λ q. rw q (get_or-set_same met (h % 1024) true false (omega (arith, m.size))))
          (λ q. get_or-set_other met (h % 1024) (handle_at t j % 1024) true false q ∙ m.flags j k)
          (eq-or-ne (handle_at t j % 1024) (h % 1024))

-- both tests of the first n handles
abbrev pub handles_test : List ℕ → ℕ → ℕ → Bool
handles_test t next n = all (handle_below next) (instances_in n t) && handles_distinct (instances_in n t)

pub handles-ok : (t : List ℕ) (next n : ℕ) → ((j : ℕ) → j < n → 1 ≤ handle_at t j) → ((j : ℕ) → j < n → handle_at t j < next) →
    ((k : ℕ) → k < n → (j : ℕ) → j < k → handle_at t j ≢ handle_at t k) → true ≡ handles_test t next n
handles-ok t next n low high apart =
    let c : length (instances_in n t) ≡ n = length_read instance_of 512 n t in
    let a : all (handle_below next) (instances_in n t) ≡ true =
    at_all (handle_below next) (instances_in n t) blank (λ j l. below j (omega arith)) in
    let b : handles_distinct (instances_in n t) ≡ true =
    pairs_distinct blank (instances_in n t)
    (λ j k l h e. apart k (omega arith) j l (sym (handle_read n t j (omega arith)) ∙ sym e ∙ handle_read n t k (omega arith))) in
    rw (a, b)
  where
    below : (j : ℕ) → j < n → handle_below next (get_or (instances_in n t) j blank) ≡ true
    below j l =
        rw (handle_read n t j l, le-leb 1 (handle_at t j) (low j l), lt-ltb (handle_at t j) next (high j l))

pub met_end : (t : List ℕ) (next n : ℕ) (met : List Bool) → Met t next n met → true ≡ handles_test t next n
met_end t next n met m = handles-ok t next n m.low m.high m.apart

ends : (t : List ℕ) (next n : ℕ) → (handles_test t next n ≡ true → ⊥) → false ≡ handles_test t next n
ends t next n f = split (handles_test t next n) (λ h. absurd (f h)) (λ h. sym h)

module _ (t : List ℕ) (next n i : ℕ) (l : i < n) where
  -- what the tests say, where both hold
  holds : handles_test t next n ≡ true → (1 ≤ handle_at t i) × (handle_at t i < next) × ((j : ℕ) → j < i → handle_at t j ≢ handle_at t i)
  holds h =
      let c : length (instances_in n t) ≡ n = length_read instance_of 512 n t in
      let p = both (all (handle_below next) (instances_in n t)) (handles_distinct (instances_in n t)) h in
      let b = all-at (handle_below next) (instances_in n t) blank p.0 i (omega arith) in
      let q = both (leb 1 (handle_at t i)) (ltb (handle_at t i) next) (rw (handle_read n t i l) at b) in (
        leb-true 1 (handle_at t i) q.0,
        ltb-true (handle_at t i) next q.1,
        (λ j k e. distinct_ne blank (instances_in n t) p.1 j i k (omega arith) (handle_read n t i l ∙ sym e ∙ sym (handle_read n t j (omega arith)))),
      )

  pub low_end : handle_at t i ≡ 0 → false ≡ handles_test t next n
  low_end z = ends t next n (λ h. omega (arith, (holds h).0))

  pub high_end : next ≤ handle_at t i → false ≡ handles_test t next n
  high_end z = ends t next n (λ h. omega (arith, (holds h).1))

  pub used-end : all (other_handle (handle_at t i)) (instances_in i t) ≡ false → false ≡ handles_test t next n
  used-end z = ends t next n (λ h. clash (all (other_handle (handle_at t i)) (instances_in i t)) (others-all t i (handle_at t i) (holds h).2) z)

-- ---- the handles as numbers

module _ (t hs : List ℕ) (next n : ℕ) (size : length hs ≡ n) (noted : (j : ℕ) → j < length hs → get_or hs j 0 ≡ handle_at t j) where
  noted_ok : Within next hs → Apart hs → true ≡ handles_test t next n
  noted_ok w a =
      handles-ok t next n (λ j l. let m : j < length hs = omega arith in rw (noted j m) at (w j m).0)
      (λ j l. let m : j < length hs = omega arith in rw (noted j m) at (w j m).1)
      (λ k l j m e. a j k m (omega arith) (noted j (omega arith) ∙ e ∙ sym (noted k (omega arith))))

  pub noted_outside : (Within next hs → ⊥) → false ≡ handles_test t next n
  noted_outside f =
      ends t next n (λ h. f (λ j l. (rw (noted j l) (holds t next n j (omega arith) h).0, rw (noted j l) (holds t next n j (omega arith) h).1)))

  noted_twice : (Apart hs → ⊥) → false ≡ handles_test t next n
  noted_twice f =
      ends t next n (λ h. f (λ j k l m e. (holds t next n k (omega arith) h).2 j l (sym (noted j (omega arith)) ∙ e ∙ noted k m)))

  pub noted_by : (r : Bool) → Within next hs → (r ≡ true → Apart hs) → (Apart hs → r ≡ true) → r ≡ handles_test t next n
  noted_by true w y z = noted_ok w (y refl)
  noted_by false w y z = noted_twice (λ a. clash false (z a) refl)

-- ---- the used records

-- the handle of the first record that is left
first-left : (t : List ℕ) (i : ℕ) → be 8 (drop (i * 512) t) 16 ≡ handle_at t i
first-left t i = be-drop 8 (i * 512) t 16

module _ (t : List ℕ) (n i : ℕ) (l : i < n) where
  used_stop : handle_at t i ≡ 0 → used_in (n - i) (drop (i * 512) t) ≡ 0
  unfolding used_in
  used_stop z =
      let e : n - i ≡ suc (n - (i + 1)) = omega arith in
      rw (e, first-left t i, eq-eqb (handle_at t i) 0 z)

  used_on : handle_at t i ≢ 0 → used_in (n - i) (drop (i * 512) t) ≡ suc (used_in (n - (i + 1)) (drop ((i + 1) * 512) t))
  unfolding used_in
  used_on z =
      let e : n - i ≡ suc (n - (i + 1)) = omega arith in
      let d : i * 512 + 512 ≡ (i + 1) * 512 = omega arith in
      rw (e, first-left t i, ne_eqb (handle_at t i) 0 z, drop-drop 512 (i * 512) t, d)

used_all : (t : List ℕ) (n i : ℕ) → n ≤ i → used_in (n - i) (drop (i * 512) t) ≡ 0
unfolding used_in
used_all t n i h = let e : n - i ≡ 0 = omega arith in rw e

-- by the place of the first whose handle is 0, n where there is none
pub used_by : (t : List ℕ) (n i : ℕ) → i ≤ n → ((j : ℕ) → j < i → handle_at t j ≢ 0) → (i < n → handle_at t i ≡ 0) → i ≡ used_in n t
used_by t n i l b a =
    let z : used_in (n - i) (drop (i * 512) t) ≡ 0 = ⊎_elim (λ m. used_stop t n i m (a m)) (λ m. used_all t n i m) (lt-or-le i n) in
    omega (arith, passed i (omega arith))
  where
    passed : (k : ℕ) → k ≤ i → k + used_in (n - k) (drop (k * 512) t) ≡ used_in n t
    passed zero m = rw (zero-add (used_in (n - 0) (drop (0 * 512) t)), sub-zero n)
    passed (suc k) m =
        let e = rw add-one at (used_on t n k (omega arith) (b k (omega arith))) in
        omega (arith, passed k (omega arith), e)
