-- The pass over the records, over plain variables.
--     left                              the writers from record i on
--     During                            the pass at record i: its laws are start, stop_key, stop_record, turn and end
--     table_agrees                      the whole test of the table and of both counts, from its parts in the order of the code
use Prim.Native.Nat.{ℕ, zero, suc, ◌+◌, ◌-◌, ◌*◌, ◌≤◌, ◌<◌}
use mathlib.Core.Bool.{Bool, true, false, ◌&&◌, ◌||◌, cond, and-false}
use mathlib.Core.Path.{◌≡◌, refl, sym, ap, ap₂, ◌∙◌}
use mathlib.Core.List.{List, ◌∷◌}
use native.Mathlib.Nat.{sub-zero, zero-add}
use native.Mathlib.Omega.{arith}
use lib.Dec.{eqb, leb, eqb-suc-zero}
use lib.ListN.{length, take, drop}
use Rattle.octets.specs.Zeros.{all_zero}
use Rattle.model.specs.declared.Guid.{Guid}
use Rattle.model.specs.declared.Head.{Head}
use Rattle.model.specs.declared.Writer.{Writer}
use Rattle.model.specs.Guids.{less, guid_at}
use Rattle.model.specs.Layout.{read_rows}
use Rattle.model.specs.State.{writer_key, writers_in, counts_alive, counts_not_alive, alive_count, not_alive_count}
use Rattle.model.specs.Tables.{pick, rising}
use Rattle.model.specs.WellFormed.{writer_table_ok, counts_ok}
use Rattle.model.specs.WriterRecord.{writer_of}
use Rattle.model.proofs.RowLaws.{read_cons}
use Rattle.tables.specs.Keys.{keys, leads, rising as rise}
use Rattle.tables.proofs.RecordTests.{tests_from, tests_start, tests_stop, tests_turn, tests_end}
use Rattle.tables.proofs.Search.{Rises, rise_turn, rise_stop}
use Rattle.writer_validity.specs.Agreed.{records_test, records_agree}
use Rattle.writer_validity.proofs.Records.{record_test, records-first, records_none, rise_read, table_by}

-- the writers from record i on
abbrev pub left : ℕ → List ℕ → ℕ → List Writer
left count t i = writers_in (count - i) (drop (i * 40) t)

-- the pass at record i: last is the key before it, a and d count the classes of the records before it
pub record During (count : ℕ) (t : List ℕ) (last : Guid) (a d i : ℕ) : Type 0 where
  pub below : i ≤ count
  pub few-a : a ≤ i
  pub few_d : d ≤ i
  pub tests : tests_from 40 record_test records_test i count t ≡ records_test count t
  pub before : 0 < i → last ≡ guid_at t ((i - 1) * 40)
  pub rises : rise (keys 40 i t) ≡ true
  pub alive : a + alive_count (left count t i) ≡ alive_count (writers_in count t)
  pub not-alive : d + not_alive_count (left count t i) ≡ not_alive_count (writers_in count t)

-- one writer more is counted or not
picked : (p : Writer → Bool) (w : Writer) (ws : List Writer) (n m : ℕ) (b : Bool) → b ≡ p w → n + length (pick p (w ∷ ws)) ≡ m → cond b (n + 1) n + length (pick p ws) ≡ m
unfolding pick
picked p w ws n m true e h = let f : n + suc (length (pick p ws)) ≡ m = rw (← e) at h in omega arith
picked p w ws n m false e h = rw (← e) at h

within : (b : Bool) (n i : ℕ) → n ≤ i → cond b (n + 1) n ≤ i + 1
within true n i h = omega arith
within false n i h = omega arith

module _ (count : ℕ) (t : List ℕ) where
  pub start : (last : Guid) → During count t last 0 0 0
  unfolding keys rise
  start last =
      record {
        below = omega arith;
        few-a = omega arith;
        few_d = omega arith;
        tests = tests_start 40 record_test records_test count t;
        before = λ h. absurd (omega arith);
        rises = refl;
        alive = rw (sub-zero count) (zero-add (alive_count (writers_in count t)));
        not-alive = rw (sub-zero count) (zero-add (not_alive_count (writers_in count t)));
      }

  module _ (last : Guid) (a d i : ℕ) (s : During count t last a d i) where
    module _ (h : i < count) where
      -- the test of the keys of two neighbours
      key_test : (g : Guid) → g ≡ guid_at t (i * 40) → 0 < i → Rises 40 t i ≡ less last g
      key_test g e l = sym (ap₂ less (s.before l) e)

      -- the first record has none before it
      behind-first : (b : Bool) → (eqb i 0 || b) ≡ false → (0 < i) × (b ≡ false)
      behind-first b q = each i refl
        where
          each : (n : ℕ) → i ≡ n → (0 < i) × (b ≡ false)
          each zero e = let z : ◌≡◌ {A = ℕ} 0 1 = cc (rw e at q) in absurd (omega arith)
          each (suc n) e = (omega arith, rw (e, eqb-suc-zero n) at q)

      pub stop_key : (g : Guid) (b : Bool) (alive not_alive : ℕ) → g ≡ guid_at t (i * 40) → b ≡ (eqb i 0 || less last g) → b ≡ false → false ≡ records_agree count t alive not_alive
      unfolding records_agree
      stop_key g b alive not_alive e p q =
          let f = behind-first (less last g) (sym p ∙ q) in
          let n : rising writer_key (writers_in count t) ≡ false =
          sym (rise_stop 40 count t i f.0 h (key_test g e f.0 ∙ f.1) ∙ rise_read count t) in
          sym (rw n (and-false (records_test count t)))

      -- the record is lent from its place on
      lent : (b : Bool) → b ≡ record_test (take 40 (drop (i * 40) t)) → b ≡ record_test (take (i * 40 + 40 - i * 40) (drop (i * 40) t))
      lent b e = let w : i * 40 + 40 - i * 40 ≡ 40 = omega arith in rw w e

      pub stop_record : (b : Bool) (alive not_alive : ℕ) → b ≡ record_test (take 40 (drop (i * 40) t)) → b ≡ false → false ≡ records_agree count t alive not_alive
      unfolding records_agree
      stop_record b alive not_alive e q =
          rw (← tests_stop 40 record_test records_test records-first i count t b h (lent b e) s.tests q)

      rise_more : (g : Guid) (b : Bool) → g ≡ guid_at t (i * 40) → b ≡ (eqb i 0 || less last g) → b ≡ true → rise (keys 40 (i + 1) t) ≡ true
      unfolding keys rise leads
      rise_more g b e p q = each i refl
        where
          each : (n : ℕ) → i ≡ n → rise (keys 40 (i + 1) t) ≡ true
          each zero z = rw z
          each (suc n) z =
              let l : 0 < i = omega arith in
              let v : less last g ≡ true = rw (z, eqb-suc-zero n) at (sym p ∙ q) in
              rise_turn 40 t i l s.rises (key_test g e l ∙ v)

      pub turn : (g : Guid) (k b x y : Bool) (w : Writer) → w ≡ writer_of (take 40 (drop (i * 40) t)) → g ≡ guid_at t (i * 40) →
          k ≡ (eqb i 0 || less last g) → k ≡ true → b ≡ record_test (take 40 (drop (i * 40) t)) → b ≡ true →
          x ≡ counts_alive w → y ≡ counts_not_alive w → During count t g (cond x (a + 1) a) (cond y (d + 1) d) (i + 1)
      unfolding alive_count not_alive_count
      turn g k b x y w r e p q u v m n =
          let c : left count t i ≡ w ∷ left count t (i + 1) = read_cons writer_of 40 count i t h ∙ rw (← r) in
          let z : i + 1 - 1 ≡ i = omega arith in
          record {
            below = omega arith;
            few-a = within x a i s.few-a;
            few_d = within y d i s.few_d;
            tests = tests_turn 40 record_test records_test records-first i count t b h (lent b u) s.tests v;
            before = λ l. rw z e;
            rises = rise_more g k e p q;
            alive = picked counts_alive w (left count t (i + 1)) a _ x m (rw c at s.alive);
            not-alive = picked counts_not_alive w (left count t (i + 1)) d _ y n (rw c at s.not-alive);
          }

    pub end : (alive not_alive : ℕ) → count ≤ i → (eqb alive a && eqb not_alive d) ≡ records_agree count t alive not_alive
    unfolding records_agree alive_count not_alive_count pick read_rows
    end alive not_alive l =
        let e : count - i ≡ 0 = omega arith in
        let f : i ≡ count = omega (arith, s.below) in
        let all-ok : records_test count t ≡ true = sym s.tests ∙ tests_end 40 record_test records_test records_none i count t l in
        let rising-ok : rising writer_key (writers_in count t) ≡ true = sym (rise_read count t) ∙ (rw f at s.rises) in
        let x : a + 0 ≡ alive_count (writers_in count t) = rw e at s.alive in
        let y : d + 0 ≡ not_alive_count (writers_in count t) = rw e at s.not-alive in
        let u : alive_count (writers_in count t) ≡ a = omega (arith, x) in
        let v : not_alive_count (writers_in count t) ≡ d = omega (arith, y) in
        sym (rw (all-ok, rising-ok, u, v))

-- ---- the whole

pub table_agrees : (h : Head) (count : ℕ) (t : List ℕ) {a b k : Bool} → leb count 128 ≡ a → all_zero (drop (count * 40) t) ≡ b →
    records_agree count t h.alive h.not_alive ≡ k → (a && (b && k)) ≡ (writer_table_ok count t && counts_ok h (writers_in count t))
unfolding records_agree counts_ok
table_agrees h count t p q s =
    let a : Bool = leb count 128 in
    let b : Bool = all_zero (drop (count * 40) t) in
    let k : Bool = records_test count t in
    let r : Bool = rising writer_key (writers_in count t) in
    let n : Bool = counts_ok h (writers_in count t) in
    rw (← p, ← q, ← s) (regroup a b k r n ∙ ap (λ (z : Bool). z && n) (table_by count t refl refl refl refl))
  where
    regroup : (a b k r n : Bool) → (a && (b && (k && (r && n)))) ≡ ((a && (b && (k && r))) && n)
    regroup true true true r n = refl
    regroup true true false r n = refl
    regroup true false k r n = refl
    regroup false b k r n = refl
