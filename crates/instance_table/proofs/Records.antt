-- The test of the first records, and the whole test of a table.
--     record_test, records_test            of one record's bytes, and of the first n records
--     record_read                          of one record that is read
--     records-first, records_none        the first record apart; of no record
--     table_by                           the whole test, from its parts in the order of the code
use Rattle.std.proofs.Common.{◌≡◌, ℕ, zero, suc, ◌+◌, ◌-◌, ◌*◌, Bool, true, false, ◌&&◌, ltb, leb, List, take, drop, sym, refl, ap, ◌∙◌, arith}
use Rattle.octets.specs.Zeros.{all_zero}
use Rattle.octets.proofs.Laws.{be-part}
use Rattle.model.specs.InstanceRecord.{flags_at, instance_of}
use Rattle.model.specs.Layout.{read_rows}
use Rattle.model.specs.State.{instance_key, instances_in}
use Rattle.model.specs.Tables.{all, rising}
use Rattle.model.specs.WellFormed.{instance_ok, kinds_ok, instances_ok, instance_table_ok, handle_below, handles_distinct}
use Rattle.instance_decoding.proofs.Rows.{lent-part}
use Rattle.tables.proofs.RecordTests.{swap}

-- kind is no 3, and the instance is as section 2 asks
abbrev pub record_test : List ℕ → Bool
record_test r = ltb (flags_at r) 49152 && instance_ok (instance_of r)

-- of record k of a table, in the words of tables' laws
pub record_read : (t : List ℕ) (k : ℕ) {b : Bool} (r : List ℕ) → r ≡ take 512 (drop (k * 512) t) → b ≡ record_test r →
    b ≡ record_test (take (k * 512 + 512 - k * 512) (drop (k * 512) t))
record_read t k r e f = f ∙ ap record_test (e ∙ sym (lent-part (k * 512) 512 t))

abbrev pub records_test : ℕ → List ℕ → Bool
records_test n t = kinds_ok n t && all instance_ok (instances_in n t)

pub records-first : (n : ℕ) (t : List ℕ) → records_test (suc n) t ≡ (record_test (take 512 t) && records_test n (drop 512 t))
unfolding kinds_ok all read_rows
records-first n t =
    let e : flags_at (take 512 t) ≡ flags_at t = be-part 2 512 0 t 24 (omega arith) in
    rw e (swap (ltb (flags_at t) 49152) (kinds_ok n (drop 512 t)) (instance_ok (instance_of (take 512 t))) (all instance_ok (instances_in n (drop 512 t))))

pub records_none : (t : List ℕ) → records_test zero t ≡ true
unfolding kinds_ok all read_rows
records_none t = refl

-- ---- the table

regroup : (a b k r i h d : Bool) → (a && (b && (k && (r && (i && (h && d)))))) ≡ (a && (b && ((k && i) && (r && (h && d)))))
regroup true true true true i h d = refl
regroup true true true false true h d = refl
regroup true true true false false h d = refl
regroup true true false r i h d = refl
regroup true false k r i h d = refl
regroup false b k r i h d = refl

table_regrouped : (places count next : ℕ) (t : List ℕ) →
    instance_table_ok places count next t
    ≡ (leb count places && (all_zero (drop (count * 512) t) && (records_test count t && (rising instance_key (instances_in count t)
    && (all (handle_below next) (instances_in count t) && handles_distinct (instances_in count t))))))
unfolding instance_table_ok instances_ok
table_regrouped places count next t =
    regroup (leb count places) (all_zero (drop (count * 512) t)) (kinds_ok count t) (rising instance_key (instances_in count t))
    (all instance_ok (instances_in count t)) (all (handle_below next) (instances_in count t)) (handles_distinct (instances_in count t))

-- the whole test, from its parts
pub table_by : (places count next : ℕ) (t : List ℕ) {a b k r h : Bool} → leb count places ≡ a → all_zero (drop (count * 512) t) ≡ b → records_test count t ≡ k →
    rising instance_key (instances_in count t) ≡ r → (all (handle_below next) (instances_in count t) && handles_distinct (instances_in count t)) ≡ h →
    (a && (b && (k && (r && h)))) ≡ instance_table_ok places count next t
table_by places count next t p q s u v = sym (table_regrouped places count next t ∙ rw (p, q, s, u, v))
