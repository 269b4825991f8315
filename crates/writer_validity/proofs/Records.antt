-- The test of the first records of the writer table, and the whole test of the table.
--     record_test, records_test            of one record's bytes, and of the first n records
--     records-first, records_none        the first record apart; of no record
--     rise_read                          the keys in the bytes rise where the writers' do
--     table_by                           the whole test, from its parts in the order of the code
use Prim.Native.Nat.{ℕ, zero, suc, ◌*◌}
use mathlib.Core.Bool.{Bool, true, false, ◌&&◌}
use mathlib.Core.List.{List}
use mathlib.Core.Path.{◌≡◌, refl, sym, ap, ◌∙◌}
use native.Mathlib.Omega.{arith}
use lib.Dec.{leb}
use lib.ListN.{take, drop}
use Rattle.octets.proofs.Laws.{be-part}
use Rattle.octets.specs.Octets.{be}
use Rattle.octets.specs.Zeros.{all_zero}
use Rattle.model.specs.Layout.{read_rows}
use Rattle.model.specs.State.{writer_key, writers_in}
use Rattle.model.specs.Tables.{all, rising}
use Rattle.model.specs.WellFormed.{writer_ok, spares_ok, writers_ok, writer_table_ok}
use Rattle.model.specs.WriterRecord.{writer_of, writer_flags_at}
use Rattle.tables.specs.Keys.{keys, rising as rise}
use Rattle.tables.proofs.RecordLaws.{keys_read, rising-records}
use Rattle.tables.proofs.RecordTests.{swap}
use Rattle.writer_record.specs.Records.{spares_in}
use Rattle.writer_validity.specs.Agreed.{records_test}

-- what is asked of one record by itself
abbrev pub record_test : List ℕ → Bool
record_test r = spares_in r && writer_ok (writer_of r)

-- the spare bits and bytes of a table's first record are those of the table's front
spares_part : (t : List ℕ) → spares_in (take 40 t) ≡ spares_in t
spares_part t =
    let f : writer_flags_at (take 40 t) ≡ writer_flags_at t = be-part 1 40 0 t 16 (omega arith) in
    let z : be 7 (take 40 t) 17 ≡ be 7 t 17 = be-part 7 40 0 t 17 (omega arith) in
    rw (f, z)

pub records-first : (n : ℕ) (t : List ℕ) → records_test (suc n) t ≡ (record_test (take 40 t) && records_test n (drop 40 t))
unfolding spares_ok all read_rows
records-first n t =
    swap (spares_in t) (spares_ok n (drop 40 t)) (writer_ok (writer_of (take 40 t))) (all writer_ok (writers_in n (drop 40 t)))
    ∙ ap (λ (b : Bool). (b && writer_ok (writer_of (take 40 t))) && records_test n (drop 40 t)) (sym (spares_part t))

pub records_none : (t : List ℕ) → records_test zero t ≡ true
unfolding spares_ok all read_rows
records_none t = refl

-- ---- the table

pub rise_read : (n : ℕ) (t : List ℕ) → rise (keys 40 n t) ≡ rising writer_key (writers_in n t)
unfolding writer_of
rise_read n t =
    ap rise (keys_read writer_of 40 writer_key (λ r. refl) (omega arith) n t) ∙ rising-records writer_key (writers_in n t)

regroup : (a b s r w : Bool) → (a && (b && (s && (r && w)))) ≡ (a && (b && ((s && w) && r)))
regroup true true true true true = refl
regroup true true true true false = refl
regroup true true true false true = refl
regroup true true true false false = refl
regroup true true false r w = refl
regroup true false s r w = refl
regroup false b s r w = refl

pub table_by : (count : ℕ) (t : List ℕ) {a b k r : Bool} → leb count 128 ≡ a → all_zero (drop (count * 40) t) ≡ b → records_test count t ≡ k →
    rising writer_key (writers_in count t) ≡ r → (a && (b && (k && r))) ≡ writer_table_ok count t
unfolding writer_table_ok writers_ok
table_by count t p q s u =
    sym
    (regroup (leb count 128) (all_zero (drop (count * 40) t)) (spares_ok count t) (rising writer_key (writers_in count t)) (all writer_ok (writers_in count t))
    ∙ rw (p, q, s, u))
