-- What the passes rely on of a table, record by record.
--     table_editable                  a well-formed table can be edited
--     formed-part, edited_part, edited_as, unedited
--                                     a record lent and given back changed; one that stayed
--     record_formed                   record i of it, while those from i on are as they were
use Prim.Native.Nat.{ℕ, zero, suc, ◌+◌, ◌-◌, ◌*◌, ◌≤◌, ◌<◌}
use mathlib.Core.Bool.{true}
use mathlib.Core.List.{List, [], ◌∷◌, ◌++◌}
use mathlib.Core.Path.{◌≡◌, refl, sym, ap, ◌∙◌}
use native.Mathlib.Nat.{mul-le-mul_right}
use native.Mathlib.Omega.{arith}
use borrow.Author.Tests.{ltb-true}
use borrow.Rule.Slice.PartMut.{put_mid}
use lib.Dec.{ltb}
use lib.ListN.{length, get_or, take, drop, length-drop}
use lib.Seq.{drop_at, drop-drop, length-take-le, take_at}
use Rattle.octets.specs.Lay.{All}
use Rattle.octets.specs.Patch.{patch}
use Rattle.octets.proofs.Laws.{be-part}
use Rattle.octets.proofs.LayLaws.{all-get}
use Rattle.model.specs.declared.Instance.{Instance}
use Rattle.model.specs.declared.InstanceState.{InstanceState}
use Rattle.model.specs.Guids.{num, guid_of}
use Rattle.model.specs.InstanceRecord.{flags_at, instance_of, instance_bytes}
use Rattle.model.specs.Instances.{writers_in}
use Rattle.model.specs.Layout.{read_rows}
use Rattle.model.specs.State.{instances_in}
use Rattle.model.specs.Tables.{all, rising}
use Rattle.model.specs.WellFormed.{instance_ok, kinds_ok}
use Rattle.model.proofs.RowLaws.{length_read, get_read}
use Rattle.model.proofs.Tests.{both}
use Rattle.model.proofs.Valid.{valid_parts}
use Rattle.writer_set.specs.Places.{Sound}
use Rattle.writer_set.proofs.SetLaws.{members_rise}
use Rattle.instance_decoding.specs.Parts.{record_at}
use Rattle.instance_decoding.proofs.Rows.{lent-part, put_back}
use Rattle.instance_fields.proofs.UsableLaws.{usable}
use Rattle.instance_edits.specs.Edits.{changed, Formed}
use Rattle.instance_table.specs.TableCalls.{TableFormed}
use Rattle.instance_table.proofs.LaidOut.{table-formed}
use Rattle.instance_pass.specs.Passes.{UsableIn, RisesIn, Editable, EditedAt}
use Rattle.instance_pass.proofs.PassLaws.{stood}

-- ---- a well-formed table

usable-all : (n : ℕ) (t : List ℕ) → all instance_ok (instances_in n t) ≡ true → All UsableIn (instances_in n t)
unfolding read_rows all instance_of
usable-all zero t e = tt
usable-all (suc n) t e =
    let p = both (instance_ok (instance_of (take 512 t))) (all instance_ok (instances_in n (drop 512 t))) e in
    (usable (instance_of (take 512 t)).state (length_read guid_of 16 16 (drop 256 (take 512 t))) p.0, usable-all n (drop 512 t) p.1)

rises-all : (xs : List Instance) → all instance_ok xs ≡ true → All RisesIn xs
unfolding all
rises-all [] e = tt
rises-all (x ∷ xs) e =
    let p = both (instance_ok x) (all instance_ok xs) e in
    (members_rise x.state.writers (valid_parts x.state p.0).writers, rises-all xs p.1)

pub table_editable : (places count next : ℕ) (t : List ℕ) → TableFormed places count next t → Editable count t
table_editable places count next t d =
    let f = table-formed places count next t d.formed in
    record {
      few = omega (arith, f.few, d.few);
      room = omega (arith, mul-le-mul_right 512 f.few, d.size);
      kinds = f.kinds;
      usable = usable-all count t f.valid;
      rises = rises-all (instances_in count t) f.valid;
    }

-- ---- record i, lent and given back

record_patched : (t r : List ℕ) (i : ℕ) → i * 512 + 512 ≤ length t → length r ≡ 512 → record_at (patch t (i * 512) 512 r) i ≡ r
record_patched t r i h n =
    let z : List ℕ = drop (i * 512 + 512) t in
    ap (take 512) (drop_at (take (i * 512) t) (r ++ z) (i * 512) (omega (arith, length-take-le (i * 512) t (omega arith)))) ∙ take_at r z 512 (omega (arith, n))

pub formed-part : (t : List ℕ) (i : ℕ) → Formed (record_at t i) → Formed (take (i * 512 + 512 - i * 512) (drop (i * 512) t))
formed-part t i f = rw (lent-part (i * 512) 512 t) f

-- f made the bytes r of it
pub edited_part : (f : InstanceState → InstanceState) (t t' r : List ℕ) (i : ℕ) → i * 512 + 512 ≤ length t → length r ≡ 512 →
    t' ≡ put_mid (i * 512) (i * 512 + 512 - i * 512) t r → (record_at t i ≡ instance_bytes (instance_of (record_at t i)) → r ≡ instance_bytes (changed f (instance_of (record_at t i)))) →
    EditedAt f i t t'
edited_part f t t' r i h n e b =
    let v : t' ≡ patch t (i * 512) 512 r = e ∙ put_back (i * 512) 512 t r in
    let w : record_at t' i ≡ r = ap (λ (z : List ℕ). record_at z i) v ∙ record_patched t r i h n in
    record { table = v ∙ ap (λ (z : List ℕ). patch t (i * 512) 512 z) (sym w); bytes = λ q. w ∙ b q }

-- another change that makes the same of it
pub edited_as : (f g : InstanceState → InstanceState) (t t' : List ℕ) (i : ℕ) → f (instance_of (record_at t i)).state ≡ g (instance_of (record_at t i)).state →
    EditedAt f i t t' → EditedAt g i t t'
edited_as f g t t' i e w =
    let x : Instance = instance_of (record_at t i) in
    record { table = w.table; bytes = λ q. w.bytes q ∙ ap (λ (y : InstanceState). instance_bytes record { key = x.key; handle = x.handle; state = y }) e }

-- it stayed as it was
pub unedited : (t : List ℕ) (i : ℕ) → EditedAt (λ (x : InstanceState). x) i t t
unedited t i = record { table = stood t t i i refl refl; bytes = λ q. q }

-- ---- record i of a table that can be edited

kind_at : (n : ℕ) (t : List ℕ) (i : ℕ) → i < n → kinds_ok n t ≡ true → flags_at (record_at t i) < 49152
unfolding kinds_ok
kind_at zero t i h k = absurd (omega arith)
kind_at (suc n) t zero h k =
    rw (be-part 2 512 0 t 24 (omega arith)) (ltb-true (flags_at t) 49152 (both (ltb (flags_at t) 49152) (kinds_ok n (drop 512 t)) k).0)
kind_at (suc n) t (suc i) h k =
    let q : 512 + i * 512 ≡ suc i * 512 = omega arith in
    let e : drop (i * 512) (drop 512 t) ≡ drop (suc i * 512) t = drop-drop (i * 512) 512 t ∙ ap (λ (m : ℕ). drop m t) q in
    rw e at (kind_at n (drop 512 t) i (omega arith) (both (ltb (flags_at t) 49152) (kinds_ok n (drop 512 t)) k).1)

module _ (count : ℕ) (t₀ : List ℕ) (d : Editable count t₀) (i : ℕ) (t : List ℕ) (h : i < count) (long : length t ≡ length t₀)
    (ahead : drop (i * 512) t ≡ drop (i * 512) t₀) where
  as_it_was : record_at t i ≡ record_at t₀ i
  as_it_was = ap (take 512) ahead

  instance_read : instance_of (record_at t i) ≡ get_or (instances_in count t₀) i (instance_of (record_at t i))
  instance_read = ap instance_of as_it_was ∙ sym (get_read instance_of 512 count t₀ i (instance_of (record_at t i)) h)

  inside : i < length (instances_in count t₀)
  inside = omega (arith, length_read instance_of 512 count t₀)

  record_room : i * 512 + 512 ≤ length t
  record_room = omega (arith, mul-le-mul_right 512 h, d.room, long)

  record_size : length (record_at t i) ≡ 512
  record_size = length-take-le 512 (drop (i * 512) t) (omega (arith, length-drop (i * 512) t, record_room))

  record_kind : flags_at (record_at t i) < 49152
  record_kind = rw as_it_was (kind_at count t₀ i h d.kinds)

  record_sound : Sound (instance_of (record_at t i)).state.writers
  record_sound = rw instance_read (all-get UsableIn (instances_in count t₀) i (instance_of (record_at t i)) inside d.usable).writers

  record_rises : rising num (writers_in (instance_of (record_at t i)).state) ≡ true
  record_rises = rw instance_read (all-get RisesIn (instances_in count t₀) i (instance_of (record_at t i)) inside d.rises)

  pub record_formed : Formed (record_at t i)
  record_formed = record { size = record_size; kind = record_kind; sound = record_sound; rises = record_rises }
