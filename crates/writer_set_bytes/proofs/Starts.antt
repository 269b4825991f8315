-- Where a walk over a list starts.
--     one-listed         a list of one GUID
--     keys_rise_lem          the list's GUIDs rise as keys
--     start_few, start_after       from the place of the set's first GUID on
use Prim.Native.Nat.{ℕ, zero, suc, ◌*◌, ◌/◌, ◌≤◌, ◌<◌}
use mathlib.Core.Bool.{true}
use mathlib.Core.List.{List, [], ◌∷◌}
use mathlib.Core.Path.{◌≡◌, refl, sym, ap, ◌∙◌}
use native.Mathlib.Omega.{arith}
use lib.ListN.{length, get_or, take, drop}
use Rattle.model.specs.declared.Guid.{Guid}
use Rattle.model.specs.Guids.{num, nil, guid_of, guid_at, guids_in}
use Rattle.model.specs.Layout.{read_rows}
use Rattle.model.specs.Tables.{rising}
use Rattle.model.proofs.GuidLaws.{guid-part}
use Rattle.model.proofs.RowLaws.{get_read}
use Rattle.tables.specs.Found.{lower_bound}
use Rattle.tables.specs.Keys.{keys, rising as keys_rise}
use Rattle.tables.proofs.FoundLaws.{lower_le, lower_before}
use Rattle.tables.proofs.KeyLaws.{length-keys, get_or-keys}
use Rattle.tables.proofs.RecordLaws.{keys_read, rising-records}
use Rattle.writer_set_bytes.specs.Others.{others}
use Rattle.writer_set_bytes.specs.Lists.{gones_in, Listed}
use Rattle.writer_set_bytes.specs.Walks.{Filled}
use Rattle.writer_set_bytes.proofs.SideBySide.{Below, From, from_first, others-after}
use Rattle.writer_set_bytes.proofs.WalkLaws.{guids_drop}

pub one-listed : (gone : List ℕ) → length gone / 16 ≡ 1 → gones_in gone ≡ guid_at gone 0 ∷ []
unfolding read_rows
one-listed gone e = rw (e) (ap (λ (g : Guid). g ∷ []) (guid-part 16 0 gone (omega arith)))

pub keys_rise_lem : (gone : List ℕ) → Listed gone → keys_rise (keys 16 (length gone / 16) gone) ≡ true
keys_rise_lem gone l =
    ap keys_rise (keys_read guid_of 16 num (λ r. refl) (omega arith) (length gone / 16) gone) ∙ rising-records num (gones_in gone) ∙ l.rises

below-take : (n j : ℕ) (gs : List Guid) → ((i : ℕ) → i < j → i < length gs → num (get_or gs i nil) < n) → Below n (take j gs)
below-take n zero gs b = tt
below-take n (suc j) [] b = tt
below-take n (suc j) (g ∷ gs) b = (b zero (omega arith) (omega arith), below-take n j gs (λ i l m. b (suc i) (omega arith) (omega arith)))

module _ (gone set : List ℕ) (n : ℕ) (first : Guid) (j : ℕ) (at : first ≡ guid_at set 0) (e : j ≡ lower_bound (keys 16 (length gone / 16) gone) (num first)) where
  abbrev m : ℕ
  m = length gone / 16

  pub start_few : j ≤ m
  start_few = omega (arith, e, lower_le (keys 16 m gone) (num first), length-keys 16 m gone)

  before : (i : ℕ) → i < j → i < length (gones_in gone) → num (get_or (gones_in gone) i nil) < num first
  before i l h =
      let k : i < m = omega (arith, start_few) in
      let q : num (get_or (gones_in gone) i nil) ≡ get_or (keys 16 m gone) i 0 =
      ap num (get_read guid_of 16 m gone i nil k ∙ guid-part 16 (i * 16) gone (omega arith)) ∙ sym (get_or-keys 16 m gone i k) in
      rw q (lower_before (keys 16 m gone) (num first) i (omega (arith, e)))

  from_list : (s gs : List Guid) → s ≡ first ∷ gs → rising num s ≡ true → From (num first) s
  from_list s gs q r = rw q (from_first first gs (rw q at r))

  from-set : (k : ℕ) → rising num (guids_in k set) ≡ true → From (num first) (guids_in k set)
  unfolding read_rows
  from-set zero r = tt
  from-set (suc k) r =
      from_list (guids_in (suc k) set) (drop 1 (guids_in (suc k) set))
      (guids_drop (suc k) 0 set (omega arith) ∙ ap (λ (g : Guid). g ∷ drop 1 (guids_in (suc k) set)) (sym at)) r

  pub start_after : Filled n set → others (drop j (gones_in gone)) (guids_in n set) ≡ others (gones_in gone) (guids_in n set)
  start_after f = others-after (num first) j (gones_in gone) (guids_in n set) (below-take (num first) j (gones_in gone) before) (from-set n f.rises)
