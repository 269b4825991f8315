-- A table as the layout of its instances.
--     wide_read, wides_read, fits_read      what is read from bytes takes a place, and fits
--     Formed, table-formed, lone_formed     a well-formed table as plain facts, also where it is lent alone
--     table-laid                            it is the layout of what is read from it
--     length-laid                           its length; a place is within it
--     laid-set, laid-insert, laid-take      an instance replaced, one put in, the last ones cleared
--     truncated, replaced, inserted         the same, from what the calls leave
--     patch_width                           what was written over a part without a change of length is as long as it
use Rattle.std.proofs.Common.{◌≡◌, ℕ, zero, suc, ◌+◌, ◌-◌, ◌*◌, ◌<◌, ◌≤◌, true, ltb, List, ◌∷◌, ◌++◌, length, take, drop, set, replicate, sym, ap, ◌∙◌, mul-le-mul_right, arith, length-append, length-drop, length-set, take-append-drop, length-take, length-take-le, ltb-true, leb-true}
use Rattle.octets.specs.Bounds.{Bytes}
use Rattle.octets.specs.Lay.{All}
use Rattle.octets.proofs.LayLaws.{all_append, all_take, all_drop, all_set, length-lay, lay-set, lay_clear}
use Rattle.octets.specs.Patch.{patch, fields}
use Rattle.octets.proofs.PatchLaws.{length_fields}
use Rattle.octets.specs.Zeros.{all_zero}
use Rattle.model.specs.declared.Instance.{Instance}
use Rattle.model.specs.Guids.{guid_of, guids_bytes}
use Rattle.model.specs.InstanceRecord.{flags_at, instance_of, instance_bytes, instance_widths, instance_values}
use Rattle.model.specs.Layout.{read_rows}
use Rattle.model.specs.Reads.{used_in, table_ok}
use Rattle.model.specs.State.{instance_key, instances_in}
use Rattle.model.specs.Tables.{all, rising}
use Rattle.model.specs.WellFormed.{instance_ok, kinds_ok, instances_ok, instance_table_ok, handle_below, handles_distinct}
use Rattle.model.proofs.Fits.{FitsInstance}
use Rattle.model.proofs.GuidLaws.{bytes_take, bytes_drop, length_guids}
use Rattle.model.proofs.InstanceLaws.{instance_forth, instance_fits}
use Rattle.model.proofs.Tests.{both}
use Rattle.model.proofs.RowLaws.{length_read, Forth, lay_read as laid_again}
use Rattle.tables.specs.Gaps.{opened}
use Rattle.tables.proofs.GapLaws.{opened-lay}
use Rattle.instance_table.specs.Laid.{Wide, Laid}
use Rattle.octets.proofs.Laws.{be-part}

-- ---- what is read takes a place, and fits

pub wide_of : (x : Instance) → length x.state.holder.bytes ≡ 144 → length x.state.writers.items ≡ 16 → Wide x
unfolding instance_bytes
wide_of x h w =
    omega (
      arith,
      length-append (fields instance_widths (instance_values x)) (x.state.holder.bytes ++ guids_bytes x.state.writers.items),
      length_fields instance_widths (instance_values x) tt,
      length-append x.state.holder.bytes (guids_bytes x.state.writers.items),
      length_guids x.state.writers.items,
    )

pub wide_read : (r : List ℕ) → length r ≡ 512 → Wide (instance_of r)
unfolding instance_of
wide_read r e =
    wide_of (instance_of r) (omega (arith, length-take 144 (drop 112 r), length-drop 112 r)) (length_read guid_of 16 16 (drop 256 r))

pub wides_read : (n : ℕ) (t : List ℕ) → n * 512 ≤ length t → All Wide (instances_in n t)
unfolding read_rows
wides_read zero t h = tt
wides_read (suc n) t h = (
  wide_read (take 512 t) (length-take-le 512 t (omega arith)),
  wides_read n (drop 512 t) (omega (arith, length-drop 512 t)),
)

pub fits_read : (n : ℕ) (t : List ℕ) → Bytes t → n * 512 ≤ length t → All FitsInstance (instances_in n t)
unfolding read_rows
fits_read zero t b h = tt
fits_read (suc n) t b h = (
  instance_fits (take 512 t) (bytes_take 512 t b) (length-take-le 512 t (omega arith)),
  fits_read n (drop 512 t) (bytes_drop 512 t b) (omega (arith, length-drop 512 t)),
)

-- ---- a well-formed table

pub record Formed (places count next : ℕ) (t : List ℕ) : Type 0 where
  pub few : count ≤ places
  pub rest : all_zero (drop (count * 512) t) ≡ true
  pub kinds : kinds_ok count t ≡ true
  pub rises : rising instance_key (instances_in count t) ≡ true
  pub valid : all instance_ok (instances_in count t) ≡ true
  pub below : all (handle_below next) (instances_in count t) ≡ true
  pub distinct : handles_distinct (instances_in count t) ≡ true

pub table-formed : (places count next : ℕ) (t : List ℕ) → instance_table_ok places count next t ≡ true → Formed places count next t
unfolding instance_table_ok instances_ok
table-formed places count next t ok =
    let a = both _ _ ok in
    let b = both _ _ a.1 in
    let c = both _ _ b.1 in
    let d = both _ _ c.1 in
    let e = both _ _ d.1 in
    let f = both _ _ e.1 in
    record {
      few = leb-true _ _ a.0;
      rest = b.0;
      kinds = c.0;
      rises = d.0;
      valid = e.0;
      below = f.0;
      distinct = f.1;
    }

pub lone_formed : (places : ℕ) (t : List ℕ) → table_ok places t ≡ true → Formed places (used_in places t) 9223372036854775808 t
unfolding table_ok
lone_formed places t ok = table-formed places (used_in places t) 9223372036854775808 t ok

-- each record is laid out as it was
forth : (n : ℕ) (t : List ℕ) → Bytes t → n * 512 ≤ length t → kinds_ok n t ≡ true → Forth instance_bytes instance_of 512 n t
unfolding kinds_ok
forth zero t b h k = tt
forth (suc n) t b h k =
    let p : (ltb (flags_at t) 49152 ≡ true) × (kinds_ok n (drop 512 t) ≡ true) = both (ltb (flags_at t) 49152) (kinds_ok n (drop 512 t)) k in
    let small : flags_at (take 512 t) < 49152 = rw (be-part 2 512 0 t 24 (omega arith)) (ltb-true (flags_at t) 49152 p.0) in (
      instance_forth (take 512 t) (bytes_take 512 t b) (length-take-le 512 t (omega arith)) small,
      forth n (drop 512 t) (bytes_drop 512 t b) (omega (arith, length-drop 512 t)) p.1,
    )

module _ (places count next : ℕ) (t : List ℕ) (size : length t ≡ places * 512) (bytes : Bytes t) (f : Formed places count next t) where
  pub formed-room : count * 512 ≤ length t
  formed-room = omega (arith, mul-le-mul_right 512 f.few)

  pub table-laid : Laid places (instances_in count t) t
  table-laid =
      record {
        few = rw (length_read instance_of 512 count t) f.few;
        wide = wides_read count t formed-room;
        laid =
            sym (rw size at (laid_again instance_bytes instance_of 512 count t formed-room (forth count t bytes formed-room f.kinds) f.rest));
      }

-- ---- a table that is laid out

module _ {places : ℕ} {xs : List Instance} {t : List ℕ} (l : Laid places xs t) where
  pub length-laid : length t ≡ places * 512
  length-laid =
      ap length l.laid ∙ length-lay instance_bytes 512 Wide (λ x w. w) (places * 512) xs l.wide (mul-le-mul_right 512 l.few)

  pub laid-set : (i : ℕ) (y : Instance) → i < length xs → Wide y → Laid places (set xs i y) (patch t (i * 512) 512 (instance_bytes y))
  laid-set i y h w =
      record {
        few = omega (arith, length-set xs i y, l.few);
        wide = all_set Wide xs i y w l.wide;
        laid =
            ap (λ (z : List ℕ). patch z (i * 512) 512 (instance_bytes y)) l.laid
            ∙ lay-set instance_bytes 512 Wide (λ x v. v) (places * 512) xs i y h l.wide w;
      }

  pub laid-insert : (i : ℕ) (y : Instance) → i ≤ length xs → length xs < places → Wide y →
      Laid places (take i xs ++ y ∷ drop i xs) (patch (opened 512 i (length xs) t) (i * 512) 512 (instance_bytes y))
  laid-insert i y h m w =
      record {
        few = omega (arith, length-append (take i xs) (y ∷ drop i xs), length-take-le i xs h, length-drop i xs);
        wide = all_append Wide (take i xs) (y ∷ drop i xs) (all_take Wide i xs l.wide) (w, all_drop Wide i xs l.wide);
        laid =
            ap (λ (z : List ℕ). patch (opened 512 i (length xs) z) (i * 512) 512 (instance_bytes y)) l.laid
            ∙ opened-lay instance_bytes 512 Wide (λ x v. v) (places * 512) xs i y h l.wide (omega arith);
      }

  pub laid-take : (k : ℕ) → k ≤ length xs →
      Laid places (take k xs) (patch t (k * 512) ((length xs - k) * 512) (replicate ((length xs - k) * 512) 0))
  laid-take k h =
      let e : take k xs ++ drop k xs ≡ xs = take-append-drop k xs in
      let n : length xs * 512 ≤ places * 512 = mul-le-mul_right 512 l.few in
      record {
        few = omega (arith, length-take-le k xs h, l.few);
        wide = all_take Wide k xs l.wide;
        laid =
            ap (λ (z : List ℕ). patch z (k * 512) ((length xs - k) * 512) (replicate ((length xs - k) * 512) 0)) l.laid
            ∙ rw (e, length-take-le k xs h, length-drop k xs) at
            (lay_clear instance_bytes 512 Wide (λ x v. v) (places * 512) (take k xs) (drop k xs) (all_take Wide k xs l.wide) (all_drop Wide k xs l.wide) (rw e n));
      }

pub patch_width : (t : List ℕ) (o n : ℕ) (r : List ℕ) → o + n ≤ length t → length (patch t o n r) ≡ length t → length r ≡ n
patch_width t o n r h e =
    omega (arith, length-append (take o t) (r ++ drop (o + n) t), length-append r (drop (o + n) t), length-take-le o t (omega arith), length-drop (o + n) t)

-- ---- the same, from what the calls leave

pub truncated : (kept count : ℕ) (t u : List ℕ) → u ≡ patch t (kept * 512) ((count - kept) * 512) (replicate ((count - kept) * 512) 0) → kept ≤ count →
    (places : ℕ) (xs : List Instance) → Laid places xs t → length xs ≡ count → Laid places (take kept xs) u
truncated kept count t u e h places xs l n = rw (e, ← n) (laid-take l kept (omega arith))

pub replaced : (t u : List ℕ) (i : ℕ) (y : Instance) → u ≡ patch t (i * 512) 512 (instance_bytes y) → length u ≡ length t → i * 512 + 512 ≤ length t →
    (places : ℕ) (xs : List Instance) → Laid places xs t → i < length xs → Laid places (set xs i y) u
replaced t u i y e s h places xs l m =
    rw e (laid-set l i y m (patch_width t (i * 512) 512 (instance_bytes y) h (sym (ap length e) ∙ s)))

pub inserted : (t u v : List ℕ) (count i : ℕ) (y : Instance) → u ≡ opened 512 i count t → v ≡ patch u (i * 512) 512 (instance_bytes y) → length v ≡ length u →
    i * 512 + 512 ≤ length u → i ≤ count →
    (places : ℕ) (xs : List Instance) → Laid places xs t → length xs ≡ count → count < places → Laid places (take i xs ++ y ∷ drop i xs) v
inserted t u v count i y d e s h k places xs l n m =
    rw (e, d, ← n)
    (laid-insert l i y (omega arith) (omega arith) (patch_width u (i * 512) 512 (instance_bytes y) h (sym (ap length e) ∙ s)))
