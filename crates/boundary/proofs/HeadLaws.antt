-- A head laid out and read back, both ways.
--     FitsHead        the numbers of a head fit their widths
--     length-head     its 64 bytes
--     head_forth      what was laid out is read back, and it is laid out as a head is
--     head_back       bytes that are laid out as a head are those of the head that is read
use Prim.Native.Nat.{ℕ, zero, suc, ◌^◌, ◌<◌}
use mathlib.Core.Bool.{true, ◌&&◌, ◌||◌}
use mathlib.Core.Path.{◌≡◌, refl, sym, ap, ◌∙◌}
use mathlib.Core.List.{List, [], append-nil}
use native.Mathlib.Omega.{arith}
use borrow.Author.Tests.{eqb-true, ltb-true}
use lib.Dec.{eqb, ltb}
use lib.ListN.{length, get_or}
use lib.Seq.{take_all}
use mir.Facts.{to_z-of_z, of_z-to_z, Fits-of_z}
use mir.Syntax.{w32}
use mir.Val.{SFits, of_z, to_z}
use Rattle.octets.specs.Bounds.{Bytes}
use Rattle.octets.proofs.BoundLaws.{be-lt}
use Rattle.octets.specs.Fields.{reads, Fit}
use Rattle.octets.specs.Octets.{be}
use Rattle.octets.specs.Patch.{fields}
use Rattle.octets.proofs.PatchLaws.{length_fields}
use Rattle.model.specs.declared.Guid.{Guid}
use Rattle.model.specs.declared.Head.{Head}
use Rattle.model.specs.State.{LastWriter}
use Rattle.std.specs.Prelude.{None, Some}
use Rattle.model.specs.Guids.{guid_at}
use Rattle.model.proofs.FieldLaws.{reads_front, fields-reads}
use Rattle.model.proofs.Fits.{FitsGuid}
use Rattle.model.proofs.Tests.{both}
use Rattle.boundary.specs.Layouts.{last_present, last_guid, last_writer, head_widths, head_values, head_bytes, head_in, head_laid}

pub record FitsHead (h : Head) : Type 0 where
  pub instances : h.instance_count < 256 ^ 4
  pub writers : h.writer_count < 256 ^ 4
  pub lost : h.lost_count < 256 ^ 4
  pub alive : h.alive < 256 ^ 4
  pub not_alive : h.not_alive < 256 ^ 4
  pub alive_change : SFits w32 h.alive_change
  pub not_alive_change : SFits w32 h.not_alive_change
  pub next : h.next_handle.0 < 256 ^ 8
  pub changes : h.changes < 256 ^ 8
  pub places : h.places < 256 ^ 2
  pub last : FitsGuid (last_guid h.last_writer)

pub length-head : (h : Head) → length (head_bytes h) ≡ 64
unfolding head_bytes
length-head h = length_fields head_widths (head_values h) tt

-- ---- laid out, then read

present_fits : (l : LastWriter) → last_present l < 256 ^ 2
present_fits None = omega arith
present_fits (Some g) = omega arith

-- the last writer is read back
last_back : (l : LastWriter) → last_writer (last_present l) (last_guid l) ≡ l
last_back None = refl
last_back (Some g) = refl

-- its fields are as they should be
last-laid : (l : LastWriter) →
    (ltb (last_present l) 2 && (eqb (last_present l) 1 || (eqb (last_guid l).hi 0 && eqb (last_guid l).lo 0))) ≡ true
last-laid None = refl
last-laid (Some g) = refl

module _ (h : Head) (fits : FitsHead h) where
  values_fit : Fit head_widths (head_values h)
  values_fit =
      let a = (Fits-of_z fits.alive_change).fits in
      let n = (Fits-of_z fits.not_alive_change).fits in
      let p = present_fits h.last_writer in
      let g = fits.last in
      omega (arith, fits)

  values_back : reads head_widths (head_bytes h) 0 0 ≡ head_values h
  unfolding head_bytes
  values_back = rw (append-nil (fields head_widths (head_values h))) at (reads_front head_widths (head_values h) [] values_fit)

  -- field number i of the layout
  field : (i : ℕ) → get_or (reads head_widths (head_bytes h) 0 0) i 0 ≡ get_or (head_values h) i 0
  field i = ap (λ (l : List ℕ). get_or l i 0) values_back

  read_back : head_in (head_bytes h) ≡ h
  unfolding head_in
  read_back =
      let r : List ℕ = head_bytes h in
      let e0 : be 4 r 0 ≡ h.instance_count = field 0 in
      let e1 : be 4 r 4 ≡ h.writer_count = field 1 in
      let e2 : be 4 r 8 ≡ h.lost_count = field 2 in
      let e3 : be 4 r 12 ≡ h.alive = field 3 in
      let e4 : be 4 r 16 ≡ h.not_alive = field 4 in
      let e5 : be 4 r 20 ≡ of_z w32 h.alive_change = field 5 in
      let e6 : be 4 r 24 ≡ of_z w32 h.not_alive_change = field 6 in
      let e7 : be 2 r 28 ≡ last_present h.last_writer = field 7 in
      let e8 : be 2 r 30 ≡ h.places = field 8 in
      let e9 : be 8 r 32 ≡ h.next_handle.0 = field 9 in
      let e10 : be 8 r 40 ≡ h.changes = field 10 in
      let e11 : be 8 r 48 ≡ (last_guid h.last_writer).hi = field 11 in
      let e12 : be 8 r 56 ≡ (last_guid h.last_writer).lo = field 12 in
      rw (e0, e1, e2, e3, e4, e5, e6, e7, e8, e9, e10, e11, e12, to_z-of_z fits.alive_change, to_z-of_z fits.not_alive_change, last_back h.last_writer)

  bytes-laid : head_laid (head_bytes h) ≡ true
  unfolding head_laid
  bytes-laid =
      let r : List ℕ = head_bytes h in
      let e7 : be 2 r 28 ≡ last_present h.last_writer = field 7 in
      let e11 : be 8 r 48 ≡ (last_guid h.last_writer).hi = field 11 in
      let e12 : be 8 r 56 ≡ (last_guid h.last_writer).lo = field 12 in
      rw (e7, e11, e12) (last-laid h.last_writer)

  pub head_forth : (head_in (head_bytes h) ≡ h) × (head_laid (head_bytes h) ≡ true)
  head_forth = (read_back, bytes-laid)

-- ---- read, then laid out

-- what the bytes of a head say: its last writer is laid out again as it was
record Again (n : ℕ) (g : Guid) : Type 0 where
  present : last_present (last_writer n g) ≡ n
  high : (last_guid (last_writer n g)).hi ≡ g.hi
  low : (last_guid (last_writer n g)).lo ≡ g.lo

last_again : (n : ℕ) (g : Guid) → n < 2 → (eqb n 1 || (eqb g.hi 0 && eqb g.lo 0)) ≡ true → Again n g
last_again zero g s t =
    let b = both (eqb g.hi 0) (eqb g.lo 0) t in
    record { present = refl; high = sym (eqb-true g.hi 0 b.0); low = sym (eqb-true g.lo 0 b.1) }
last_again (suc zero) g s t = record { present = refl; high = refl; low = refl }
last_again (suc (suc n)) g s t = absurd (omega arith)

again : (n : ℕ) (g : Guid) → (ltb n 2 && (eqb n 1 || (eqb g.hi 0 && eqb g.lo 0))) ≡ true → Again n g
again n g e =
    let a = both (ltb n 2) (eqb n 1 || (eqb g.hi 0 && eqb g.lo 0)) e in
    last_again n g (ltb-true n 2 a.0) a.1

module _ (b : List ℕ) (bytes : Bytes b) (size : length b ≡ 64) where
  bits_again : (at : ℕ) → of_z w32 (to_z w32 (be 4 b at)) ≡ be 4 b at
  bits_again at = of_z-to_z {w = w32} (record { fits = omega (arith, be-lt 4 b at bytes) })

  pub head_back : head_laid b ≡ true → head_bytes (head_in b) ≡ b
  unfolding head_bytes head_in head_laid
  head_back e =
      let a : Again (be 2 b 28) (guid_at b 48) = again (be 2 b 28) (guid_at b 48) e in
      rw (bits_again 20, bits_again 24, a.present, a.high, a.low)
      (fields-reads head_widths b bytes (omega arith) ∙ take_all 64 b (omega arith))
