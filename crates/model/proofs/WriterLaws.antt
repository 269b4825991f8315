-- A writer laid out and read back, both ways.
--     length-writer     its 40 bytes
--     writer_back       what was laid out is read back
--     writer_forth      what was read is laid out as it was
--     writer_fits       what was read fits
use Prim.Native.Nat.{ℕ, ◌%◌, ◌<◌}
use mathlib.Core.Path.{◌≡◌, ap, ◌∙◌}
use mathlib.Core.List.{List, [], append-nil}
use native.Mathlib.Omega.{arith}
use lib.ListN.{length, get_or}
use lib.Seq.{take_all}
use Rattle.octets.specs.Bounds.{Bytes}
use Rattle.octets.proofs.BoundLaws.{be-lt}
use Rattle.octets.specs.Fields.{reads, Fit}
use Rattle.octets.specs.Octets.{be}
use Rattle.octets.specs.Patch.{fields}
use Rattle.octets.proofs.PatchLaws.{length_fields}
use Rattle.model.specs.declared.Writer.{Writer}
use Rattle.model.specs.WriterRecord.{writer_flags_at, writer_flags, writer_by, writer_of, writer_bytes, writer_widths, writer_values}
use Rattle.model.proofs.FieldLaws.{reads_front, fields-reads}
use Rattle.model.proofs.Fits.{FitsWriter}
use Rattle.model.proofs.FlagLaws.{WriterApart, writer_apart, writer_again}

pub length-writer : (w : Writer) → length (writer_bytes w) ≡ 40
unfolding writer_bytes
length-writer w = length_fields writer_widths (writer_values w) tt

module _ (w : Writer) (fits : FitsWriter w) where
  values_fit : Fit writer_widths (writer_values w)
  values_fit =
      (fits.guid.high, (fits.guid.low, (omega (arith, (writer_apart w).small), (omega arith, (fits.lease, (fits.last, tt))))))

  values_back : reads writer_widths (writer_bytes w) 0 0 ≡ writer_values w
  unfolding writer_bytes
  values_back = rw (append-nil (fields writer_widths (writer_values w))) at (reads_front writer_widths (writer_values w) [] values_fit)

  -- field number i of the layout
  field : (i : ℕ) → get_or (reads writer_widths (writer_bytes w) 0 0) i 0 ≡ get_or (writer_values w) i 0
  field i = ap (λ (l : List ℕ). get_or l i 0) values_back

  -- the spare bits and bytes are zero
  pub writer_spares : (be 1 (writer_bytes w) 16 ≡ writer_flags w) × (be 7 (writer_bytes w) 17 ≡ 0)
  writer_spares = (field 2, field 3)

  pub writer_back : writer_of (writer_bytes w) ≡ w
  unfolding writer_of
  writer_back =
      let r : List ℕ = writer_bytes w in
      let e0 : be 8 r 0 ≡ w.guid.hi = field 0 in
      let e1 : be 8 r 8 ≡ w.guid.lo = field 1 in
      let e2 : be 1 r 16 ≡ writer_flags w = field 2 in
      let e4 : be 8 r 24 ≡ w.liveliness.lease.nanos = field 4 in
      let e5 : be 8 r 32 ≡ w.liveliness.last_assertion = field 5 in
      let a : WriterApart w (writer_flags w) = writer_apart w in
      rw (e2, a.kind, a.state, a.lease, e0, e1, e4, e5)

module _ (r : List ℕ) (bytes : Bytes r) (size : length r ≡ 40) where
  pub writer_fits : FitsWriter (writer_of r)
  unfolding writer_of
  writer_fits =
      record { guid = record { high = be-lt 8 r 0 bytes; low = be-lt 8 r 8 bytes }; lease = be-lt 8 r 24 bytes; last = be-lt 8 r 32 bytes }

  pub writer_forth : writer_flags_at r < 192 → writer_flags_at r % 8 ≡ 0 → be 7 r 17 ≡ 0 → writer_bytes (writer_of r) ≡ r
  unfolding writer_bytes writer_of
  writer_forth h e z =
      let f : writer_flags (writer_by r (writer_flags_at r)) ≡ writer_flags_at r = writer_again r (writer_flags_at r) h e in
      rw f (rw z at (fields-reads writer_widths r bytes (omega arith)) ∙ take_all 40 r (omega arith))
