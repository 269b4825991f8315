-- One record, from what is read of it.
--     kind-zero, not-departed         what the numbers of kind and state say
--     word_high, word_low             flags and spare bytes in one word
--     spares_by, read_by              the spare bits and bytes, and the writer, from what is read
--     alive_read, not_read            the classes, by the state's number
use Prim.Native.Nat.{ℕ, zero, suc, ◌+◌, ◌*◌, ◌/◌, ◌%◌, ◌<◌}
use mathlib.Core.Bool.{Bool, false, ◌&&◌}
use mathlib.Core.Path.{◌≡◌, refl, sym, ap}
use mathlib.Core.List.{List}
use native.Mathlib.Omega.{arith}
use lib.Dec.{eqb, leb, ltb, eqb-suc-zero}
use lib.ListN.{take, drop, get_or}
use borrow.Author.Tests.{ne_eqb, le-leb}
use Rattle.octets.specs.Bounds.{Bytes}
use Rattle.octets.specs.Octets.{be}
use Rattle.octets.proofs.BoundLaws.{be-lt}
use Rattle.octets.proofs.Laws.{be-part}
use Rattle.model.specs.Guids.{guid_at}
use Rattle.model.specs.State.{class_of, is_alive_class, is_not_alive_class, counts_alive, counts_not_alive}
use Rattle.model.specs.WellFormed.{is_departed}
use Rattle.model.specs.WriterRecord.{liveliness_number, liveliness_numbered, state_numbered, writer_of}
use Rattle.writer_record.specs.Records.{spares_in, writer_from}

pub kind-zero : (n : ℕ) → eqb (liveliness_number (liveliness_numbered n)) 0 ≡ eqb n 0
kind-zero zero = refl
kind-zero (suc zero) = refl
kind-zero (suc (suc n)) = sym (eqb-suc-zero (suc n))

pub not-departed : (n : ℕ) → n < 4 → (n ≡ 3 → ⊥) → is_departed (state_numbered n) ≡ false
not-departed zero h d = refl
not-departed (suc zero) h d = refl
not-departed (suc (suc zero)) h d = refl
not-departed (suc (suc (suc n))) h d = absurd (d (omega arith))

alive-number : (n : ℕ) → eqb n 1 ≡ is_alive_class (class_of (state_numbered n))
alive-number zero = refl
alive-number (suc zero) = refl
alive-number (suc (suc zero)) = refl
alive-number (suc (suc (suc n))) = ne_eqb (suc (suc (suc n))) 1 (λ e. omega arith)

not-number : (n : ℕ) → leb 2 n ≡ is_not_alive_class (class_of (state_numbered n))
not-number zero = refl
not-number (suc zero) = refl
not-number (suc (suc zero)) = refl
not-number (suc (suc (suc n))) = le-leb 2 (suc (suc (suc n))) (omega arith)

-- ---- a byte and the seven behind it

module _ (s : List ℕ) (at : ℕ) where
  -- the byte at number k behind the first
  behind : (k : ℕ) → get_or s (at + 1 + k) 0 ≡ get_or s (at + (1 + k)) 0
  behind k = ap (λ (i : ℕ). get_or s i 0) (omega arith)

  word : be 8 s at ≡ be 1 s at * 72057594037927936 + be 7 s (at + 1)
  unfolding be
  word = rw (behind 0, behind 1, behind 2, behind 3, behind 4, behind 5, behind 6) (omega arith)

  module _ (b : Bytes s) where
    pub word_high : be 8 s at / 72057594037927936 ≡ be 1 s at
    word_high = omega (arith, word, be-lt 7 s (at + 1) b)

    pub word_low : be 8 s at % 72057594037927936 ≡ be 7 s (at + 1)
    word_low = omega (arith, word, be-lt 7 s (at + 1) b)

-- ---- the record from at

module _ (t : List ℕ) (at : ℕ) where
  abbrev r : List ℕ
  r = take 40 (drop at t)

  flags_read : be 1 r 16 ≡ be 1 t (at + 16)
  flags_read = be-part 1 40 at t 16 (omega arith)

  pub spares_by : (flags : ℕ) → flags ≡ be 1 t (at + 16) → {x y z : Bool} → ltb flags 192 ≡ x → eqb (flags % 8) 0 ≡ y → eqb (be 7 t (at + 16 + 1)) 0 ≡ z →
      (x && (y && z)) ≡ spares_in r
  spares_by flags e {z = z} p q u =
      let w : at + 16 + 1 ≡ at + 17 = omega arith in
      let v : eqb (be 7 r 17) 0 ≡ z = rw (be-part 7 40 at t 17 (omega arith), ← w) u in
      sym (rw (flags_read, ← e, p, q, v))

  pub read_by : (flags nanos last : ℕ) → flags ≡ be 1 t (at + 16) → nanos ≡ be 8 t (at + 24) → last ≡ be 8 t (at + 32) →
      writer_from (guid_at r 0) flags nanos last ≡ writer_of r
  unfolding writer_of
  read_by flags nanos last e f g =
      rw (flags_read, be-part 8 40 at t 24 (omega arith), be-part 8 40 at t 32 (omega arith), ← e, ← f, ← g)

  module _ (flags : ℕ) (e : flags ≡ be 1 t (at + 16)) where
    pub alive_read : eqb (flags / 16 % 4) 1 ≡ counts_alive (writer_of r)
    unfolding writer_of
    alive_read = rw (flags_read, ← e) (alive-number (flags / 16 % 4))

    pub not_read : leb 2 (flags / 16 % 4) ≡ counts_not_alive (writer_of r)
    unfolding writer_of
    not_read = rw (flags_read, ← e) (not-number (flags / 16 % 4))
