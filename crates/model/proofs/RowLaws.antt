-- Records of one size laid out and read back, for any record.
--     length_read               as many as were asked for
--     read_last, read_snoc      a record more
--     read_cons, read_append    the first record, or the first records, and those behind
--     take_read, drop_read      some of the records
--     get_read                  a record by its place
--     read_rows_lem         what was laid out is read back
--     rows_read         what was read is laid out as it was, where each record is
--     lay_read          so is the whole buffer, where the rest is zero
--     lay_rest          behind what was laid out all is zero
use mathlib.Core.Bool.{true}
use mathlib.Core.Path.{◌≡◌, refl, sym, ap, ◌∙◌}
use mathlib.Core.List.{List, [], ◌∷◌, ◌++◌, append_assoc}
use Prim.Native.Nat.{ℕ, zero, suc, ◌+◌, ◌-◌, ◌*◌, ◌≤◌, ◌<◌}
use native.Mathlib.Nat.{suc-mul, zero-mul, zero-add, suc-add, add_comm}
use native.Mathlib.Numerals.{add-one}
use native.Mathlib.Omega.{arith}
use lib.ListN.{length, get_or, take, drop, replicate, length-drop, take-append-drop}
use lib.Seq.{take_at, drop_at, drop-drop, take-add}
use Rattle.octets.specs.Lay.{rows, lay, All}
use Rattle.octets.proofs.LayLaws.{length-rows}
use Rattle.octets.specs.Zeros.{all_zero}
use Rattle.octets.proofs.ZeroLaws.{all_zero-zeros, zeros-all_zero}
use Rattle.model.specs.Layout.{read_rows}

pub length_read : {A : Type 0} (record_of : List ℕ → A) (size n : ℕ) (t : List ℕ) → length (read_rows record_of size n t) ≡ n
unfolding read_rows
length_read record_of size zero t = refl
length_read record_of size (suc n) t = ap suc (length_read record_of size n (drop size t))

module _ {A : Type 0} (record_of : List ℕ → A) (size : ℕ) where
  -- where the next record starts
  after : (n : ℕ) → size + n * size ≡ suc n * size
  after n = omega (arith, suc-mul n size)

  pub read_last : (n : ℕ) (t : List ℕ) → read_rows record_of size (suc n) t ≡ read_rows record_of size n t ++ (record_of (take size (drop (n * size) t)) ∷ [])
  unfolding read_rows
  read_last zero t = rw (zero-mul size)
  read_last (suc n) t = rw (read_last n (drop size t), drop-drop (n * size) size t, after n)

  pub read_snoc : (n : ℕ) (t : List ℕ) → read_rows record_of size (n + 1) t ≡ read_rows record_of size n t ++ (record_of (take size (drop (n * size) t)) ∷ [])
  read_snoc n t = rw add-one (read_last n t)

  pub read_cons : (n i : ℕ) (t : List ℕ) → i < n →
      read_rows record_of size (n - i) (drop (i * size) t)
      ≡ record_of (take size (drop (i * size) t)) ∷ read_rows record_of size (n - (i + 1)) (drop ((i + 1) * size) t)
  unfolding read_rows
  read_cons n i t h =
      let e : n - i ≡ suc (n - (i + 1)) = omega arith in
      let f : i * size + size ≡ (i + 1) * size = rw add-one (omega (arith, suc-mul i size)) in
      rw (e, drop-drop size (i * size) t, f)

  pub take_read : (n m : ℕ) (t : List ℕ) → n ≤ m → take n (read_rows record_of size m t) ≡ read_rows record_of size n t
  unfolding read_rows
  take_read zero m t h = refl
  take_read (suc n) zero t h = absurd (omega arith)
  take_read (suc n) (suc m) t h = rw (take_read n m (drop size t) (omega arith))

  pub drop_read : (n m : ℕ) (t : List ℕ) → n ≤ m → drop n (read_rows record_of size m t) ≡ read_rows record_of size (m - n) (drop (n * size) t)
  unfolding read_rows
  drop_read zero m t h = let e : m - 0 ≡ m = omega arith in rw (zero-mul size, e)
  drop_read (suc n) zero t h = absurd (omega arith)
  drop_read (suc n) (suc m) t h =
      let e : suc m - suc n ≡ m - n = omega arith in
      rw (drop_read n m (drop size t) (omega arith), drop-drop (n * size) size t, after n, e)

  pub read_append : (m n : ℕ) (t : List ℕ) → read_rows record_of size (m + n) t ≡ read_rows record_of size m t ++ read_rows record_of size n (drop (m * size) t)
  unfolding read_rows
  read_append zero n t = rw (zero-add n, zero-mul size)
  read_append (suc m) n t =
      rw (suc-add m n, read_append m n (drop size t), drop-drop (m * size) size t, suc-mul m size, add_comm (m * size) size)

  pub get_read : (n : ℕ) (t : List ℕ) (i : ℕ) (d : A) → i < n → get_or (read_rows record_of size n t) i d ≡ record_of (take size (drop (i * size) t))
  unfolding read_rows
  get_read zero t i d h = absurd (omega arith)
  get_read (suc n) t zero d h = rw (zero-mul size)
  get_read (suc n) t (suc i) d h =
      get_read n (drop size t) i d (omega arith) ∙ rw (drop-drop (i * size) size t, suc-mul i size, add_comm (i * size) size)

module _ {A : Type 0} (row : A → List ℕ) (record_of : List ℕ → A) (size : ℕ) where
  -- a record that is laid out in its size and read back
  pub record Back (x : A) : Type 0 where
    pub width : length (row x) ≡ size
    pub back : record_of (row x) ≡ x

  pub read_rows_lem : (xs : List A) (z : List ℕ) → All Back xs → read_rows record_of size (length xs) (rows row xs ++ z) ≡ xs
  unfolding read_rows rows
  read_rows_lem [] z h = refl
  read_rows_lem (x ∷ xs) z h =
      rw (
        append_assoc (row x) (rows row xs) z,
        take_at (row x) (rows row xs ++ z) size h.0.width,
        drop_at (row x) (rows row xs ++ z) size h.0.width,
        h.0.back,
        read_rows_lem xs z h.1,
      )

  -- each of the first n records is laid out as it was
  abbrev pub Forth : ℕ → List ℕ → Type 0
  Forth zero t = Unit
  Forth (suc n) t = (row (record_of (take size t)) ≡ take size t) × Forth n (drop size t)

  pub rows_read : (n : ℕ) (t : List ℕ) → n * size ≤ length t → Forth n t → rows row (read_rows record_of size n t) ≡ take (n * size) t
  unfolding read_rows rows
  rows_read zero t h f = rw (zero-mul size)
  rows_read (suc n) t h f =
      let m : n * size ≤ length (drop size t) = omega (arith, suc-mul n size, length-drop size t) in
      let e : size + n * size ≡ suc n * size = omega (arith, suc-mul n size) in
      rw (f.0, rows_read n (drop size t) m f.1) (sym (take-add size (n * size) t) ∙ ap (λ (i : ℕ). take i t) e)

  pub lay_read : (n : ℕ) (t : List ℕ) → n * size ≤ length t → Forth n t → all_zero (drop (n * size) t) ≡ true →
      lay row size (length t) (read_rows record_of size n t) ≡ t
  unfolding lay
  lay_read n t h f z =
      let e : drop (n * size) t ≡ replicate (length t - n * size) 0 =
      zeros-all_zero (drop (n * size) t) z ∙ ap (λ (i : ℕ). replicate i 0) (length-drop (n * size) t) in
      rw (rows_read n t h f, length_read record_of size n t, ← e) (take-append-drop (n * size) t)

  pub lay_rest : (n : ℕ) (xs : List A) → All Back xs → all_zero (drop (length xs * size) (lay row size n xs)) ≡ true
  unfolding lay
  lay_rest n xs h =
      rw (drop_at (rows row xs) (replicate (n - length xs * size) 0) (length xs * size) (length-rows row size Back (λ x b. b.width) xs h))
      (all_zero-zeros (n - length xs * size))
