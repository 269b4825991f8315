-- Lists taken one element further, and records read at their places.
--     take_more             one element more is taken
--     pick-append, pick-le, pick-part, picked_snoc, mapped_snoc     what is picked of a list in two parts, and of one more
--     count_snoc, count-cons, count_middle                          how many that are, one more behind, in front, between
--     all-at, all_from      what holds of all holds at a place, and the other way round
--     same_self             a class is the same as itself
--     last_snoc             the last writer after one GUID more
--     read_at               record i of those that are read
--     writers_fit           what was read of bytes fits
--     bounded               clock and lease of a writer that is within its bounds
use Prim.Native.Nat.{ℕ, zero, suc, ◌+◌, ◌*◌, ◌≤◌, ◌<◌, ◌^◌}
use mathlib.Core.Bool.{Bool, true, false, not, ◌&&◌, ◌||◌, cond}
use mathlib.Core.Path.{◌≡◌, refl, sym, ap, ◌∙◌}
use mathlib.Core.List.{List, [], ◌∷◌, ◌++◌, map, map-append, append-nil}
use native.Mathlib.Nat.{zero-mul, suc-mul}
use native.Mathlib.Numerals.{add-one}
use native.Mathlib.Omega.{arith}
use borrow.Author.Tests.{ltb-true, eqb-true}
use lib.Dec.{eqb}
use lib.ListN.{length, take, drop, get_or, length-append, take-append-drop}
use lib.Seq.{take-suc, drop-drop}
use Rattle.octets.specs.Bounds.{Bytes}
use Rattle.octets.proofs.BoundLaws.{be-lt}
use Rattle.octets.specs.Lay.{All}
use Rattle.model.specs.declared.Guid.{Guid}
use Rattle.std.specs.Prelude.{Some}
use Rattle.model.specs.declared.MaybeLease.{MaybeLease}
use Rattle.model.specs.declared.Writer.{Writer}
use Rattle.model.specs.InstanceRecord.{bit}
use Rattle.model.specs.Layout.{read_rows}
use Rattle.model.specs.State.{Class, alive, not_alive, neither, writers_in, LastWriter}
use Rattle.model.specs.Tables.{pick, all}
use Rattle.model.specs.WellFormed.{lease_ok, clock_ok, is_departed, only_state, writer_ok}
use Rattle.model.specs.Writers.{same_class, last_after}
use Rattle.model.specs.WriterRecord.{writer_of}
use Rattle.model.proofs.Fits.{FitsWriter}
use Rattle.model.proofs.GuidLaws.{bytes_take, bytes_drop}
use Rattle.model.proofs.Tests.{both}
use Rattle.writer_pass.specs.Passes.{Bounded}

module _ {A : Type 0} where
  pub take_more : (xs : List A) (i : ℕ) (d : A) → i < length xs → take (i + 1) xs ≡ take i xs ++ get_or xs i d ∷ []
  take_more xs i d h = rw (add-one, take-suc xs i d h)

  pub read_at : (record_of : List ℕ → A) (size n : ℕ) (t : List ℕ) (i : ℕ) (d : A) → i < n →
      get_or (read_rows record_of size n t) i d ≡ record_of (take size (drop (i * size) t))
  unfolding read_rows
  read_at record_of size zero t i d h = absurd (omega arith)
  read_at record_of size (suc n) t zero d h = rw (zero-mul size)
  read_at record_of size (suc n) t (suc i) d h =
      let e : size + i * size ≡ suc i * size = omega (arith, suc-mul i size) in
      read_at record_of size n (drop size t) i d (omega arith) ∙ rw (drop-drop (i * size) size t, e)

  module _ (p : A → Bool) where
    -- one element in front of what was picked, where it is so
    front : (b : Bool) (x : A) (xs ys : List A) → cond b (x ∷ (xs ++ ys)) (xs ++ ys) ≡ cond b (x ∷ xs) xs ++ ys
    front true x xs ys = refl
    front false x xs ys = refl

    pub pick-append : (xs ys : List A) → pick p (xs ++ ys) ≡ pick p xs ++ pick p ys
    unfolding pick
    pick-append [] ys = refl
    pick-append (x ∷ xs) ys = rw (pick-append xs ys) (front (p x) x (pick p xs) (pick p ys))

    cond-le : (b : Bool) (x : A) (ys : List A) (n : ℕ) → length ys ≤ n → length (cond b (x ∷ ys) ys) ≤ suc n
    cond-le true x ys n h = omega arith
    cond-le false x ys n h = omega arith

    pub pick-le : (xs : List A) → length (pick p xs) ≤ length xs
    unfolding pick
    pick-le [] = omega arith
    pick-le (x ∷ xs) = cond-le (p x) x (pick p xs) (length xs) (pick-le xs)

    pub pick-part : (i : ℕ) (xs : List A) → length (pick p (take i xs)) ≤ length (pick p xs)
    pick-part i xs =
        let e : length (pick p xs) ≡ length (pick p (take i xs) ++ pick p (drop i xs)) =
        ap (λ (l : List A). length (pick p l)) (sym (take-append-drop i xs)) ∙ ap length (pick-append (take i xs) (drop i xs)) in
        omega (arith, e, length-append (pick p (take i xs)) (pick p (drop i xs)))

    count_by : (b : Bool) (xs : List A) (x : A) → length (xs ++ cond b (x ∷ []) []) ≡ cond b (length xs + 1) (length xs)
    count_by true xs x = length-append xs (x ∷ [])
    count_by false xs x = ap length (append-nil xs)

    pub picked_snoc : (xs : List A) (x : A) → pick p (xs ++ x ∷ []) ≡ pick p xs ++ cond (p x) (x ∷ []) []
    unfolding pick
    picked_snoc xs x = pick-append xs (x ∷ [])

    pub count_snoc : (xs : List A) (x : A) → length (pick p (xs ++ x ∷ [])) ≡ cond (p x) (length (pick p xs) + 1) (length (pick p xs))
    count_snoc xs x = ap length (picked_snoc xs x) ∙ count_by (p x) (pick p xs) x

    bit-count : (b : Bool) (x : A) (xs : List A) → length (cond b (x ∷ xs) xs) ≡ bit b + length xs
    bit-count true x xs = omega arith
    bit-count false x xs = omega arith

    pub count-cons : (x : A) (xs : List A) → length (pick p (x ∷ xs)) ≡ bit (p x) + length (pick p xs)
    unfolding pick
    count-cons x xs = bit-count (p x) x (pick p xs)

    pub count_middle : (a b : List A) (x : A) → length (pick p (a ++ x ∷ b)) ≡ bit (p x) + length (pick p (a ++ b))
    count_middle a b x =
        omega (
          arith,
          ap length (pick-append a (x ∷ b)),
          ap length (pick-append a b),
          length-append (pick p a) (pick p (x ∷ b)),
          length-append (pick p a) (pick p b),
          count-cons x b,
        )

    pub all-at : (xs : List A) (i : ℕ) (d : A) → all p xs ≡ true → i < length xs → p (get_or xs i d) ≡ true
    unfolding all
    all-at [] i d h l = absurd (omega arith)
    all-at (x ∷ xs) zero d h l = (both (p x) (all p xs) h).0
    all-at (x ∷ xs) (suc i) d h l = all-at xs i d (both (p x) (all p xs) h).1 (omega arith)

  -- what holds at each place holds of all
  pub all_from : (P : A → Type 0) (d : A) (xs : List A) → ((j : ℕ) → j < length xs → P (get_or xs j d)) → All P xs
  all_from P d [] h = tt
  all_from P d (x ∷ xs) h = (h zero (omega arith), all_from P d xs (λ j l. h (suc j) (omega arith)))

  map_by : {B : Type 0} (f : A → B) (b : Bool) (xs : List A) (x : A) → map f (xs ++ cond b (x ∷ []) []) ≡ map f xs ++ cond b (f x ∷ []) []
  map_by f true xs x = map-append f xs (x ∷ [])
  map_by f false xs x = map-append f xs []

  pub mapped_snoc : {B : Type 0} (f : A → B) (p : A → Bool) (xs : List A) (x : A) →
      map f (pick p (xs ++ x ∷ [])) ≡ map f (pick p xs) ++ cond (p x) (f x ∷ []) []
  mapped_snoc f p xs x = ap (map f) (picked_snoc p xs x) ∙ map_by f (p x) (pick p xs) x

pub same_self : (c : Class) → same_class c c ≡ true
same_self alive = refl
same_self not_alive = refl
same_self neither = refl

pub last_snoc : (gs : List Guid) (b : Bool) (g : Guid) (last : LastWriter) → last_after (gs ++ cond b (g ∷ []) []) last ≡ cond b (Some g) (last_after gs last)
unfolding last_after
last_snoc [] true g last = refl
last_snoc [] false g last = refl
last_snoc (h ∷ gs) b g last = last_snoc gs b g (Some h)

pub writers_fit : (n : ℕ) (t : List ℕ) → Bytes t → All FitsWriter (writers_in n t)
unfolding read_rows writer_of
writers_fit zero t b = tt
writers_fit (suc n) t b =
    let r : List ℕ = take 40 t in
    let c : Bytes r = bytes_take 40 t b in (
      record { guid = record { high = be-lt 8 r 0 c; low = be-lt 8 r 8 c }; lease = be-lt 8 r 24 c; last = be-lt 8 r 32 c },
      writers_fit n (drop 40 t) (bytes_drop 40 t b),
    )

lease_small : (l : MaybeLease) → lease_ok l ≡ true → l.nanos < 2 ^ 62
unfolding lease_ok
lease_small l = each l.present
  where
    each : (b : Bool) → cond b (clock_ok l.nanos) (eqb l.nanos 0) ≡ true → l.nanos < 2 ^ 62
    each true e = ltb-true l.nanos (2 ^ 62) e
    each false e = let z : l.nanos ≡ 0 = eqb-true l.nanos 0 e in omega arith

pub bounded : (w : Writer) → writer_ok w ≡ true → Bounded w
unfolding writer_ok
bounded w e =
    let l = w.liveliness in
    let p = both (lease_ok l.lease) (clock_ok l.last_assertion && (not (is_departed l.state) || only_state l)) e in
    let q = both (clock_ok l.last_assertion) (not (is_departed l.state) || only_state l) p.1 in
    (ltb-true l.last_assertion (2 ^ 62) q.0, lease_small l.lease p.0)
