-- Keys that rise, and a record put in by its key.
--     get_key                         a key by its place
--     rising-lt                       of two records the first has the lesser key
--     only_key, nowhere_key           at most one record has a key; none where it would go in
--     put-set                         put is a `set` at its key's place
--     found_key, found_only           the same, from what was found
--     missing_inserts, missing-le, missing-nowhere, missing-put
--     missing-only, missing-sift      a record put in and then changed
--     rising-put, rising-sift         the keys go on rising
--     distinct_ne, pairs_distinct     handles that are distinct, by places
--     only-handle                     of instances with distinct handles at most one has a handle
use Prim.Native.Nat.{ℕ, zero, suc, ◌≤◌, ◌<◌}
use mathlib.Core.Bool.{true, false, not}
use mathlib.Core.List.{List, [], ◌∷◌, ◌++◌, map}
use mathlib.Core.Logic.{◌≢◌, ⊎_elim}
use mathlib.Core.Option.{Option, none, some}
use mathlib.Core.Path.{◌≡◌, refl, sym, ap, ◌∙◌}
use native.Mathlib.Nat.{eq-or-lt_of_le}
use native.Mathlib.Omega.{arith}
use borrow.Author.Tests.{lt-ltb, le-ltb, ltb-true, ltb-false, eq-eqb, ne_eqb, eqb-true, eqb-false, not-true}
use lib.Dec.{ltb, eqb}
use lib.ListN.{length, get_or, take, drop, set, length-map}
use lib.Seq.{length-take-le, get_or_at, set_at}
use Rattle.model.specs.declared.Instance.{Instance}
use Rattle.model.specs.Tables.{all, put, above, rising, sift, kept}
use Rattle.model.specs.WellFormed.{handles_distinct, other_handle}
use Rattle.std.specs.Prelude.{Ok, Err}
use Rattle.model.proofs.Tests.{both, split, lt-or-le}
use Rattle.tables.proofs.KeyLaws.{rising_pairs}
use Rattle.tables.specs.Found.{found_in}
use Rattle.tables.proofs.FoundLaws.{InsertsAt, found_at, found_missing}
use Rattle.tables.specs.Places.{Only, Nowhere}
use Rattle.tables.proofs.RecordLaws.{keyed, rising-records, above-less, put_inserts}
use Rattle.tables.proofs.Finds.{all-at, at_all, only-insert}
use Rattle.tables.proofs.Sifts.{sift-only}

module _ {A : Type 0} (key : A → ℕ) where
  -- ---- the test

  pub get_key : (xs : List A) (i : ℕ) (d : A) → i < length xs → get_or (map key xs) i 0 ≡ key (get_or xs i d)
  get_key [] i d l = absurd (omega arith)
  get_key (x ∷ xs) zero d l = refl
  get_key (x ∷ xs) (suc i) d l = get_key xs i d (omega arith)

  pub above_at : (n : ℕ) (xs : List A) → above key n xs ≡ true → (i : ℕ) (d : A) → i < length xs → n < key (get_or xs i d)
  unfolding above
  above_at n [] h i d l = absurd (omega arith)
  above_at n (x ∷ xs) h zero d l = ltb-true n (key x) (both (ltb n (key x)) (above key n xs) h).0
  above_at n (x ∷ xs) h (suc i) d l = above_at n xs (both (ltb n (key x)) (above key n xs) h).1 i d (omega arith)

  -- ---- of two records the first has the lesser key

  module _ (xs : List A) (d : A) (r : rising key xs ≡ true) where
    pub rising-lt : (i j : ℕ) → i < j → j < length xs → key (get_or xs i d) < key (get_or xs j d)
    rising-lt i j l m =
        rw (get_key xs i d (omega arith), get_key xs j d m) at
        (rising_pairs (map key xs) (rising-records key xs ∙ r) i j l (omega (arith, length-map xs key)))

    pub only_key : (i k : ℕ) → i < length xs → key (get_or xs i d) ≡ k → Only (keyed key k) xs i d
    only_key i k l e =
        record {
          within = l;
          here = eq-eqb (key (get_or xs i d)) k e;
          elsewhere =
              λ j m n.
              ne_eqb (key (get_or xs j d)) k
              (λ q. ⊎_elim (λ a. omega (arith, rising-lt j i a l))
              (λ a. ⊎_elim (λ s. n (sym s)) (λ s. omega (arith, rising-lt i j s m)) (eq-or-lt_of_le a)) (lt-or-le j i));
        }

  -- a key that would go in is nowhere
  pub nowhere_key : (xs : List A) (d : A) (k i : ℕ) → InsertsAt (map key xs) k i → Nowhere (keyed key k) xs d
  nowhere_key xs d k i p j l =
      ne_eqb (key (get_or xs j d)) k
      (λ e. ⊎_elim (λ a. omega (arith, get_key xs j d l, p.before j a))
      (λ a. omega (arith, get_key xs j d l, p.behind j a (omega (arith, length-map xs key)))) (lt-or-le j i))

  -- ---- put

  pub put-set : (xs : List A) (d y : A) (i : ℕ) → rising key xs ≡ true → i < length xs → key (get_or xs i d) ≡ key y → put key y xs ≡ set xs i y
  unfolding put rising
  put-set [] d y i r l e = absurd (omega arith)
  put-set (x ∷ xs) d y zero r l e = rw (le-ltb (key x) (key y) (omega arith), eq-eqb (key x) (key y) e)
  put-set (x ∷ xs) d y (suc i) r l e =
      let b = both (above key (key x) xs) (rising key xs) r in
      rw (lt-ltb (key x) (key y) (omega (arith, above_at (key x) xs b.0 i d (omega arith))))
      (ap (λ (l : List A). x ∷ l) (put-set xs d y i b.1 (omega arith) e))

  -- ---- from what was found

  module _ (xs : List A) (d : A) (r : rising key xs ≡ true) (k i : ℕ) where
    -- the place is one, and its record has the key
    pub found_key : found_in (map key xs) k ≡ Ok i → (i < length xs) × (key (get_or xs i d) ≡ k)
    found_key f =
        let p = found_at (map key xs) k i f in
        let l : i < length xs = omega (arith, p.within, length-map xs key) in
        (l, sym (get_key xs i d l) ∙ p.here)

    pub found_only : found_in (map key xs) k ≡ Ok i → Only (keyed key k) xs i d
    found_only f = only_key xs d r i k (found_key f).0 (found_key f).1

    pub missing_inserts : found_in (map key xs) k ≡ Err i → InsertsAt (map key xs) k i
    missing_inserts f = found_missing (map key xs) k i (rising-records key xs ∙ r) f

    pub missing-nowhere : found_in (map key xs) k ≡ Err i → Nowhere (keyed key k) xs d
    missing-nowhere f = nowhere_key xs d k i (missing_inserts f)

    pub missing-le : found_in (map key xs) k ≡ Err i → i ≤ length xs
    missing-le f = omega (arith, (missing_inserts f).within, length-map xs key)

    pub missing-put : (y : A) → key y ≡ k → found_in (map key xs) k ≡ Err i → put key y xs ≡ take i xs ++ y ∷ drop i xs
    missing-put y e f = put_inserts key xs y i (rw e (missing_inserts f))

    -- a record put in, and each taken through a function that acts on its key alone
    module _ (f : A → Option A) (acts : (x : A) → keyed key k x ≡ false → f x ≡ some x) (m : found_in (map key xs) k ≡ Err i) (y : A) (e : key y ≡ k) where
      pub missing-only : Only (keyed key k) (put key y xs) i d
      missing-only =
          rw (missing-put y e m) (only-insert (keyed key k) xs y d i (missing-le m) (missing-nowhere m) (eq-eqb (key y) k e))

      pub missing-sift : (z : A) → f y ≡ some z → sift f (put key y xs) ≡ take i xs ++ z ∷ drop i xs
      missing-sift z g =
          let n : length (take i xs) ≡ i = length-take-le i xs (missing-le m) in
          let w : get_or (put key y xs) i d ≡ y = rw (missing-put y e m) (get_or_at (take i xs) y (drop i xs) d i n) in
          sift-only f d (keyed key k) acts (put key y xs) i z missing-only (rw w g)
          ∙ rw (missing-put y e m) (set_at (take i xs) y (drop i xs) z i n)

  -- ---- the keys go on rising

  above-put : (n : ℕ) (y : A) (xs : List A) → n < key y → above key n xs ≡ true → above key n (put key y xs) ≡ true
  unfolding above put
  above-put n y [] l h = rw (lt-ltb n (key y) l)
  above-put n y (x ∷ xs) l h =
      let b = both (ltb n (key x)) (above key n xs) h in
      split (ltb (key x) (key y)) (λ e. rw (e, b.0) (above-put n y xs l b.1))
      (λ e. rw e (split (eqb (key x) (key y)) (λ q. rw (q, lt-ltb n (key y) l) b.1) (λ q. rw (q, lt-ltb n (key y) l, b.0) b.1)))

  pub rising-put : (y : A) (xs : List A) → rising key xs ≡ true → rising key (put key y xs) ≡ true
  unfolding rising put above
  rising-put y [] r = refl
  rising-put y (x ∷ xs) r =
      let b = both (above key (key x) xs) (rising key xs) r in
      split (ltb (key x) (key y)) (λ e. rw (e, above-put (key x) y xs (ltb-true (key x) (key y) e) b.0) (rising-put y xs b.1))
      (λ e. rw e (split (eqb (key x) (key y))
      (λ q. let s : key x ≡ key y = eqb-true (key x) (key y) q in rw (q, ← s) r)
      (λ q.
      let m : key y ≤ key x = ltb-false (key x) (key y) e in
      let l : key y < key x = ⊎_elim (λ s. absurd (eqb-false (key x) (key y) q (sym s))) (λ s. s) (eq-or-lt_of_le m) in
      rw (q, lt-ltb (key y) (key x) l, above-less key (key y) (key x) xs l b.0) r)))

  -- f leaves each key as it is
  abbrev pub KeepsKeys : (A → Option A) → Type 0
  KeepsKeys f = (x y : A) → f x ≡ some y → key y ≡ key x

  above-sift : (f : A → Option A) → KeepsKeys f → (n : ℕ) (xs : List A) → above key n xs ≡ true → above key n (sift f xs) ≡ true
  unfolding above sift
  above-sift f k n [] h = refl
  above-sift f k n (x ∷ xs) h = each (both (ltb n (key x)) (above key n xs) h).0 (above-sift f k n xs (both (ltb n (key x)) (above key n xs) h).1) (f x) refl
    where
      each : ltb n (key x) ≡ true → above key n (sift f xs) ≡ true → (o : Option A) → f x ≡ o → above key n (kept o (sift f xs)) ≡ true
      each l rest none e = rest
      each l rest (some y) e = rw (k x y e, l) rest

  pub rising-sift : (f : A → Option A) → KeepsKeys f → (xs : List A) → rising key xs ≡ true → rising key (sift f xs) ≡ true
  unfolding rising sift
  rising-sift f k [] r = refl
  rising-sift f k (x ∷ xs) r =
      each (above-sift f k (key x) xs (both (above key (key x) xs) (rising key xs) r).0)
      (rising-sift f k xs (both (above key (key x) xs) (rising key xs) r).1) (f x) refl
    where
      each : above key (key x) (sift f xs) ≡ true → rising key (sift f xs) ≡ true → (o : Option A) → f x ≡ o → rising key (kept o (sift f xs)) ≡ true
      each a rest none e = rest
      each a rest (some y) e = rw (k x y e, a) rest

-- ---- handles

-- an instance's handle as a number
abbrev pub handle_of : Instance → ℕ
handle_of x = x.handle.0

module _ (d : Instance) where
  pub distinct_ne : (xs : List Instance) → handles_distinct xs ≡ true → (i j : ℕ) → i < j → j < length xs → (get_or xs j d).handle.0 ≢ (get_or xs i d).handle.0
  unfolding handles_distinct
  distinct_ne [] h i j l m = absurd (omega arith)
  distinct_ne (x ∷ xs) h i zero l m = absurd (omega arith)
  distinct_ne (x ∷ xs) h zero (suc j) l m =
      eqb-false (get_or xs j d).handle.0 x.handle.0
      (not-true (eqb (get_or xs j d).handle.0 x.handle.0)
      (all-at (other_handle x.handle.0) xs d (both (all (other_handle x.handle.0) xs) (handles_distinct xs) h).0 j (omega arith)))
  distinct_ne (x ∷ xs) h (suc i) (suc j) l m =
      distinct_ne xs (both (all (other_handle x.handle.0) xs) (handles_distinct xs) h).1 i j (omega arith) (omega arith)

  pub pairs_distinct : (xs : List Instance) → ((i j : ℕ) → i < j → j < length xs → (get_or xs j d).handle.0 ≢ (get_or xs i d).handle.0) → handles_distinct xs ≡ true
  unfolding handles_distinct
  pairs_distinct [] h = refl
  pairs_distinct (x ∷ xs) h =
      rw (at_all (other_handle x.handle.0) xs d
      (λ j l. ap not (ne_eqb (get_or xs j d).handle.0 x.handle.0 (h zero (suc j) (omega arith) (omega arith)))))
      (pairs_distinct xs (λ i j l m. h (suc i) (suc j) (omega arith) (omega arith)))

  pub only-handle : (xs : List Instance) → handles_distinct xs ≡ true → (i k : ℕ) → i < length xs → (get_or xs i d).handle.0 ≡ k → Only (keyed handle_of k) xs i d
  only-handle xs h i k l e =
      record {
        within = l;
        here = eq-eqb (get_or xs i d).handle.0 k e;
        elsewhere =
            λ j m n.
            ne_eqb (get_or xs j d).handle.0 k
            (λ q. ⊎_elim (λ a. distinct_ne xs h j i a l (e ∙ sym q))
            (λ a. ⊎_elim (λ s. n (sym s)) (λ s. distinct_ne xs h i j s m (q ∙ sym e)) (eq-or-lt_of_le a)) (lt-or-le j i));
      }
