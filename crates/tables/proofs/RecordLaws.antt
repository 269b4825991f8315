-- From a table's keys to the list of its records, as model defines it.
--     keys_read             the keys are those of the records that are read
--     rising-records        the test that keys rise is model's of the records
--     keyed                 the test that model's lookups make
--     above-less            above a key is above each lesser one
--     put_inserts           a put of a key that would go in is an insert
--     at_lt, find_at, put-at            where a key was found: the place is one, the lookup gives its record, and a put
--                                       replaces it
--     missing-le, find_none, put_in     where it was missing: the lookup gives none, and a put goes in at the place
use mathlib.Core.Path.{◌≡◌, refl, sym, ap, ◌∙◌}
use mathlib.Core.Bool.{Bool, true, false, ◌&&◌, and-false}
use mathlib.Core.List.{List, [], ◌∷◌, ◌++◌, map}
use mathlib.Core.Option.{none, some}
use Prim.Native.Nat.{ℕ, zero, suc, ◌*◌, ◌≤◌, ◌<◌}
use native.Mathlib.Omega.{arith}
use lib.Dec.{eqb, ltb}
use lib.ListN.{length, get_or, set, take, drop, length-map}
use borrow.Author.Tests.{lt-ltb, le-ltb, eq-eqb, ne_eqb, ltb-true}
use Rattle.model.specs.Guids.{num, guid_at}
use Rattle.model.specs.Layout.{read_rows}
use Rattle.model.specs.Tables.{find, put, above, rising as rising_by}
use Rattle.model.proofs.GuidLaws.{guid-part}
use Rattle.model.proofs.RowLaws.{read_last}
use Rattle.model.proofs.Tests.{both}
use Rattle.std.specs.Prelude.{Ok, Err}
use Rattle.tables.specs.Keys.{keys, leads, rising}
use Rattle.tables.specs.Found.{found_in}
use Rattle.tables.proofs.FoundLaws.{StandsAt, InsertsAt, found_at, found_missing}

map_snoc : {A : Type 0} (f : A → ℕ) (xs : List A) (x : A) → map f (xs ++ x ∷ []) ≡ map f xs ++ f x ∷ []
map_snoc f [] x = refl
map_snoc f (y ∷ xs) x = ap (λ (l : List ℕ). f y ∷ l) (map_snoc f xs x)

module _ {A : Type 0} (record_of : List ℕ → A) (size : ℕ) where
  pub keys_read : (key : A → ℕ) → ((r : List ℕ) → key (record_of r) ≡ num (guid_at r 0)) → 16 ≤ size → (n : ℕ) (t : List ℕ) →
      keys size n t ≡ map key (read_rows record_of size n t)
  unfolding keys read_rows
  keys_read key k h zero t = refl
  keys_read key k h (suc n) t =
      let r : List ℕ = take size (drop (n * size) t) in
      let last : key (record_of r) ≡ num (guid_at t (n * size)) = k r ∙ ap num (guid-part size (n * size) t h) in
      let more : keys size n t ++ num (guid_at t (n * size)) ∷ [] ≡ map key (read_rows record_of size n t) ++ key (record_of r) ∷ [] =
      rw (keys_read key k h n t, last) in
      more ∙ sym (ap (map key) (read_last record_of size n t) ∙ map_snoc key (read_rows record_of size n t) (record_of r))

-- one test stands behind two others
behind-both : (a b c d : Bool) → (a ≡ true → c ≡ true → b ≡ true) → (a && (c && d)) ≡ ((a && b) && (c && d))
behind-both true b true d h = rw (h refl refl)
behind-both true b false d h = sym (and-false b)
behind-both false b c d h = refl

stands_tail : (x : ℕ) (ks : List ℕ) (k i : ℕ) → StandsAt (x ∷ ks) k (suc i) → StandsAt ks k i
stands_tail x ks k i s =
    record { within = omega (arith, s.within); before = λ j l. s.before (suc j) (omega arith); here = s.here }

inserts_tail : (x : ℕ) (ks : List ℕ) (k i : ℕ) → InsertsAt (x ∷ ks) k (suc i) → InsertsAt ks k i
inserts_tail x ks k i s =
    record {
      within = omega (arith, s.within);
      before = λ j l. s.before (suc j) (omega arith);
      behind = λ j l m. s.behind (suc j) (omega arith) (omega arith);
    }

inserts_first : (x : ℕ) (ks : List ℕ) (k : ℕ) → InsertsAt (x ∷ ks) k zero → InsertsAt ks k zero
inserts_first x ks k s =
    record {
      within = omega arith;
      before = λ j l. absurd (omega arith);
      behind = λ j l m. s.behind (suc j) (omega arith) (omega arith);
    }

module _ {A : Type 0} (key : A → ℕ) where
  -- the record's key is k
  abbrev pub keyed : ℕ → A → Bool
  keyed k x = eqb (key x) k

  pub above-less : (k l : ℕ) (xs : List A) → k < l → above key l xs ≡ true → above key k xs ≡ true
  unfolding above
  above-less k l [] h a = refl
  above-less k l (x ∷ xs) h a =
      let b = both (ltb l (key x)) (above key l xs) a in
      rw (lt-ltb k (key x) (omega (arith, ltb-true l (key x) b.0))) (above-less k l xs h b.1)

  pub rising-records : (xs : List A) → rising (map key xs) ≡ rising_by key xs
  unfolding rising leads rising_by above
  rising-records [] = refl
  rising-records (x ∷ []) = refl
  rising-records (x ∷ y ∷ xs) =
      ap (λ (b : Bool). ltb (key x) (key y) && b) (rising-records (y ∷ xs))
      ∙ behind-both (ltb (key x) (key y)) (above key (key x) xs) (above key (key y) xs) (rising_by key xs)
      (λ p q. above-less (key x) (key y) xs (ltb-true (key x) (key y) p) q)

  find-stands : (xs : List A) (k i : ℕ) (d : A) → StandsAt (map key xs) k i → find (keyed k) xs ≡ some (get_or xs i d)
  unfolding find
  find-stands [] k i d s = absurd (omega (arith, s.within))
  find-stands (x ∷ xs) k zero d s = rw (eq-eqb (key x) k s.here)
  find-stands (x ∷ xs) k (suc i) d s =
      rw (ne_eqb (key x) k (λ e. omega (arith, s.before zero (omega arith)))) (find-stands xs k i d (stands_tail (key x) (map key xs) k i s))

  put-stands : (xs : List A) (y : A) (i : ℕ) → StandsAt (map key xs) (key y) i → put key y xs ≡ set xs i y
  unfolding put
  put-stands [] y i s = absurd (omega (arith, s.within))
  put-stands (x ∷ xs) y zero s = rw (le-ltb (key x) (key y) (omega (arith, s.here)), eq-eqb (key x) (key y) s.here)
  put-stands (x ∷ xs) y (suc i) s =
      rw (lt-ltb (key x) (key y) (s.before zero (omega arith)))
      (ap (λ (l : List A). x ∷ l) (put-stands xs y i (stands_tail (key x) (map key xs) (key y) i s)))

  find_inserts : (xs : List A) (k i : ℕ) → InsertsAt (map key xs) k i → find (keyed k) xs ≡ none
  unfolding find
  find_inserts [] k i s = refl
  find_inserts (x ∷ xs) k zero s =
      rw (ne_eqb (key x) k (λ e. omega (arith, s.behind zero (omega arith) (omega arith)))) (find_inserts xs k zero (inserts_first (key x) (map key xs) k s))
  find_inserts (x ∷ xs) k (suc i) s =
      rw (ne_eqb (key x) k (λ e. omega (arith, s.before zero (omega arith)))) (find_inserts xs k i (inserts_tail (key x) (map key xs) k i s))

  pub put_inserts : (xs : List A) (y : A) (i : ℕ) → InsertsAt (map key xs) (key y) i → put key y xs ≡ take i xs ++ y ∷ drop i xs
  unfolding put
  put_inserts [] y zero s = refl
  put_inserts [] y (suc i) s = absurd (omega (arith, s.within))
  put_inserts (x ∷ xs) y zero s =
      let h : key y < key x = s.behind zero (omega arith) (omega arith) in
      rw (le-ltb (key x) (key y) (omega arith), ne_eqb (key x) (key y) (λ e. omega arith))
  put_inserts (x ∷ xs) y (suc i) s =
      rw (lt-ltb (key x) (key y) (s.before zero (omega arith)))
      (ap (λ (l : List A). x ∷ l) (put_inserts xs y i (inserts_tail (key x) (map key xs) (key y) i s)))

  -- where a key was found
  module _ (xs : List A) (k i : ℕ) (f : found_in (map key xs) k ≡ Ok i) where
    pub at_lt : i < length xs
    at_lt = omega (arith, (found_at (map key xs) k i f).within, length-map xs key)

    pub find_at : (d : A) → find (keyed k) xs ≡ some (get_or xs i d)
    find_at d = find-stands xs k i d (found_at (map key xs) k i f)

    pub put-at : (y : A) → key y ≡ k → put key y xs ≡ set xs i y
    put-at y e = put-stands xs y i (rw e (found_at (map key xs) k i f))

  -- where it was missing
  module _ (xs : List A) (k i : ℕ) (r : rising_by key xs ≡ true) (f : found_in (map key xs) k ≡ Err i) where
    place : InsertsAt (map key xs) k i
    place = found_missing (map key xs) k i (rising-records xs ∙ r) f

    pub missing-le : i ≤ length xs
    missing-le = omega (arith, place.within, length-map xs key)

    pub find_none : find (keyed k) xs ≡ none
    find_none = find_inserts xs k i place

    pub put_in : (y : A) → key y ≡ k → put key y xs ≡ take i xs ++ y ∷ drop i xs
    put_in y e = put_inserts xs y i (rw e place)
