-- What is found, picked and tested in a list, by the places of its records.
--     all-at, at_all, all_append                  a test of every record
--     nowhere-any                                 where `any` is false p holds of none
--     find-nowhere, any-nowhere, pick-nowhere     where p holds of none
--     find-only, any-only, onlier                 where it holds of one record alone
--     any-find                                    something is found where p holds of some
--     pick-append, pick-take, pick_more           pick, a record more
--     place_le, place_before, place_at            what `place_of` is
--     place_unique, find_place, noplace           no other place is so; what is found is there
--     only-insert, only_set, find-set             p holds of a record put in, or replaced, alone
use Prim.Native.Nat.{ℕ, zero, suc, ◌+◌, ◌-◌, ◌≤◌, ◌<◌}
use mathlib.Core.Bool.{Bool, true, false, ◌&&◌, cond, and_assoc}
use mathlib.Core.List.{List, [], ◌∷◌, ◌++◌}
use mathlib.Core.Logic.{◌≢◌, ⊎_elim}
use mathlib.Core.Option.{none, some}
use mathlib.Core.Path.{◌≡◌, refl, sym, ap, ◌∙◌}
use native.Mathlib.Nat.{eq-or-lt_of_le}
use native.Mathlib.Numerals.{add-one}
use native.Mathlib.Omega.{arith}
use lib.ListN.{length, get_or, take, drop, length-append, length-drop, get_or-append, set, length-set}
use lib.Seq.{get_or-set_same, get_or-set_other, take-suc, get_or_at, length-take-le, get_or-take, get_or-drop, get_or-append-add}
use Rattle.model.specs.Tables.{is_some, find, pick, all, any}
use Rattle.model.proofs.Tests.{both, split, clash, lt-or-le}
use Rattle.tables.specs.Places.{place_of, Only, Nowhere}

module _ {A : Type 0} (p : A → Bool) where
  -- ---- a test of every record

  pub all-at : (xs : List A) (d : A) → all p xs ≡ true → (i : ℕ) → i < length xs → p (get_or xs i d) ≡ true
  unfolding all
  all-at [] d h i l = absurd (omega arith)
  all-at (x ∷ xs) d h zero l = (both (p x) (all p xs) h).0
  all-at (x ∷ xs) d h (suc i) l = all-at xs d (both (p x) (all p xs) h).1 i (omega arith)

  pub at_all : (xs : List A) (d : A) → ((i : ℕ) → i < length xs → p (get_or xs i d) ≡ true) → all p xs ≡ true
  unfolding all
  at_all [] d h = refl
  at_all (x ∷ xs) d h = rw (h zero (omega arith)) (at_all xs d (λ i l. h (suc i) (omega arith)))

  pub all_append : (xs ys : List A) → all p (xs ++ ys) ≡ (all p xs && all p ys)
  unfolding all
  all_append [] ys = refl
  all_append (x ∷ xs) ys = rw (all_append xs ys) (sym (and_assoc (p x) (all p xs) (all p ys)))

  -- ---- of no record

  pub nowhere-any : (xs : List A) (d : A) → any p xs ≡ false → Nowhere p xs d
  unfolding any
  nowhere-any [] d h = λ j l. absurd (omega arith)
  nowhere-any (x ∷ xs) d h =
      split (p x) (λ e. clash true refl (rw e at h)) (λ e. each e (nowhere-any xs d (rw e at h)))
    where
      each : p x ≡ false → Nowhere p xs d → Nowhere p (x ∷ xs) d
      each e n zero l = e
      each e n (suc j) l = n j (omega arith)

  module _ (d : A) where
    pub any-nowhere : (xs : List A) → Nowhere p xs d → any p xs ≡ false
    unfolding any
    any-nowhere [] h = refl
    any-nowhere (x ∷ xs) h = rw (h zero (omega arith)) (any-nowhere xs (λ j l. h (suc j) (omega arith)))

    pub find-nowhere : (xs : List A) → Nowhere p xs d → find p xs ≡ none
    unfolding find
    find-nowhere [] h = refl
    find-nowhere (x ∷ xs) h = rw (h zero (omega arith)) (find-nowhere xs (λ j l. h (suc j) (omega arith)))

    pub pick-nowhere : (xs : List A) → Nowhere p xs d → pick p xs ≡ []
    unfolding pick
    pick-nowhere [] h = refl
    pick-nowhere (x ∷ xs) h = rw (h zero (omega arith)) (pick-nowhere xs (λ j l. h (suc j) (omega arith)))

    -- ---- of one record alone

    -- and of one of those behind it, where it is not
    pub onlier : (x : A) (xs : List A) (i : ℕ) → Only p (x ∷ xs) (suc i) d → Only p xs i d
    onlier x xs i o =
        record {
          within = omega (arith, o.within);
          here = o.here;
          elsewhere = λ j l n. o.elsewhere (suc j) (omega arith) (λ e. n (omega arith));
        }

    pub find-only : (xs : List A) (i : ℕ) → Only p xs i d → find p xs ≡ some (get_or xs i d)
    unfolding find
    find-only [] i o = absurd (omega (arith, o.within))
    find-only (x ∷ xs) zero o = rw o.here
    find-only (x ∷ xs) (suc i) o = rw (o.elsewhere zero (omega arith) (λ e. omega arith)) (find-only xs i (onlier x xs i o))

  pub any-find : (xs : List A) → any p xs ≡ is_some (find p xs)
  unfolding any find
  any-find [] = refl
  any-find (x ∷ xs) = split (p x) (λ e. rw e) (λ e. rw e (any-find xs))

  pub any-only : (d : A) (xs : List A) (i : ℕ) → Only p xs i d → any p xs ≡ true
  any-only d xs i o = any-find xs ∙ ap is_some (find-only d xs i o)

  -- ---- pick, a record more

  pub pick-append : (xs ys : List A) → pick p (xs ++ ys) ≡ pick p xs ++ pick p ys
  unfolding pick
  pick-append [] ys = refl
  pick-append (x ∷ xs) ys =
      split (p x) (λ e. rw e (ap (λ (l : List A). x ∷ l) (pick-append xs ys))) (λ e. rw e (pick-append xs ys))

  pub pick-take : (xs : List A) (i : ℕ) (d : A) → i < length xs →
      pick p (take (i + 1) xs) ≡ pick p (take i xs) ++ cond (p (get_or xs i d)) (get_or xs i d ∷ []) []
  unfolding pick
  pick-take xs i d h = rw (add-one, take-suc xs i d h) (pick-append (take i xs) (get_or xs i d ∷ []))

  -- how many
  pub pick_more : (xs : List A) (i : ℕ) (d : A) → i < length xs →
      length (pick p (take (i + 1) xs)) ≡ length (pick p (take i xs)) + cond (p (get_or xs i d)) 1 0
  pick_more xs i d h =
      ap length (pick-take xs i d h) ∙ length-append (pick p (take i xs)) (cond (p (get_or xs i d)) (get_or xs i d ∷ []) [])
      ∙ each (p (get_or xs i d))
    where
      each : (b : Bool) → length (pick p (take i xs)) + length (cond b (get_or xs i d ∷ []) []) ≡ length (pick p (take i xs)) + cond b 1 0
      each true = refl
      each false = refl

  -- ---- the place of the first

  pub place_le : (xs : List A) → place_of p xs ≤ length xs
  unfolding place_of
  place_le [] = omega arith
  place_le (x ∷ xs) = split (p x) (λ e. rw e (omega arith)) (λ e. rw e (omega (arith, place_le xs)))

  pub place_unique : (xs : List A) (d : A) (i : ℕ) → i ≤ length xs → ((j : ℕ) → j < i → p (get_or xs j d) ≡ false) →
      (i < length xs → p (get_or xs i d) ≡ true) → place_of p xs ≡ i
  unfolding place_of
  place_unique [] d zero l b h = refl
  place_unique [] d (suc i) l b h = absurd (omega arith)
  place_unique (x ∷ xs) d zero l b h = rw (h (omega arith))
  place_unique (x ∷ xs) d (suc i) l b h =
      rw (b zero (omega arith))
      (ap suc (place_unique xs d i (omega arith) (λ j m. b (suc j) (omega arith)) (λ m. h (omega arith))))

  pub place_before : (xs : List A) (d : A) (j : ℕ) → j < place_of p xs → p (get_or xs j d) ≡ false
  unfolding place_of
  place_before [] d = λ j l. absurd (omega arith)
  place_before (x ∷ xs) d = split (p x) (λ e. rw e (λ j l. absurd (omega arith))) (λ e. rw e (each e (place_before xs d)))
    where
      each : p x ≡ false → ((j : ℕ) → j < place_of p xs → p (get_or xs j d) ≡ false) → (j : ℕ) → j < suc (place_of p xs) → p (get_or (x ∷ xs) j d) ≡ false
      each e b zero l = e
      each e b (suc j) l = b j (omega arith)

  pub place_at : (xs : List A) (d : A) → place_of p xs < length xs → p (get_or xs (place_of p xs) d) ≡ true
  unfolding place_of
  place_at [] d = λ h. absurd (omega arith)
  place_at (x ∷ xs) d = split (p x) (λ e. rw e (λ h. e)) (λ e. rw e (λ h. place_at xs d (omega arith)))

  pub find_place : (xs : List A) (d : A) → place_of p xs < length xs → find p xs ≡ some (get_or xs (place_of p xs) d)
  unfolding place_of find
  find_place [] d = λ h. absurd (omega arith)
  find_place (x ∷ xs) d = split (p x) (λ e. rw e (λ h. refl)) (λ e. rw e (λ h. find_place xs d (omega arith)))

  pub noplace : (xs : List A) (d : A) → length xs ≤ place_of p xs → Nowhere p xs d
  noplace xs d h j l = place_before xs d j (omega arith)

  -- p holds of y alone, where y stands between records of which it does not hold
  pub only-insert : (xs : List A) (y d : A) (i : ℕ) → i ≤ length xs → Nowhere p xs d → p y ≡ true → Only p (take i xs ++ y ∷ drop i xs) i d
  only-insert xs y d i l n h =
      record {
        within = omega (arith, length-append (take i xs) (y ∷ drop i xs), length-take-le i xs l);
        here = rw (get_or_at (take i xs) y (drop i xs) d i (length-take-le i xs l)) h;
        elsewhere = λ j m e. ⊎_elim (before j) (from j m e) (lt-or-le j i);
      }
    where
      before : (j : ℕ) → j < i → p (get_or (take i xs ++ y ∷ drop i xs) j d) ≡ false
      before j m =
          rw (get_or-append (take i xs) (y ∷ drop i xs) d j (omega (arith, length-take-le i xs l)), get_or-take i xs j d m) (n j (omega arith))

      i_lt : (j : ℕ) → j ≢ i → i ≤ j → i < j
      i_lt j e k = ⊎_elim (λ q. absurd (e (sym q))) (λ q. q) (eq-or-lt_of_le k)

      from : (j : ℕ) → j < length (take i xs ++ y ∷ drop i xs) → j ≢ i → i ≤ j → p (get_or (take i xs ++ y ∷ drop i xs) j d) ≡ false
      from j m e k =
          let b : ℕ = j - suc i in
          let q : length (take i xs) + suc b ≡ j = omega (arith, length-take-le i xs l, i_lt j e k) in
          let o : get_or (take i xs ++ y ∷ drop i xs) j d ≡ get_or xs (i + b) d =
          ap (λ (n : ℕ). get_or (take i xs ++ y ∷ drop i xs) n d) (sym q)
          ∙ get_or-append-add (take i xs) (y ∷ drop i xs) (suc b) d ∙ get_or-drop i xs b d in
          rw o (n (i + b) (omega (arith, length-append (take i xs) (y ∷ drop i xs), length-take-le i xs l, length-drop i xs, i_lt j e k)))

  -- the record of which p holds alone, replaced by one of which it holds too
  pub only_set : (xs : List A) (y d : A) (i : ℕ) → Only p xs i d → p y ≡ true → Only p (set xs i y) i d
  only_set xs y d i o h =
      record {
        within = omega (arith, length-set xs i y, o.within);
        here = rw (get_or-set_same xs i y d o.within) h;
        elsewhere = λ j l n. rw (get_or-set_other xs i j y d n) (o.elsewhere j (omega (arith, length-set xs i y)) n);
      }

  pub find-set : (xs : List A) (y d : A) (i : ℕ) → Only p xs i d → p y ≡ true → find p (set xs i y) ≡ some y
  find-set xs y d i o h = find-only d (set xs i y) i (only_set xs y d i o h) ∙ ap some (get_or-set_same xs i y d o.within)
