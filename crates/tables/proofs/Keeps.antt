-- What a turn keeps of the instances.
--     all-sift, all-put, all_weaken     a test that holds of every record still does
--     distinct_sift, distinct_put       handles stay distinct
use Prim.Native.Nat.{ℕ}
use mathlib.Core.Bool.{Bool, true, not}
use mathlib.Core.List.{List, [], ◌∷◌}
use mathlib.Core.Option.{Option, none, some}
use mathlib.Core.Path.{◌≡◌, refl, sym, ap}
use borrow.Author.Tests.{ne_eqb, eqb-false, not-true}
use lib.Dec.{eqb, ltb}
use Rattle.model.specs.declared.Instance.{Instance}
use Rattle.model.specs.Tables.{all, put, sift, kept}
use Rattle.model.specs.WellFormed.{other_handle, handles_distinct}
use Rattle.model.proofs.Tests.{both, split}

-- ---- a test of every record

module _ {A : Type 0} (p : A → Bool) where
  pub all-sift : (f : A → Option A) → ((x y : A) → p x ≡ true → f x ≡ some y → p y ≡ true) → (xs : List A) → all p xs ≡ true → all p (sift f xs) ≡ true
  unfolding all sift
  all-sift f k [] h = refl
  all-sift f k (x ∷ xs) h = each (both (p x) (all p xs) h).0 (all-sift f k xs (both (p x) (all p xs) h).1) (f x) refl
    where
      each : p x ≡ true → all p (sift f xs) ≡ true → (o : Option A) → f x ≡ o → all p (kept o (sift f xs)) ≡ true
      each a rest none e = rest
      each a rest (some y) e = rw (k x y a e) rest

  pub all-put : (key : A → ℕ) (y : A) (xs : List A) → p y ≡ true → all p xs ≡ true → all p (put key y xs) ≡ true
  unfolding all put
  all-put key y [] a h = rw a
  all-put key y (x ∷ xs) a h =
      let b = both (p x) (all p xs) h in
      split (ltb (key x) (key y)) (λ e. rw (e, b.0) (all-put key y xs a b.1))
      (λ e. rw e (split (eqb (key x) (key y)) (λ q. rw (q, a) b.1) (λ q. rw (q, a, b.0) b.1)))

  -- another test that holds where p does
  pub all_weaken : (q : A → Bool) → ((x : A) → p x ≡ true → q x ≡ true) → (xs : List A) → all p xs ≡ true → all q xs ≡ true
  unfolding all
  all_weaken q k [] h = refl
  all_weaken q k (x ∷ xs) h = let b = both (p x) (all p xs) h in rw (k x b.0) (all_weaken q k xs b.1)

-- ---- handles

-- f leaves each handle as it is
abbrev pub KeepsHandles : (Instance → Option Instance) → Type 0
KeepsHandles f = (x y : Instance) → f x ≡ some y → y.handle.0 ≡ x.handle.0

-- of two instances each has a handle other than the other's
other_sym : (x y : Instance) → other_handle y.handle.0 x ≡ true → other_handle x.handle.0 y ≡ true
other_sym x y h =
    ap not (ne_eqb y.handle.0 x.handle.0 (λ e. eqb-false x.handle.0 y.handle.0 (not-true (eqb x.handle.0 y.handle.0) h) (sym e)))

pub distinct_sift : (f : Instance → Option Instance) → KeepsHandles f → (xs : List Instance) → handles_distinct xs ≡ true → handles_distinct (sift f xs) ≡ true
unfolding handles_distinct sift
distinct_sift f k [] h = refl
distinct_sift f k (x ∷ xs) h =
    let b = both (all (other_handle x.handle.0) xs) (handles_distinct xs) h in
    each (all-sift (other_handle x.handle.0) f (λ a z t e. rw (k a z e) t) xs b.0) (distinct_sift f k xs b.1) (f x) refl
  where
    each : all (other_handle x.handle.0) (sift f xs) ≡ true → handles_distinct (sift f xs) ≡ true → (o : Option Instance) → f x ≡ o → handles_distinct (kept o (sift f xs)) ≡ true
    each a rest none e = rest
    each a rest (some y) e = rw (k x y e, a) rest

pub distinct_put : (key : Instance → ℕ) (y : Instance) (xs : List Instance) → all (other_handle y.handle.0) xs ≡ true → handles_distinct xs ≡ true → handles_distinct (put key y xs) ≡ true
unfolding handles_distinct put all
distinct_put key y [] o h = refl
distinct_put key y (x ∷ xs) o h =
    let a = both (other_handle y.handle.0 x) (all (other_handle y.handle.0) xs) o in
    let b = both (all (other_handle x.handle.0) xs) (handles_distinct xs) h in
    split (ltb (key x) (key y))
    (λ e. rw (e, all-put (other_handle x.handle.0) key y xs (other_sym x y a.0) b.0) (distinct_put key y xs a.1 b.1))
    (λ e. rw e (split (eqb (key x) (key y)) (λ q. rw (q, a.1) b.1) (λ q. rw (q, a.0, a.1, b.0) b.1)))
