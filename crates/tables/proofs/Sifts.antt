-- Each record taken through a function of its own.
--     sift-append                 two parts
--     sift-take                   the survivors, a record more
--     sift-map                    each is kept, and turned
--     sift-same, sift-nowhere     nothing changes
--     sift-set, sift-only         one record changes: `set`
--     sift_cut                    one record is taken out
use Prim.Native.Nat.{ℕ, zero, suc, ◌+◌, ◌<◌}
use mathlib.Core.Bool.{Bool, false}
use mathlib.Core.List.{List, [], ◌∷◌, ◌++◌, map}
use mathlib.Core.Logic.{◌≢◌}
use mathlib.Core.Option.{Option, none, some}
use mathlib.Core.Path.{◌≡◌, refl, ap}
use native.Mathlib.Numerals.{add-one}
use native.Mathlib.Omega.{arith}
use lib.ListN.{length, get_or, take, drop, set}
use lib.Seq.{take-suc}
use Rattle.model.specs.Tables.{sift, kept}
use Rattle.tables.specs.Places.{Only, Nowhere}

module _ {A : Type 0} where
  -- one record in front
  kept_append : (o : Option A) (xs ys : List A) → kept o (xs ++ ys) ≡ kept o xs ++ ys
  kept_append none xs ys = refl
  kept_append (some x) xs ys = refl

  pub sift-map : (g : A → A) (xs : List A) → sift (λ (x : A). some (g x)) xs ≡ map g xs
  unfolding sift
  sift-map g [] = refl
  sift-map g (x ∷ xs) = ap (λ (l : List A). g x ∷ l) (sift-map g xs)

  module _ (f : A → Option A) where
    pub sift-append : (xs ys : List A) → sift f (xs ++ ys) ≡ sift f xs ++ sift f ys
    unfolding sift
    sift-append [] ys = refl
    sift-append (x ∷ xs) ys = rw (sift-append xs ys) (kept_append (f x) (sift f xs) (sift f ys))

    pub sift-take : (xs : List A) (i : ℕ) (d : A) → i < length xs → sift f (take (i + 1) xs) ≡ sift f (take i xs) ++ kept (f (get_or xs i d)) []
    unfolding sift
    sift-take xs i d h = rw (add-one, take-suc xs i d h) (sift-append (take i xs) (get_or xs i d ∷ []))

    -- ---- one record changes, or none

    module _ (d : A) where
      pub sift-same : (xs : List A) → ((j : ℕ) → j < length xs → f (get_or xs j d) ≡ some (get_or xs j d)) → sift f xs ≡ xs
      unfolding sift
      sift-same [] h = refl
      sift-same (x ∷ xs) h = rw (h zero (omega arith)) (ap (λ (l : List A). x ∷ l) (sift-same xs (λ j l. h (suc j) (omega arith))))

      -- f keeps every record but the one at i
      abbrev pub KeepsBut : List A → ℕ → Type 0
      KeepsBut xs i = (j : ℕ) → j < length xs → j ≢ i → f (get_or xs j d) ≡ some (get_or xs j d)

      -- f keeps the records behind the first
      keeps_behind : (x : A) (xs : List A) → KeepsBut (x ∷ xs) zero → (j : ℕ) → j < length xs → f (get_or xs j d) ≡ some (get_or xs j d)
      keeps_behind x xs k j l = k (suc j) (omega arith) (λ e. omega arith)

      -- all of them but one
      keeps_rest : (x : A) (xs : List A) (i : ℕ) → KeepsBut (x ∷ xs) (suc i) → KeepsBut xs i
      keeps_rest x xs i k j l n = k (suc j) (omega arith) (λ e. n (omega arith))

      pub sift-set : (xs : List A) (i : ℕ) (y : A) → i < length xs → f (get_or xs i d) ≡ some y → KeepsBut xs i → sift f xs ≡ set xs i y
      unfolding sift
      sift-set [] i y l e k = absurd (omega arith)
      sift-set (x ∷ xs) zero y l e k = rw e (ap (λ (l : List A). y ∷ l) (sift-same xs (keeps_behind x xs k)))
      sift-set (x ∷ xs) (suc i) y l e k =
          rw (k zero (omega arith) (λ q. omega arith)) (ap (λ (l : List A). x ∷ l) (sift-set xs i y (omega arith) e (keeps_rest x xs i k)))

      pub sift_cut : (xs : List A) (i : ℕ) → i < length xs → f (get_or xs i d) ≡ none → KeepsBut xs i → sift f xs ≡ take i xs ++ drop (suc i) xs
      unfolding sift
      sift_cut [] i l e k = absurd (omega arith)
      sift_cut (x ∷ xs) zero l e k = rw e (sift-same xs (keeps_behind x xs k))
      sift_cut (x ∷ xs) (suc i) l e k =
          rw (k zero (omega arith) (λ q. omega arith)) (ap (λ (l : List A). x ∷ l) (sift_cut xs i (omega arith) e (keeps_rest x xs i k)))

      -- ---- f acts where p holds

      module _ (p : A → Bool) (acts : (x : A) → p x ≡ false → f x ≡ some x) where
        pub sift-nowhere : (xs : List A) → Nowhere p xs d → sift f xs ≡ xs
        sift-nowhere xs n = sift-same xs (λ j l. acts (get_or xs j d) (n j l))

        keeps_only : (xs : List A) (i : ℕ) → Only p xs i d → KeepsBut xs i
        keeps_only xs i o j l n = acts (get_or xs j d) (o.elsewhere j l n)

        pub sift-only : (xs : List A) (i : ℕ) (y : A) → Only p xs i d → f (get_or xs i d) ≡ some y → sift f xs ≡ set xs i y
        sift-only xs i y o e = sift-set xs i y o.within e (keeps_only xs i o)

    -- ---- what f keeps

    -- P holds of what f leaves of a record of which Q holds
    abbrev pub Preserves : (A → Type 0) → (A → Type 0) → Type 0
    Preserves Q P = (x y : A) → Q x → f x ≡ some y → P y
