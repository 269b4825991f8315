-- A pass over a table in place: record i is read, taken through f, and what is left of it is written behind the survivors.
--     survivors, midway                                the list between two turns
--     survivors_le, survivors_keep, survivors_drop     how many there are
--     midway_start, midway_end                         the list before the pass, and after it
--     length_midway                                    as long as it was
--     midway_get                                       record i is as it was
--     midway_keep, midway_drop            a turn: what is left is written; nothing is left; nothing changes
--     survivors_all, midway_turned        every record is kept: the first i are turned
use Prim.Native.Nat.{ℕ, suc, ◌+◌, ◌-◌, ◌≤◌, ◌<◌}
use mathlib.Core.List.{List, [], ◌∷◌, ◌++◌, append-nil, map}
use mathlib.Core.Option.{Option, none, some}
use mathlib.Core.Path.{◌≡◌, refl, sym, ap, ◌∙◌}
use native.Mathlib.Numerals.{add-one}
use native.Mathlib.Omega.{arith}
use lib.ListN.{length, get_or, take, drop, set, length-append, length-drop, length-map}
use lib.Seq.{take-length, take-append_seam, drop-cons, length-take-le, get_or-append-add, get_or-drop, set-append_seam, append_snoc}
use Rattle.model.specs.Tables.{sift}
use Rattle.tables.proofs.Sifts.{sift-map, sift-take}
use Rattle.model.proofs.TableLaws.{length-sift}

module _ {A : Type 0} where
  -- how many of the first i records survive f
  abbrev pub survivors : (A → Option A) → List A → ℕ → ℕ
  survivors f xs i = length (sift f (take i xs))

  -- a pass midway: what f left of the first i records, and behind it the records as they were
  unfoldable pub midway : (A → Option A) → List A → ℕ → List A
  midway f xs i = sift f (take i xs) ++ drop (survivors f xs i) xs

module _ {A : Type 0} (f : A → Option A) (xs : List A) where
  pub survivors_le : (i : ℕ) → i ≤ length xs → survivors f xs i ≤ i
  survivors_le i h = omega (arith, length-sift f (take i xs), length-take-le i xs h)

  pub midway_start : midway f xs 0 ≡ xs
  unfolding midway sift
  midway_start = refl

  pub length_midway : (i : ℕ) → i ≤ length xs → length (midway f xs i) ≡ length xs
  unfolding midway
  length_midway i h =
      omega (arith, length-append (sift f (take i xs)) (drop (survivors f xs i) xs), length-drop (survivors f xs i) xs, survivors_le i h)

  pub midway_get : (i : ℕ) (d : A) → i ≤ length xs → get_or (midway f xs i) i d ≡ get_or xs i d
  unfolding midway
  midway_get i d h =
      let k : ℕ = survivors f xs i in
      let e : k + (i - k) ≡ i = omega (arith, survivors_le i h) in
      ap (λ (n : ℕ). get_or (sift f (take i xs) ++ drop k xs) n d) (sym e)
      ∙ get_or-append-add (sift f (take i xs)) (drop k xs) (i - k) d ∙ get_or-drop k xs (i - k) d ∙ ap (λ (n : ℕ). get_or xs n d) e

  pub midway_end : take (length (sift f xs)) (midway f xs (length xs)) ≡ sift f xs
  unfolding midway
  midway_end = rw (take-length xs) (take-append_seam (sift f xs) (drop (length (sift f xs)) xs))

  module _ (i : ℕ) (d : A) (h : i < length xs) where
    -- ---- nothing is left

    module _ (e : f (get_or xs i d) ≡ none) where
      no_more : sift f (take (i + 1) xs) ≡ sift f (take i xs)
      no_more = sift-take f xs i d h ∙ rw e (append-nil (sift f (take i xs)))

      pub survivors_drop : survivors f xs (i + 1) ≡ survivors f xs i
      survivors_drop = ap length no_more

      pub midway_drop : midway f xs (i + 1) ≡ midway f xs i
      unfolding midway
      midway_drop = rw no_more

    -- ---- y is left

    module _ (y : A) (e : f (get_or xs i d) ≡ some y) where
      one_more : sift f (take (i + 1) xs) ≡ sift f (take i xs) ++ y ∷ []
      one_more = sift-take f xs i d h ∙ rw e

      pub survivors_keep : survivors f xs (i + 1) ≡ survivors f xs i + 1
      survivors_keep = ap length one_more ∙ length-append (sift f (take i xs)) (y ∷ [])

      pub midway_keep : set (midway f xs i) (survivors f xs i) y ≡ midway f xs (i + 1)
      unfolding midway
      midway_keep =
          let k : ℕ = survivors f xs i in
          let s : List A = sift f (take i xs) in
          let l : k < length xs = omega (arith, survivors_le i (omega arith)) in
          let p : set (s ++ drop k xs) k y ≡ s ++ y ∷ drop (suc k) xs =
          ap (λ (b : List A). set (s ++ b) k y) (drop-cons xs k d l) ∙ set-append_seam s (get_or xs k d) (drop (suc k) xs) y in
          let q : length (s ++ y ∷ []) ≡ suc k = length-append s (y ∷ []) ∙ add-one k in
          p ∙ sym (rw (one_more, q) (append_snoc s y (drop (suc k) xs)))

-- ---- every record is kept, turned by g

module _ {A : Type 0} (g : A → A) (xs : List A) (i : ℕ) (h : i ≤ length xs) where
  pub survivors_all : survivors (λ (x : A). some (g x)) xs i ≡ i
  survivors_all = ap length (sift-map g (take i xs)) ∙ length-map (take i xs) g ∙ length-take-le i xs h

  pub midway_turned : midway (λ (x : A). some (g x)) xs i ≡ map g (take i xs) ++ drop i xs
  unfolding midway
  midway_turned = ap (λ (n : ℕ). sift (λ (x : A). some (g x)) (take i xs) ++ drop n xs) survivors_all ∙ ap (λ (l : List A). l ++ drop i xs) (sift-map g (take i xs))
