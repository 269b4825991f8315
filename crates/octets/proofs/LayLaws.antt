-- Laws of `rows`, `lay` and `All`, for records that `row` gives as `size` bytes where P holds.
--     all_append, all_left, all_right, all_take, all_drop, all-get, all_set
--     rows_append, length-rows, length-lay, lay-append
--     lay_read              a record is read at its place
--     lay-set               a write at a place is a `set`
--     lay_open              a gap opened and written over is an insert
--     lay_close             a record's place closed, and the last one cleared, is the list without it
--     lay_clear             places cleared at the end are a shorter list
use Prim.Native.Nat.{ℕ, zero, suc, ◌+◌, ◌-◌, ◌*◌, ◌≤◌, ◌<◌}
use mathlib.Core.Path.{◌≡◌, refl, sym, ap, ◌∙◌}
use mathlib.Core.List.{List, [], ◌∷◌, ◌++◌, append_assoc}
use native.Mathlib.Nat.{suc-mul, add-mul}
use native.Mathlib.Omega.{arith}
use lib.ListN.{length, take, drop, get_or, set, replicate, length-append, length-replicate, take-append-drop, replicate-append-replicate}
use lib.Seq.{take_at, drop_at, split_at, set_split, length-take-le, paste}
use Rattle.octets.specs.Lay.{rows, lay, All}
use Rattle.octets.specs.Patch.{patch}
use Rattle.octets.proofs.PatchLaws.{patch-at, paste_up, paste_down}

module _ {A : Type 0} where
  module _ (P : A → Type 0) where
    pub all_append : (xs ys : List A) → All P xs → All P ys → All P (xs ++ ys)
    all_append [] ys h k = k
    all_append (x ∷ xs) ys h k = (h.0, all_append xs ys h.1 k)

    pub all_left : (xs ys : List A) → All P (xs ++ ys) → All P xs
    all_left [] ys h = tt
    all_left (x ∷ xs) ys h = (h.0, all_left xs ys h.1)

    pub all_right : (xs ys : List A) → All P (xs ++ ys) → All P ys
    all_right [] ys h = h
    all_right (x ∷ xs) ys h = all_right xs ys h.1

    pub all_take : (i : ℕ) (xs : List A) → All P xs → All P (take i xs)
    all_take i xs h = all_left (take i xs) (drop i xs) (rw (take-append-drop i xs) h)

    pub all_drop : (i : ℕ) (xs : List A) → All P xs → All P (drop i xs)
    all_drop i xs h = all_right (take i xs) (drop i xs) (rw (take-append-drop i xs) h)

    pub all-get : (xs : List A) (i : ℕ) (d : A) → i < length xs → All P xs → P (get_or xs i d)
    all-get [] i d l h = absurd (omega arith)
    all-get (x ∷ xs) zero d l h = h.0
    all-get (x ∷ xs) (suc i) d l h = all-get xs i d (omega arith) h.1

    pub all_set : (xs : List A) (i : ℕ) (x : A) → P x → All P xs → All P (set xs i x)
    all_set [] i y p h = tt
    all_set (x ∷ xs) zero y p h = (p, h.1)
    all_set (x ∷ xs) (suc i) y p h = (h.0, all_set xs i y p h.1)

  module _ (row : A → List ℕ) where
    pub rows_append : (xs ys : List A) → rows row (xs ++ ys) ≡ rows row xs ++ rows row ys
    unfolding rows
    rows_append [] ys = refl
    rows_append (x ∷ xs) ys = rw (rows_append xs ys) (sym (append_assoc (row x) (rows row xs) (rows row ys)))

    module _ (size : ℕ) (P : A → Type 0) (width : (x : A) → P x → length (row x) ≡ size) where
      pub length-rows : (xs : List A) → All P xs → length (rows row xs) ≡ length xs * size
      unfolding rows
      length-rows [] h = omega arith
      length-rows (x ∷ xs) h =
          omega (arith, length-append (row x) (rows row xs), width x h.0, length-rows xs h.1, suc-mul (length xs) size)

      -- where record i starts
      offset : (xs : List A) (i : ℕ) → i ≤ length xs → All P xs → length (rows row (take i xs)) ≡ i * size
      offset xs i h p = length-rows (take i xs) (all_take P i xs p) ∙ ap (λ (k : ℕ). k * size) (length-take-le i xs h)

      pub length-lay : (n : ℕ) (xs : List A) → All P xs → length xs * size ≤ n → length (lay row size n xs) ≡ n
      unfolding lay
      length-lay n xs h l =
          omega (arith, length-append (rows row xs) (replicate (n - length xs * size) 0), length-rows xs h, length-replicate {A = ℕ} (n - length xs * size) 0)

      -- the zeros behind j records
      abbrev behind : ℕ → ℕ → List ℕ
      behind n j = replicate (n - j * size) 0

      -- a list of records in two parts
      pub lay-append : (n : ℕ) (a b : List A) → lay row size n (a ++ b) ≡ rows row a ++ (rows row b ++ replicate (n - length (a ++ b) * size) 0)
      unfolding lay
      lay-append n a b = rw (rows_append a b) (append_assoc (rows row a) (rows row b) (behind n (length (a ++ b))))

      -- and with a record between them
      lay_middle : (n : ℕ) (a : List A) (y : A) (b : List A) → lay row size n (a ++ y ∷ b) ≡ rows row a ++ (row y ++ (rows row b ++ behind n (length (a ++ y ∷ b))))
      unfolding rows
      lay_middle n a y b = lay-append n a (y ∷ b) ∙ ap (λ (l : List ℕ). rows row a ++ l) (append_assoc (row y) (rows row b) (behind n (length (a ++ y ∷ b))))

      -- the places that two parts take
      places : (a b : List A) → length (a ++ b) * size ≡ length a * size + length b * size
      places a b = rw (length-append a b) (add-mul (length a) (length b) size)

      pub lay_read : (n : ℕ) (xs : List A) (i : ℕ) (d : A) → i < length xs → All P xs →
          take size (drop (i * size) (lay row size n xs)) ≡ row (get_or xs i d)
      lay_read n xs i d h p =
          let y : A = get_or xs i d in
          let a : List A = take i xs in
          let b : List A = drop (suc i) xs in
          let r : List ℕ = rows row b ++ behind n (length (a ++ y ∷ b)) in
          ap (λ (l : List A). take size (drop (i * size) (lay row size n l))) (split_at xs i d h)
          ∙ rw (lay_middle n a y b, drop_at (rows row a) (row y ++ r) (i * size) (offset xs i (omega arith) p)) (take_at (row y) r size (width y (all-get P xs i d h p)))

      pub lay-set : (n : ℕ) (xs : List A) (i : ℕ) (x : A) → i < length xs → All P xs → P x →
          patch (lay row size n xs) (i * size) size (row x) ≡ lay row size n (set xs i x)
      lay-set n xs i x h p q =
          let y : A = get_or xs i x in
          let a : List A = take i xs in
          let b : List A = drop (suc i) xs in
          let r : List ℕ = rows row b ++ behind n (length (a ++ x ∷ b)) in
          let same : length (a ++ y ∷ b) ≡ length (a ++ x ∷ b) = length-append a (y ∷ b) ∙ sym (length-append a (x ∷ b)) in
          let law : patch (lay row size n (a ++ y ∷ b)) (i * size) size (row x) ≡ lay row size n (a ++ x ∷ b) =
          rw (lay_middle n a y b, lay_middle n a x b, same) (patch-at (rows row a) (row y) r (i * size) size (row x) (offset xs i (omega arith) p) (width y (all-get P xs i x h p))) in
          ap (λ (l : List A). patch (lay row size n l) (i * size) size (row x)) (split_at xs i x h) ∙ law ∙ ap (lay row size n) (sym (set_split xs i x h))

      pub lay_clear : (n : ℕ) (a b : List A) → All P a → All P b → length (a ++ b) * size ≤ n →
          patch (lay row size n (a ++ b)) (length a * size) (length b * size) (replicate (length b * size) 0) ≡ lay row size n a
      unfolding lay
      lay_clear n a b ha hb h =
          let m : ℕ = length b * size in
          let j : ℕ = n - length (a ++ b) * size in
          let whole : m + j ≡ n - length a * size = omega (arith, places a b) in
          rw (lay-append n a b)
          (patch-at (rows row a) (rows row b) (replicate j 0) (length a * size) m (replicate m 0) (length-rows a ha) (length-rows b hb)
          ∙ rw (replicate-append-replicate {A = ℕ} m j 0, whole))

      pub lay_open : (n : ℕ) (a b : List A) (y : A) → All P a → All P b → length (a ++ b) * size + size ≤ n →
          patch (paste (lay row size n (a ++ b)) (length a * size + size) (drop (length a * size) (lay row size n (a ++ b))) (length b * size)) (length a * size) size (row y)
          ≡ lay row size n (a ++ y ∷ b)
      lay_open n a b y ha hb h =
          let j : ℕ = n - length (a ++ b) * size in
          let k : ℕ = n - length (a ++ y ∷ b) * size in
          let less : j ≡ size + k = omega (arith, places a b, places a (y ∷ b), suc-mul (length b) size) in
          let zeros : drop size (replicate {A = ℕ} j 0) ≡ replicate k 0 =
          rw (less, ← replicate-append-replicate {A = ℕ} size k 0) (drop_at (replicate size 0) (replicate k 0) size (length-replicate size 0)) in
          rw (lay-append n a b, lay_middle n a y b)
          (paste_up (rows row a) (rows row b) (replicate j 0) (length a * size) (length b * size) size (row y)
          (length-rows a ha) (length-rows b hb) (omega (arith, length-replicate {A = ℕ} j 0))
          ∙ rw zeros)

      pub lay_close : (n : ℕ) (a : List A) (y : A) (b : List A) → All P a → P y → All P b → length (a ++ y ∷ b) * size ≤ n →
          patch (paste (lay row size n (a ++ y ∷ b)) (length a * size) (drop (length a * size + size) (lay row size n (a ++ y ∷ b))) (length b * size)) (length a * size + length b * size) size (replicate size 0)
          ≡ lay row size n (a ++ b)
      lay_close n a y b ha hy hb h =
          let j : ℕ = n - length (a ++ y ∷ b) * size in
          let k : ℕ = n - length (a ++ b) * size in
          let more : size + j ≡ k = omega (arith, places a b, places a (y ∷ b), suc-mul (length b) size) in
          rw (lay_middle n a y b, lay-append n a b)
          (paste_down (rows row a) (row y) (rows row b) (replicate j 0) (length a * size) size (length b * size) (replicate size 0)
          (length-rows a ha) (width y hy) (length-rows b hb)
          ∙ rw (replicate-append-replicate {A = ℕ} size j 0, more))
