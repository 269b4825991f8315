-- Laws of a table's keys.
--     length-keys, get_or-keys     one for each record, read at its place
--     rising_snoc                one key more
--     rising-left                a first part of what rises rises
--     rising_pairs               the test, and what it says of any two keys
use mathlib.Core.Path.{◌≡◌, refl, sym, ◌∙◌}
use mathlib.Core.Logic.{⊎_elim}
use mathlib.Core.Bool.{true, ◌&&◌, and-true, and_assoc}
use mathlib.Core.List.{List, [], ◌∷◌, ◌++◌}
use Prim.Native.Nat.{ℕ, zero, suc, ◌*◌, ◌≤◌, ◌<◌}
use native.Mathlib.Nat.{eq-or-lt_of_le}
use native.Mathlib.Omega.{arith}
use lib.Dec.{ltb}
use lib.ListN.{length, get_or, length-append, get_or-append}
use lib.Seq.{get_or_at}
use borrow.Author.Tests.{ltb-true}
use Rattle.model.specs.Guids.{num, guid_at}
use Rattle.model.proofs.Tests.{both}
use Rattle.tables.specs.Keys.{keys, leads, rising}

pub length-keys : (size n : ℕ) (t : List ℕ) → length (keys size n t) ≡ n
unfolding keys
length-keys size zero t = refl
length-keys size (suc n) t = omega (arith, length-append (keys size n t) (num (guid_at t (n * size)) ∷ []), length-keys size n t)

pub get_or-keys : (size n : ℕ) (t : List ℕ) (i : ℕ) → i < n → get_or (keys size n t) i 0 ≡ num (guid_at t (i * size))
unfolding keys
get_or-keys size zero t i h = absurd (omega arith)
get_or-keys size (suc n) t i h =
    let ks : List ℕ = keys size n t in
    let k : List ℕ = num (guid_at t (n * size)) ∷ [] in
    let q : i ≤ n = omega arith in
    ⊎_elim
    (λ e. rw e (get_or_at ks (num (guid_at t (n * size))) [] 0 n (length-keys size n t)))
    (λ l. get_or-append ks k 0 i (omega (arith, length-keys size n t)) ∙ get_or-keys size n t i (omega arith))
    (eq-or-lt_of_le q)

pub rising_snoc : (ks : List ℕ) (k l : ℕ) → rising ((ks ++ k ∷ []) ++ l ∷ []) ≡ (rising (ks ++ k ∷ []) && ltb k l)
unfolding rising leads
rising_snoc [] k l = and-true (ltb k l)
rising_snoc (x ∷ []) k l = rw (and-true (ltb k l), and-true (ltb x k))
rising_snoc (x ∷ y ∷ ks) k l =
    rw (rising_snoc (y ∷ ks) k l) (sym (and_assoc (ltb x y) (rising (y ∷ ks ++ k ∷ [])) (ltb k l)))

pub rising-left : (xs ys : List ℕ) → rising (xs ++ ys) ≡ true → rising xs ≡ true
unfolding rising leads
rising-left [] ys h = refl
rising-left (x ∷ []) ys h = refl
rising-left (x ∷ y ∷ xs) ys h =
    let b = both (ltb x y) (rising (y ∷ xs ++ ys)) h in
    rw b.0 (rising-left (y ∷ xs) ys b.1)

-- the first key is less than each behind it
first_least : (k : ℕ) (ks : List ℕ) (j : ℕ) → rising (k ∷ ks) ≡ true → j < length ks → k < get_or ks j 0
unfolding rising leads
first_least k [] j h l = absurd (omega arith)
first_least k (x ∷ ks) zero h l = ltb-true k x (both (ltb k x) (rising (x ∷ ks)) h).0
first_least k (x ∷ ks) (suc j) h l =
    let b = both (ltb k x) (rising (x ∷ ks)) h in
    omega (arith, ltb-true k x b.0, first_least x ks j b.1 (omega arith))

pub rising_pairs : (ks : List ℕ) → rising ks ≡ true → (i j : ℕ) → i < j → j < length ks → get_or ks i 0 < get_or ks j 0
unfolding rising
rising_pairs [] h i j l m = absurd (omega arith)
rising_pairs (k ∷ ks) h i zero l m = absurd (omega arith)
rising_pairs (k ∷ ks) h zero (suc j) l m = first_least k ks j h (omega arith)
rising_pairs (k ∷ ks) h (suc i) (suc j) l m = rising_pairs ks (both (leads k ks) (rising ks) h).1 i j (omega arith) (omega arith)
