-- What a well-formed state says of its head's counts.
--     handles-few      distinct handles from 1 to below the next are fewer than the next
--     classes_few      alive and not alive together are no more than all writers
use Prim.Native.Nat.{ℕ, zero, suc, ◌+◌, ◌≤◌, ◌<◌}
use mathlib.Core.Bool.{Bool, true, false, cond}
use mathlib.Core.List.{List, [], ◌∷◌}
use mathlib.Core.Logic.{⊎_elim}
use mathlib.Core.Path.{◌≡◌, refl, sym, ap, ◌∙◌}
use native.Mathlib.Nat.{eq-or-lt_of_le}
use native.Mathlib.Omega.{arith}
use borrow.Author.Tests.{eqb-true, eqb-false, leb-true, ltb-true, lt-ltb}
use lib.Dec.{eqb, leb, ltb}
use lib.ListN.{length}
use Rattle.model.specs.declared.Instance.{Instance}
use Rattle.model.specs.declared.Writer.{Writer}
use Rattle.model.specs.State.{Class, alive, not_alive, neither, class_of, is_alive_class, is_not_alive_class, counts_alive, counts_not_alive}
use Rattle.model.specs.Tables.{pick, all}
use Rattle.model.specs.WellFormed.{other_handle, handles_distinct, handle_below}
use Rattle.model.proofs.Tests.{both, split}

-- ---- what holds of all holds of those picked

all-pick : (p q : Instance → Bool) (xs : List Instance) → all q xs ≡ true → all q (pick p xs) ≡ true
unfolding all pick
all-pick p q [] a = refl
all-pick p q (x ∷ xs) a =
    let b = both (q x) (all q xs) a in
    split (p x) (λ e. rw (e, b.0) (all-pick p q xs b.1)) (λ e. rw e (all-pick p q xs b.1))

distinct_pick : (p : Instance → Bool) (xs : List Instance) → handles_distinct xs ≡ true → handles_distinct (pick p xs) ≡ true
unfolding handles_distinct pick
distinct_pick p [] d = refl
distinct_pick p (x ∷ xs) d =
    let b = both (all (other_handle x.handle.0) xs) (handles_distinct xs) d in
    split (p x)
    (λ e. rw (e, all-pick p (other_handle x.handle.0) xs b.0) (distinct_pick p xs b.1))
    (λ e. rw e (distinct_pick p xs b.1))

-- where the test holds of all, all are picked
pick_all : (p : Instance → Bool) (xs : List Instance) → all p xs ≡ true → length (pick p xs) ≡ length xs
unfolding all pick
pick_all p [] a = refl
pick_all p (x ∷ xs) a =
    let b = both (p x) (all p xs) a in rw b.0 (ap suc (pick_all p xs b.1))

-- ---- distinct handles

-- at most one has the handle h
one_less : (h : ℕ) (xs : List Instance) → handles_distinct xs ≡ true → length xs ≤ suc (length (pick (other_handle h) xs))
unfolding handles_distinct pick
one_less h [] d = omega arith
one_less h (x ∷ xs) d =
    let b = both (all (other_handle x.handle.0) xs) (handles_distinct xs) d in
    split (eqb x.handle.0 h)
    (λ e.
    let same : all (other_handle h) xs ≡ true = ap (λ (n : ℕ). all (other_handle n) xs) (sym (eqb-true x.handle.0 h e)) ∙ b.0 in
    rw e (omega (arith, pick_all (other_handle h) xs same)))
    (λ e. rw e (omega (arith, one_less h xs b.1)))

-- those that do not have the greatest are below it
below-others : (n : ℕ) (xs : List Instance) → all (handle_below (suc (suc n))) xs ≡ true →
    all (handle_below (suc n)) (pick (other_handle (suc n)) xs) ≡ true
unfolding all pick
below-others n [] a = refl
below-others n (x ∷ xs) a =
    let b = both (handle_below (suc (suc n)) x) (all (handle_below (suc (suc n))) xs) a in
    let c = both (leb 1 x.handle.0) (ltb x.handle.0 (suc (suc n))) b.0 in
    split (eqb x.handle.0 (suc n))
    (λ e. rw e (below-others n xs b.1))
    (λ e. rw (e, c.0, lt-ltb x.handle.0 (suc n) (smaller x.handle.0 (ltb-true x.handle.0 (suc (suc n)) c.1) (eqb-false x.handle.0 (suc n) e)))
    (below-others n xs b.1))
  where
    smaller : (h : ℕ) → h < suc (suc n) → (h ≡ suc n → ⊥) → h < suc n
    smaller h l d = let m : h ≤ suc n = omega arith in ⊎_elim (λ e. absurd (d e)) (λ r. r) (eq-or-lt_of_le m)

handles-below : (n : ℕ) (xs : List Instance) → handles_distinct xs ≡ true → all (handle_below (suc n)) xs ≡ true → length xs ≤ n
handles-below zero [] d a = omega arith
handles-below zero (x ∷ xs) d a =
    let b = both (handle_below 1 x) (all (handle_below 1) xs) (unfold all in a) in
    let c = both (leb 1 x.handle.0) (ltb x.handle.0 1) b.0 in
    absurd (omega (arith, leb-true 1 x.handle.0 c.0, ltb-true x.handle.0 1 c.1))
handles-below (suc n) xs d a =
    omega (
      arith,
      one_less (suc n) xs d,
      handles-below n (pick (other_handle (suc n)) xs) (distinct_pick (other_handle (suc n)) xs d) (below-others n xs a),
    )

pub handles-few : (next : ℕ) (xs : List Instance) → 1 ≤ next → handles_distinct xs ≡ true → all (handle_below next) xs ≡ true →
    length xs < next
handles-few zero xs h d a = absurd (omega arith)
handles-few (suc n) xs h d a = omega (arith, handles-below n xs d a)

-- ---- the two classes

-- no writer is in both
apart : (c : Class) (n m k : ℕ) → n + m ≤ k → cond (is_alive_class c) (suc n) n + cond (is_not_alive_class c) (suc m) m ≤ suc k
apart alive n m k h = omega arith
apart not_alive n m k h = omega arith
apart neither n m k h = omega arith

length-cond : {A : Type 0} (b : Bool) (x : A) (xs : List A) → length (cond b (x ∷ xs) xs) ≡ cond b (suc (length xs)) (length xs)
length-cond true x xs = refl
length-cond false x xs = refl

pub classes_few : (ws : List Writer) → length (pick counts_alive ws) + length (pick counts_not_alive ws) ≤ length ws
unfolding pick
classes_few [] = omega arith
classes_few (w ∷ ws) =
    rw (length-cond (counts_alive w) w (pick counts_alive ws), length-cond (counts_not_alive w) w (pick counts_not_alive ws))
    (apart (class_of w.liveliness.state) (length (pick counts_alive ws)) (length (pick counts_not_alive ws)) (length ws) (classes_few ws))
