-- What is in a set of writers.
--     has-insert, has-remove, has-pick      what is in it after a writer is put in, taken out, or several are
--     has-expired        the GUIDs of a test on numbers are those that pass it
--     remove_absent, has_within      sets that rise
--     none_in, same_empty, some_in      an empty set has none, and one that is not has one
use mathlib.Core.Bool.{Bool, true, false, not, ◌&&◌, ◌||◌}
use mathlib.Core.List.{List, [], ◌∷◌, map}
use mathlib.Core.Path.{◌≡◌, refl, sym, ap, ◌∙◌}
use Prim.Native.Nat.{ℕ, zero, suc, ◌+◌, ◌*◌, ◌/◌, ◌%◌, ◌^◌, ◌≤◌, ◌<◌}
use native.Mathlib.Nat.{div-add-mod', zero-add}
use native.Mathlib.Omega.{arith}
use borrow.Author.Tests.{eqb-true, eqb-false, eq-eqb, ne_eqb}
use lib.Dec.{eqb}
use Rattle.model.specs.declared.Guid.{Guid}
use Rattle.model.specs.Guids.{num, same, less}
use Rattle.model.specs.Sets.{has, insert, remove, is_empty}
use Rattle.model.specs.Tables.{pick}
use Rattle.model.proofs.Tests.{split}
use Rattle.accounts.specs.Ranges.{bound, guid_numbered, between}
use Rattle.accounts.proofs.Basics.{never}
use Rattle.accounts.proofs.TurnLaws.{Within}

-- ---- tests

or_swap : (a b c : Bool) → (a || (b || c)) ≡ (b || (a || c))
or_swap true true c = refl
or_swap true false c = refl
or_swap false b c = refl

or_again : (a b : Bool) → (a || b) ≡ (a || (a || b))
or_again true b = refl
or_again false b = refl

pub and_true : (a : Bool) → a ≡ (a && true)
and_true true = refl
and_true false = refl

pub and_never : (a : Bool) → (a && false) ≡ false
and_never true = refl
and_never false = refl

-- ---- a writer put in

pub has-insert : (h g : Guid) (xs : List Guid) → has h (insert g xs) ≡ (same g h || has h xs)
unfolding has insert
has-insert h g [] = refl
has-insert h g (x ∷ xs) =
    split (less x g)
    (λ l. rw (l, has-insert h g xs) (or_swap (same x h) (same g h) (has h xs)))
    (λ l. rw l
    (split (same x g)
    (λ e. rw (e, ← eqb-true (num x) (num g) e) (or_again (same x h) (has h xs)))
    (λ e. rw e)))

pub insert_some : (g : Guid) (xs : List Guid) → is_empty (insert g xs) ≡ false
unfolding insert
insert_some g [] = refl
insert_some g (x ∷ xs) = split (less x g) (λ l. rw l) (λ l. rw l (split (same x g) (λ e. rw e) (λ e. rw e)))

-- ---- a writer taken out

pub has-below : (lo hi : ℕ) (h : Guid) (xs : List Guid) → num h < lo → Within num lo hi xs → has h xs ≡ false
unfolding has
has-below lo hi h [] l w = refl
has-below lo hi h (x ∷ xs) l w =
    rw (ne_eqb (num x) (num h) (λ q. omega arith)) (has-below (suc (num x)) hi h xs (omega arith) w.2)

pub has-remove : (lo hi : ℕ) (h g : Guid) (xs : List Guid) → Within num lo hi xs →
    has h (remove g xs) ≡ (has h xs && not (same h g))
unfolding has remove
has-remove lo hi h g [] w = refl
has-remove lo hi h g (x ∷ xs) w =
    split (same x g)
    (λ e.
    let q : num x ≡ num g = eqb-true (num x) (num g) e in
    rw e
    (split (same h g)
    (λ d.
    let p : num h ≡ num g = eqb-true (num h) (num g) d in
    rw d (has-below (suc (num x)) hi h xs (omega arith) w.2 ∙ sym (and_never (same x h || has h xs))))
    (λ d.
    rw (d, ne_eqb (num x) (num h) (λ p. eqb-false (num h) (num g) d (sym p ∙ q))) (and_true (has h xs)))))
    (λ e.
    rw e
    (split (same x h)
    (λ d. rw (d, ne_eqb (num h) (num g) (λ p. eqb-false (num x) (num g) e (eqb-true (num x) (num h) d ∙ p))))
    (λ d. rw d (has-remove (suc (num x)) hi h g xs w.2))))

pub remove_absent : (g : Guid) (xs : List Guid) → has g xs ≡ false → remove g xs ≡ xs
unfolding has remove
remove_absent g [] e = refl
remove_absent g (x ∷ xs) e =
    split (same x g)
    (λ d. never (rw d at e))
    (λ d. rw d (ap {B = List Guid} (λ l. x ∷ l) (remove_absent g xs (rw d at e))))

-- ---- those who stay

-- a test that goes by numbers
pub record Numbered (p : Guid → Bool) : Type 0 where
  pub by : (a b : Guid) → num a ≡ num b → p a ≡ p b

pub has-pick : (p : Guid → Bool) → Numbered p → (h : Guid) (xs : List Guid) → has h (pick p xs) ≡ (has h xs && p h)
unfolding has pick
has-pick p n h [] = refl
has-pick p n h (x ∷ xs) =
    split (same x h)
    (λ d.
    let q : p x ≡ p h = n.by x h (eqb-true (num x) (num h) d) in
    split (p x)
    (λ e. let f : p h ≡ true = sym q ∙ e in rw (e, d, f))
    (λ e. let f : p h ≡ false = sym q ∙ e in rw (e, d, f, has-pick p n h xs, f) (and_never (has h xs))))
    (λ d. split (p x) (λ e. rw (e, d) (has-pick p n h xs)) (λ e. rw (e, d) (has-pick p n h xs)))

-- ---- GUIDs by their numbers

digits_back : (b n : ℕ) → n / b * b + n % b ≡ n
digits_back b n = div-add-mod' n b

num-numbered : (n : ℕ) → num (guid_numbered n) ≡ n
unfolding num guid_numbered
num-numbered n = digits_back (2 ^ 64) n

none_between : (lo n : ℕ) (p : ℕ → Bool) (g : Guid) → num g < lo → has g (map guid_numbered (between lo n p)) ≡ false
unfolding has between
none_between lo zero p g l = refl
none_between lo (suc n) p g l =
    split (p lo)
    (λ e. rw (e, num-numbered lo, ne_eqb lo (num g) (λ q. omega arith)) (none_between (suc lo) n p g (omega arith)))
    (λ e. rw e (none_between (suc lo) n p g (omega arith)))

has-between : (lo n : ℕ) (p : ℕ → Bool) (g : Guid) → lo ≤ num g → num g < lo + n →
    has g (map guid_numbered (between lo n p)) ≡ p (num g)
unfolding has between
has-between lo zero p g l h = absurd (omega arith)
has-between lo (suc n) p g l h =
    split (eqb lo (num g))
    (λ d.
    let q : lo ≡ num g = eqb-true lo (num g) d in
    split (p lo)
    (λ e. rw (e, num-numbered lo, d) (sym e ∙ ap p q))
    (λ e. rw e (none_between (suc lo) n p g (omega arith) ∙ sym e ∙ ap p q)))
    (λ d.
    let q : (lo ≡ num g) → _ = eqb-false lo (num g) d in
    split (p lo)
    (λ e. rw (e, num-numbered lo, d) (has-between (suc lo) n p g (omega arith) (omega arith)))
    (λ e. rw e (has-between (suc lo) n p g (omega arith) (omega arith))))

pub has-expired : (p : ℕ → Bool) (g : Guid) → num g < bound → has g (map guid_numbered (between 0 bound p)) ≡ p (num g)
has-expired p g l = has-between 0 bound p g (omega arith) (rw (zero-add bound) l)

pub has_within : (lo hi : ℕ) (g : Guid) (xs : List Guid) → Within num lo hi xs → has g xs ≡ true → num g < hi
unfolding has
has_within lo hi g [] w e = never (sym e)
has_within lo hi g (x ∷ xs) w e =
    split (same x g)
    (λ d. let q : num x ≡ num g = eqb-true (num x) (num g) d in rw (← q) w.1)
    (λ d. has_within (suc (num x)) hi g xs w.2 (rw d at e))

-- ---- empty, or not

pub none_in : (g : Guid) (xs : List Guid) → is_empty xs ≡ true → has g xs ≡ false
unfolding has
none_in g [] e = refl
none_in g (x ∷ xs) e = never (sym e)

pub first-in : (x : Guid) (xs : List Guid) → has x (x ∷ xs) ≡ true
unfolding has
first-in x xs = rw (eq-eqb (num x) (num x) refl)

pub same_empty : (xs ys : List Guid) → ((g : Guid) → has g xs ≡ has g ys) → is_empty xs ≡ is_empty ys
same_empty [] [] h = refl
same_empty [] (y ∷ ys) h = never (sym (first-in y ys) ∙ sym (h y) ∙ none_in y [] refl)
same_empty (x ∷ xs) [] h = never (sym (first-in x xs) ∙ h x ∙ none_in x [] refl)
same_empty (x ∷ xs) (y ∷ ys) h = refl

pub record SomeIn (xs : List Guid) : Type 0 where
  pub one : Guid
  pub inside : has one xs ≡ true

pub some_in : (xs : List Guid) → is_empty xs ≡ false → SomeIn xs
some_in [] e = never e
some_in (x ∷ xs) e = record { one = x; inside = first-in x xs }
