-- What is gathered over all numbers below a bound.
--     length-between       how many pass a test, as a sum
--     sum-add, sum-zero    sums
--     last-greatest        the last of those that pass is the greatest
--     numbered-num, renumbered      GUIDs are those of their numbers
--     num-below            a GUID's number is below the bound
--     up_more              one more number at the end
use mathlib.Core.Bool.{Bool, cond}
use mathlib.Core.List.{List, [], ◌∷◌, ◌++◌, map}
use mathlib.Core.Path.{◌≡◌, refl, ap, ◌∙◌}
use Prim.Native.Nat.{ℕ, zero, suc, ◌+◌, ◌*◌, ◌/◌, ◌%◌, ◌^◌, ◌≤◌, ◌<◌}
use native.Mathlib.Nat.{add-zero, zero-add, add-suc, suc-add, mul-le-mul_right, mul-add-div_right, mul-add-mod_self_right, mod-eq_of_lt, div-eq_of_lt}
use native.Mathlib.Omega.{arith}
use lib.ListN.{length}
use Rattle.octets.specs.Lay.{All}
use Rattle.model.specs.declared.Guid.{Guid}
use Rattle.model.specs.State.{LastWriter}
use Rattle.std.specs.Prelude.{Some}
use Rattle.model.specs.Guids.{num}
use Rattle.model.specs.InstanceRecord.{bit}
use Rattle.model.specs.Writers.{last_after}
use Rattle.model.proofs.Fits.{FitsGuid}
use Rattle.accounts.specs.Ranges.{bound, guid_numbered, between, sum_over, greatest, up_from}
use Rattle.accounts.specs.WriterAccounts.{last_or}
use Rattle.model.proofs.Tests.{split}

-- ---- sums

pub sum-add : (lo n : ℕ) (f g : ℕ → ℕ) → sum_over lo n (λ j. f j + g j) ≡ sum_over lo n f + sum_over lo n g
unfolding sum_over
sum-add lo zero f g = refl
sum-add lo (suc n) f g = rw (sum-add (suc lo) n f g) (omega arith)

pub sum-zero : (lo n : ℕ) → sum_over lo n (λ j. 0) ≡ 0
unfolding sum_over
sum-zero lo zero = refl
sum-zero lo (suc n) = rw (sum-zero (suc lo) n)

pub length-between : (lo n : ℕ) (p : ℕ → Bool) → length (between lo n p) ≡ sum_over lo n (λ j. bit (p j))
unfolding between sum_over
length-between lo zero p = refl
length-between lo (suc n) p =
    split (p lo) (λ e. rw e (omega (arith, length-between (suc lo) n p)))
    (λ e. rw e (omega (arith, length-between (suc lo) n p)))

pub length-map : {A B : Type 0} (f : A → B) (xs : List A) → length (map f xs) ≡ length xs
length-map f [] = refl
length-map f (x ∷ xs) = ap suc (length-map f xs)

-- ---- the greatest is the last of the rising list

between_more : (lo n : ℕ) (p : ℕ → Bool) → between lo (suc n) p ≡ between lo n p ++ cond (p (lo + n)) ((lo + n) ∷ []) []
unfolding between
between_more lo zero p = rw (add-zero lo)
between_more lo (suc n) p =
    split (p lo)
    (λ e. rw e (ap {B = List ℕ} (λ l. lo ∷ l) (between_more (suc lo) n p ∙ rw (add-suc lo n, suc-add lo n))))
    (λ e. rw e (between_more (suc lo) n p ∙ rw (add-suc lo n, suc-add lo n)))

map-append : {A B : Type 0} (f : A → B) (xs ys : List A) → map f (xs ++ ys) ≡ map f xs ++ map f ys
map-append f [] ys = refl
map-append f (x ∷ xs) ys = ap {B = List _} (λ l. f x ∷ l) (map-append f xs ys)

last-append : (xs ys : List Guid) (last : LastWriter) → last_after (xs ++ ys) last ≡ last_after ys (last_after xs last)
unfolding last_after
last-append [] ys last = refl
last-append (g ∷ xs) ys last = last-append xs ys (Some g)

pub last-greatest : (n : ℕ) (p : ℕ → Bool) (last : LastWriter) →
    last_after (map guid_numbered (between 0 n p)) last ≡ last_or (greatest n p) last
unfolding between greatest last_after
last-greatest zero p last = refl
last-greatest (suc n) p last =
    ap (λ (l : List ℕ). last_after (map guid_numbered l) last) (between_more 0 n p)
    ∙ ap (λ (l : List Guid). last_after l last)
    (map-append guid_numbered (between 0 n p) (cond (p (0 + n)) ((0 + n) ∷ []) []))
    ∙ last-append (map guid_numbered (between 0 n p)) (map guid_numbered (cond (p (0 + n)) ((0 + n) ∷ []) [])) last
    ∙ rw (zero-add n) (split (p n) (λ e. rw e) (λ e. rw e (last-greatest n p last)))

-- ---- GUIDs and their numbers

digits-below : (b hi lo : ℕ) → hi < b → lo < b → hi * b + lo < b * b
digits-below b hi lo h l =
    let m : suc hi * b ≤ b * b = mul-le-mul_right b h in omega arith

pub num-below : (g : Guid) → FitsGuid g → num g < bound
unfolding num bound
num-below g f = digits-below (2 ^ 64) g.hi g.lo f.high f.low

high_digit : (b hi lo : ℕ) → lo < b → (hi * b + lo) / b ≡ hi
high_digit b hi lo l =
    mul-add-div_right {m = b} (omega arith) hi lo ∙ ap (λ (x : ℕ). hi + x) (div-eq_of_lt l) ∙ add-zero hi

low_digit : (b hi lo : ℕ) → lo < b → (hi * b + lo) % b ≡ lo
low_digit b hi lo l = mul-add-mod_self_right hi b lo ∙ mod-eq_of_lt l

pub numbered-num : (g : Guid) → FitsGuid g → guid_numbered (num g) ≡ g
unfolding num guid_numbered
numbered-num g f =
    let h : (g.hi * 2 ^ 64 + g.lo) / 2 ^ 64 ≡ g.hi = high_digit (2 ^ 64) g.hi g.lo f.low in
    let l : (g.hi * 2 ^ 64 + g.lo) % 2 ^ 64 ≡ g.lo = low_digit (2 ^ 64) g.hi g.lo f.low in rw (h, l)

pub renumbered : (gs : List Guid) → All FitsGuid gs → map guid_numbered (map num gs) ≡ gs
renumbered [] f = refl
renumbered (g ∷ gs) f = rw (numbered-num g f.0, renumbered gs f.1)

-- ---- 1, 2, 3 and on

pub up_more : (n m : ℕ) → up_from n m ++ ((n + m) ∷ []) ≡ up_from n (suc m)
unfolding up_from
up_more n zero = rw (add-zero n)
up_more n (suc m) = ap {B = List ℕ} (λ l. n ∷ l) (rw (add-suc n m, ← suc-add n m) (up_more (suc n) m))
