-- The GUIDs of a set that are not in a list, where both rise: a walk over both, side by side.
--     Below, From                               all GUIDs of a list are below a number, or not below it
--     from-above, from_first                    those above a number; those of a list that rises, from its first
--     same_sym                                  two GUIDs are the same either way round
--     other_same, other_before, other_behind    both heads are equal, the list's is less, the set's is less
--     others_none                               nothing is gone
--     others_apart_low, others_apart_high       the set is below what is gone, or above it
--     others-after                              what is gone may be read from a lower bound on
--     length-others, others_empty               lengths
--     others_more                               one is gone, then others
--     one_out, none_out                         one GUID is gone: from its place, or it is not there
--     remove-one, rising-remove                 that is `remove`, and what is left rises
use Prim.Native.Nat.{ℕ, zero, suc, ◌≤◌, ◌<◌}
use mathlib.Core.Bool.{true, false}
use mathlib.Core.List.{List, [], ◌∷◌, ◌++◌}
use mathlib.Core.Path.{◌≡◌, refl, sym, ap, ◌∙◌}
use native.Mathlib.Omega.{arith}
use borrow.Author.Tests.{ltb-true, eq-eqb, ne_eqb, eqb-true, eqb-false}
use lib.Dec.{ltb}
use lib.ListN.{length, get_or, take, drop}
use Rattle.octets.specs.Lay.{All}
use Rattle.model.specs.declared.Guid.{Guid}
use Rattle.model.specs.Guids.{num, same, nil}
use Rattle.model.specs.Sets.{has, is_empty, remove}
use Rattle.model.specs.Tables.{pick, above, rising}
use Rattle.model.proofs.Tests.{both, split, clash}
use Rattle.tables.proofs.Puts.{above_at}
use Rattle.writer_set_bytes.specs.Others.{others}

abbrev pub Below : ℕ → List Guid → Type 0
Below n s = All (λ (y : Guid). num y < n) s

abbrev pub From : ℕ → List Guid → Type 0
From n s = All (λ (y : Guid). n ≤ num y) s

-- ---- bounds

pub from-above : (n : ℕ) (s : List Guid) → above num n s ≡ true → From (suc n) s
unfolding above
from-above n [] h = tt
from-above n (x ∷ xs) h =
    let b = both (ltb n (num x)) (above num n xs) h in
    (omega (arith, ltb-true n (num x) b.0), from-above n xs b.1)

from_less : (m n : ℕ) (s : List Guid) → m ≤ n → From n s → From m s
from_less m n [] l h = tt
from_less m n (x ∷ xs) l h = (omega (arith, h.0), from_less m n xs l h.1)

pub from_first : (g : Guid) (gs : List Guid) → rising num (g ∷ gs) ≡ true → From (num g) (g ∷ gs)
unfolding rising
from_first g gs r =
    (omega arith, from_less (num g) (suc (num g)) gs (omega arith) (from-above (num g) gs (both (above num (num g) gs) (rising num gs) r).0))

-- ---- membership

pub same_sym : (a b : Guid) → same a b ≡ same b a
same_sym a b =
    split (same a b) (λ e. e ∙ sym (eq-eqb (num b) (num a) (sym (eqb-true (num a) (num b) e))))
    (λ e. e ∙ sym (ne_eqb (num b) (num a) (λ q. eqb-false (num a) (num b) e (sym q))))

has-below : (y : Guid) (n : ℕ) (s : List Guid) → Below n s → n ≤ num y → has y s ≡ false
unfolding has
has-below y n [] h l = refl
has-below y n (x ∷ xs) h l = rw (ne_eqb (num x) (num y) (λ e. omega (arith, h.0))) (has-below y n xs h.1 l)

has-from : (y : Guid) (n : ℕ) (s : List Guid) → From n s → num y < n → has y s ≡ false
unfolding has
has-from y n [] h l = refl
has-from y n (x ∷ xs) h l = rw (ne_eqb (num x) (num y) (λ e. omega (arith, h.0))) (has-from y n xs h.1 l)

-- ---- one step

other_in : (gone : List Guid) (x : Guid) (xs : List Guid) → has x gone ≡ true → others gone (x ∷ xs) ≡ others gone xs
unfolding others pick
other_in gone x xs e = rw e

other_out : (gone : List Guid) (x : Guid) (xs : List Guid) → has x gone ≡ false → others gone (x ∷ xs) ≡ x ∷ others gone xs
unfolding others pick
other_out gone x xs e = rw e

-- a GUID below the whole set does not count
other_first : (g : Guid) (gs s : List Guid) → From (suc (num g)) s → others (g ∷ gs) s ≡ others gs s
unfolding others pick has
other_first g gs [] h = refl
other_first g gs (x ∷ xs) h =
    rw (ne_eqb (num g) (num x) (λ e. omega (arith, h.0)), other_first g gs xs h.1)

pub other_same : (g : Guid) (gs : List Guid) (x : Guid) (xs : List Guid) → rising num (x ∷ xs) ≡ true → num x ≡ num g →
    others (g ∷ gs) (x ∷ xs) ≡ others gs xs
unfolding rising has
other_same g gs x xs r e =
    let a = from-above (num x) xs (both (above num (num x) xs) (rising num xs) r).0 in
    other_in (g ∷ gs) x xs (rw (eq-eqb (num g) (num x) (sym e))) ∙ other_first g gs xs (rw (← e) a)

pub other_before : (g : Guid) (gs : List Guid) (x : Guid) (xs : List Guid) → rising num (x ∷ xs) ≡ true → num g < num x →
    others (g ∷ gs) (x ∷ xs) ≡ others gs (x ∷ xs)
other_before g gs x xs r l = other_first g gs (x ∷ xs) (from_less (suc (num g)) (num x) (x ∷ xs) (omega arith) (from_first x xs r))

pub other_behind : (g : Guid) (gs : List Guid) (x : Guid) (xs : List Guid) → rising num (g ∷ gs) ≡ true → num x < num g →
    others (g ∷ gs) (x ∷ xs) ≡ x ∷ others (g ∷ gs) xs
other_behind g gs x xs r l = other_out (g ∷ gs) x xs (has-from x (num g) (g ∷ gs) (from_first g gs r) l)

-- ---- nothing of the set is gone

pub others_none : (s : List Guid) → others [] s ≡ s
unfolding others pick has
others_none [] = refl
others_none (x ∷ xs) = rw (others_none xs)

stays : (gone : List Guid) (x : Guid) (xs : List Guid) → has x gone ≡ false → others gone xs ≡ xs → others gone (x ∷ xs) ≡ x ∷ xs
stays gone x xs e h = other_out gone x xs e ∙ ap (λ (z : List Guid). x ∷ z) h

pub others_apart_low : (n : ℕ) (gone s : List Guid) → Below n s → From n gone → others gone s ≡ s
unfolding others pick
others_apart_low n gone [] h l = refl
others_apart_low n gone (x ∷ xs) h l = stays gone x xs (has-from x n gone l h.0) (others_apart_low n gone xs h.1 l)

pub others_apart_high : (n : ℕ) (gone s : List Guid) → Below n gone → From n s → others gone s ≡ s
unfolding others pick
others_apart_high n gone [] l h = refl
others_apart_high n gone (x ∷ xs) l h = stays gone x xs (has-below x n gone l h.0) (others_apart_high n gone xs l h.1)

-- ---- from a lower bound on

pub others-after : (n j : ℕ) (gone s : List Guid) → Below n (take j gone) → From n s → others (drop j gone) s ≡ others gone s
others-after n zero gone s l h = refl
others-after n (suc j) [] s l h = refl
others-after n (suc j) (g ∷ gs) s l h =
    others-after n j gs s l.1 h ∙ sym (other_first g gs s (from_less (suc (num g)) n s (omega (arith, l.0)) h))

-- ---- lengths

pub length-others : (gone s : List Guid) → length (others gone s) ≤ length s
unfolding others pick
length-others gone [] = omega arith
length-others gone (x ∷ xs) =
    let i = length-others gone xs in
    split (has x gone) (λ e. rw e (omega (arith, i))) (λ e. rw e (omega (arith, i)))

-- ---- all at once

pub others_more : (g : Guid) (gs s : List Guid) → others gs (others (g ∷ []) s) ≡ others (g ∷ gs) s
unfolding others pick has
others_more g gs [] = refl
others_more g gs (x ∷ xs) =
    split (same g x) (λ e. rw e (others_more g gs xs))
    (λ e. rw e (split (has x gs) (λ h. rw h (others_more g gs xs)) (λ h. rw (h, others_more g gs xs))))

pub others_empty : (gone s : List Guid) → is_empty s ≡ true → is_empty (others gone s) ≡ true
unfolding others pick
others_empty gone [] h = refl
others_empty gone (x ∷ xs) h = clash false h refl

-- ---- one GUID

pub one_out : (g : Guid) (s : List Guid) (p : ℕ) → rising num s ≡ true → p < length s → num (get_or s p nil) ≡ num g →
    others (g ∷ []) s ≡ take p s ++ drop (suc p) s
unfolding rising above
one_out g [] p r l e = absurd (omega arith)
one_out g (x ∷ xs) zero r l e = other_same g [] x xs r e ∙ others_none xs
one_out g (x ∷ xs) (suc p) r l e =
    let b = both (above num (num x) xs) (rising num xs) r in
    other_behind g [] x xs refl (omega (arith, above_at num (num x) xs b.0 p nil (omega arith)))
    ∙ ap (λ (z : List Guid). x ∷ z) (one_out g xs p b.1 (omega arith) e)

pub none_out : (g : Guid) (s : List Guid) → has g s ≡ false → others (g ∷ []) s ≡ s
unfolding has others pick
none_out g [] h = refl
none_out g (x ∷ xs) h =
    split (same x g) (λ e. clash true refl (rw e at h))
    (λ e. stays (g ∷ []) x xs (rw (same_sym g x, e)) (none_out g xs (rw e at h)))

-- of a set that rises the first match is the only one
pub remove-one : (g : Guid) (s : List Guid) → rising num s ≡ true → remove g s ≡ others (g ∷ []) s
unfolding remove rising others pick has
remove-one g [] r = refl
remove-one g (x ∷ xs) r =
    split (same x g) (λ e. rw e (sym (other_same g [] x xs r (eqb-true (num x) (num g) e) ∙ others_none xs)))
    (λ e. rw (e, same_sym g x) (rw (e, remove-one g xs (both (above num (num x) xs) (rising num xs) r).1)))

above-remove : (n : ℕ) (g : Guid) (s : List Guid) → above num n s ≡ true → above num n (remove g s) ≡ true
unfolding above remove
above-remove n g [] h = refl
above-remove n g (x ∷ xs) h =
    let b = both (ltb n (num x)) (above num n xs) h in
    split (same x g) (λ e. rw e b.1) (λ e. rw (e, b.0) (above-remove n g xs b.1))

pub rising-remove : (g : Guid) (s : List Guid) → rising num s ≡ true → rising num (remove g s) ≡ true
unfolding rising remove
rising-remove g [] r = refl
rising-remove g (x ∷ xs) r =
    let b = both (above num (num x) xs) (rising num xs) r in
    split (same x g) (λ e. rw e b.1) (λ e. rw (e, above-remove (num x) g xs b.0) (rising-remove g xs b.1))
