-- Places of GUIDs in a set, and what the steps of the code come to.
--     place_is, found_at, found_nowhere                   a scan
--     room_made, gap_closed                               room for one more, and a gap closed
--     has_any, empty_members                              membership
--     place_few, with_old, with_room, with_new            a GUID put in at its place
--     without_none, without_found                         a GUID taken out
use Prim.Native.Nat.{ℕ, zero, suc, ◌+◌, ◌-◌, ◌≤◌, ◌<◌}
use mathlib.Core.Bool.{Bool, true, false, cond, not, ◌||◌}
use mathlib.Core.Path.{◌≡◌, refl, sym, ap, ◌∙◌}
use mathlib.Core.List.{List, [], ◌∷◌, ◌++◌, append_assoc, append-nil}
use native.Mathlib.Omega.{arith}
use borrow.Author.Tests.{ltb-true, ltb-false, ne_eqb}
use lib.Dec.{ltb, eqb}
use borrow.Rule.Slice.PartMut.{put_mid, mid_of}
use Rattle.std.proofs.Common.{Option, Some, None, unwrap_or}
use Rattle.std.proofs.lemmas.Slice.{between_is, put_mid-rotated}
use Rattle.std.specs.List.{list_any, position_or_len}
use lib.ListN.{length, take, drop, get_or, set, replicate, length-append, length-drop, drop_of_length-le}
use lib.Seq.{drop-cons, set_at, get_or-take, length-take-le, take_all, drop-append-le, take-append-le, take-append-add}
use Rattle.model.specs.declared.Guid.{Guid}
use Rattle.model.specs.declared.WriterSet.{WriterSet}
use Rattle.model.specs.Guids.{less, same, nil}
use Rattle.model.specs.Sets.{members, set_of, has, insert, remove, is_empty}
use Rattle.writer_set.specs.Places.{Sound, padded, inserted_at, removed_at}
use Rattle.writer_set.proofs.SetLaws.{sound-size}

-- ---- a scan

-- what a scan for g stops at, where it looks for its place and where it looks for itself
abbrev pub not_less : Guid → Guid → Bool
not_less g x = not (less x g)

abbrev pub is : Guid → Guid → Bool
is g x = same x g

-- how many stand before the first of which stop holds
unfoldable pub passed : (Guid → Bool) → List Guid → ℕ
passed stop [] = 0
passed stop (x ∷ xs) = cond (stop x) 0 (suc (passed stop xs))

module _ (stop : Guid → Bool) where
  pub passed-le : (s : List Guid) → passed stop s ≤ length s
  unfolding passed
  passed-le [] = omega arith
  passed-le (x ∷ xs) = by (stop x) (passed-le xs)
    where
      by : (b : Bool) → passed stop xs ≤ length xs → cond b 0 (suc (passed stop xs)) ≤ suc (length xs)
      by true h = omega arith
      by false h = omega arith

  -- as std counts them
  pub passed-is : (s : List Guid) → position_or_len stop s ≡ passed stop s
  unfolding passed
  passed-is [] = refl
  passed-is (x ∷ xs) = by (stop x) (passed-is xs)
    where
      by : (b : Bool) → position_or_len stop xs ≡ passed stop xs → cond (not b) (1 + position_or_len stop xs) 0 ≡ cond b 0 (suc (passed stop xs))
      by true h = refl
      by false h = omega arith

  module _ (s : List Guid) (r : Option ℕ) (e : r ≡ cond (ltb (position_or_len stop s) (length s)) (Some (position_or_len stop s)) None) where
    scanned : r ≡ cond (ltb (passed stop s) (length s)) (Some (passed stop s)) None
    scanned = rw (passed-is s) at e

    -- the place, or else the length
    pub place_is : (n : ℕ) → n ≡ length s → unwrap_or r n ≡ position_or_len stop s
    place_is n f = rw (scanned, f, passed-is s) (by (ltb (passed stop s) (length s)) refl)
      where
        by : (b : Bool) → ltb (passed stop s) (length s) ≡ b → unwrap_or (cond b (Some (passed stop s)) None) (length s) ≡ passed stop s
        by true q = refl
        by false q = omega (arith, passed-le s, ltb-false (passed stop s) (length s) q)

    pub found_at : (p : ℕ) → r ≡ Some p → (p ≡ passed stop s) × (p < length s)
    found_at p f = by (ltb (passed stop s) (length s)) refl (rw scanned at f)
      where
        by : (b : Bool) → ltb (passed stop s) (length s) ≡ b → cond b (Some (passed stop s)) None ≡ Some p → (p ≡ passed stop s) × (p < length s)
        by true q h = let same : passed stop s ≡ p = cc in (sym same, omega (arith, ltb-true (passed stop s) (length s) q))
        by false q h = cc

    pub found_nowhere : r ≡ None → length s ≤ passed stop s
    found_nowhere f = by (ltb (passed stop s) (length s)) refl (rw scanned at f)
      where
        by : (b : Bool) → ltb (passed stop s) (length s) ≡ b → cond b (Some (passed stop s)) None ≡ None → length s ≤ passed stop s
        by true q h = cc
        by false q h = ltb-false (passed stop s) (length s) q

-- ---- room for one more, and a gap closed

module _ (l : List Guid) (p : ℕ) (size : length l ≡ 16) (below : p < 16) where
  -- the places from p on turned up by one, and g put in
  pub room_made : (k n : ℕ) (g : Guid) (ys : List Guid) → 16 ≤ p + k
      → ys ≡ drop n (mid_of p k l) ++ take n (mid_of p k l) → n + 1 ≡ 16 - p → set (put_mid p k l ys) p g ≡ inserted_at l p g
  room_made k n g ys h e f =
      let d : List Guid = drop p l in
      let long : length d ≡ suc n = omega (arith, length-drop p l) in
      let part : mid_of p k l ≡ d = take_all k d (omega arith) in
      let none : drop k d ≡ [] = drop_of_length-le d (omega arith) in
      let last : drop n d ≡ get_or d n nil ∷ [] = rw (drop-cons d n nil (omega arith), drop_of_length-le d {i = suc n} (omega arith)) in
      let turned : ys ≡ get_or d n nil ∷ take n d = e ∙ rw (part, last) in
      let up : take n d ≡ drop p (take 15 l) = ap (λ (i : ℕ). take i d) (omega arith) ∙ between_is l p 15 in
      rw (turned, none) (set_at (take p l) (get_or d n nil) (take n d ++ []) g p (length-take-le p l (omega arith)) ∙ rw (append-nil (take n d), up))

  -- turned down by one, and nil put in behind
  pub gap_closed : (k : ℕ) (ys : List Guid) → 16 ≤ p + k
      → ys ≡ drop 1 (mid_of p k l) ++ take 1 (mid_of p k l) → set (put_mid p k l ys) 15 nil ≡ removed_at l p
  gap_closed k ys h e =
      let size_left : length (take p l ++ drop (suc p) l) ≡ 15 =
      omega (arith, length-append (take p l) (drop (suc p) l), length-take-le p l (omega arith), length-drop (suc p) l) in
      rw (put_mid-rotated p k l ys nil (omega arith) (omega arith) e)
      (set_at (take p l ++ drop (suc p) l) (get_or l p nil) [] nil 15 size_left ∙ append_assoc (take p l) (drop (suc p) l) (nil ∷ []))

-- ---- membership

pub has_any : (g : Guid) (s : List Guid) → list_any (is g) s ≡ has g s
unfolding has
has_any g [] = refl
has_any g (x ∷ xs) = ap (λ (b : Bool). same x g || b) (has_any g xs)

pub length-members : (w : WriterSet) → length w.items ≡ 16 → w.len ≤ 16 → length (members w) ≡ w.len
length-members w size few = length-take-le w.len w.items (omega arith)

-- ---- a GUID put in

-- at its place where another stands there, not at all where it stands there itself
insert_new : (g : Guid) (s : List Guid) → (passed (not_less g) s < length s → same (get_or s (passed (not_less g) s) nil) g ≡ false) → insert g s ≡ take (passed (not_less g) s) s ++ (g ∷ drop (passed (not_less g) s) s)
unfolding insert passed
insert_new g [] h = refl
insert_new g (x ∷ xs) h = by (λ on. insert_new g xs on) (less x g) refl
  where
    p : List Guid → ℕ
    p l = passed (not_less g) l

    by : ((p xs < length xs → same (get_or xs (p xs) nil) g ≡ false) → insert g xs ≡ take (p xs) xs ++ (g ∷ drop (p xs) xs)) → (b : Bool) → less x g ≡ b → insert g (x ∷ xs) ≡ take (p (x ∷ xs)) (x ∷ xs) ++ (g ∷ drop (p (x ∷ xs)) (x ∷ xs))
    by ih true e =
        let on : p xs < length xs → same (get_or xs (p xs) nil) g ≡ false = λ l. (rw e at h) (omega arith) in
        rw (e, ih on)
    by ih false e = let no : same x g ≡ false = (rw e at h) (omega arith) in rw (e, no)

insert-old : (g : Guid) (s : List Guid) → passed (not_less g) s < length s → same (get_or s (passed (not_less g) s) nil) g ≡ true → insert g s ≡ s
unfolding insert passed
insert-old g [] l h = absurd (omega arith)
insert-old g (x ∷ xs) l h = by (λ l' h'. insert-old g xs l' h') (less x g) refl
  where
    by : (passed (not_less g) xs < length xs → same (get_or xs (passed (not_less g) xs) nil) g ≡ true → insert g xs ≡ xs) → (b : Bool) → less x g ≡ b → insert g (x ∷ xs) ≡ x ∷ xs
    by ih true e =
        let l' : suc (passed (not_less g) xs) < suc (length xs) = rw e at l in
        let h' : same (get_or xs (passed (not_less g) xs) nil) g ≡ true = rw e at h in
        rw (e, ih (omega arith) h')
    by ih false e = let yes : same x g ≡ true = rw e at h in rw (e, yes)

take-nils : (m : ℕ) (a : Guid) → take m (replicate (suc m) a) ≡ replicate m a
take-nils zero a = refl
take-nils (suc m) a = ap {B = List Guid} (λ r. a ∷ r) (take-nils m a)

cut_nils : (s : List Guid) (k : ℕ) → length s + k ≡ 15 → take 15 (s ++ replicate (suc k) nil) ≡ s ++ replicate k nil
cut_nils s k whole =
    let h : take (length s + k) (s ++ replicate (suc k) nil) ≡ s ++ replicate k nil = rw (take-append-add, take-nils) in
    rw whole at h

-- the array after an insertion: the new set, nil behind
insert_pads : (s l : List Guid) (g : Guid) (p : ℕ) → l ≡ padded s → p ≤ length s → length s < 16 → inserted_at l p g ≡ padded (take p s ++ (g ∷ drop p s))
insert_pads s l g p e h m =
    let k : ℕ = 15 - length s in
    let room : 16 - length s ≡ suc k = omega arith in
    let whole : length s + k ≡ 15 = omega arith in
    let front : take p l ≡ take p s = rw e (take-append-le p s (replicate (16 - length s) nil) h) in
    let cut : take 15 l ≡ s ++ replicate k nil = rw (e, room) (cut_nils s k whole) in
    let back : drop p (take 15 l) ≡ drop p s ++ replicate k nil = rw cut (drop-append-le p s (replicate k nil) h) in
    let size : length (take p s ++ (g ∷ drop p s)) ≡ suc (length s) =
    omega (arith, length-append (take p s) (g ∷ drop p s), length-take-le p s h, length-drop p s) in
    let left : 16 - length (take p s ++ (g ∷ drop p s)) ≡ k = omega arith in
    rw (front, back, left) (sym (append_assoc (take p s) (g ∷ drop p s) (replicate k nil)))

module _ (w : WriterSet) (g : Guid) (p : ℕ) (size : length w.items ≡ 16) (sound : Sound w) (at : p ≡ passed (not_less g) (members w)) where
  long : length (members w) ≡ w.len
  long = length-members w size sound.few

  pub place_few : p ≤ w.len
  place_few = omega (arith, passed-le (not_less g) (members w), long)

  pub with_old : p < w.len → same (get_or w.items p nil) g ≡ true → w ≡ set_of (insert g (members w))
  unfolding set_of
  with_old h e =
      let e' : same (get_or (members w) (passed (not_less g) (members w)) nil) g ≡ true =
      rw (← at, get_or-take w.len w.items p nil h) e in
      let kept : insert g (members w) ≡ members w = insert-old g (members w) (omega (arith, long)) e' in
      let z : w.items ≡ padded (members w) = sound.nils in
      let n : length (members w) ≡ w.len = long in
      let whole : w ≡ record { len = w.len; items = w.items } = refl in rw kept (cc)

  module _ (other : p < w.len → same (get_or w.items p nil) g ≡ false) where
    grown : insert g (members w) ≡ take p (members w) ++ (g ∷ drop p (members w))
    grown =
        rw at
        (insert_new g (members w)
        (λ h. let h' : p < w.len = omega (arith, long) in rw (← at, get_or-take w.len w.items p nil h') (other h')))

    length_grown : length (insert g (members w)) ≡ w.len + 1
    length_grown =
        rw grown
        (omega (arith, length-append (take p (members w)) (g ∷ drop p (members w)), length-take-le p (members w) (omega (arith, place_few, long)), length-drop p (members w), long, place_few))

    pub with_room : length (insert g (members w)) ≤ 16 → w.len < 16
    with_room h = omega (arith, length_grown)

    pub with_new : (t : List Guid) → t ≡ inserted_at w.items p g → length (insert g (members w)) ≤ 16 → ◌≡◌ {A = WriterSet} (record { len = w.len + 1; items = t }) (set_of (insert g (members w)))
    unfolding set_of
    with_new t e h =
        let n : length (insert g (members w)) ≡ w.len + 1 = length_grown in
        let i : t ≡ padded (insert g (members w)) =
        e
        ∙ rw grown
        (insert_pads (members w) w.items g p sound.nils (omega (arith, place_few, long)) (omega (arith, long, with_room h))) in cc

-- ---- a GUID taken out

remove_found : (g : Guid) (s : List Guid) → passed (is g) s < length s → remove g s ≡ take (passed (is g) s) s ++ drop (suc (passed (is g) s)) s
unfolding remove passed
remove_found g [] h = refl
remove_found g (x ∷ xs) h = by (λ h'. remove_found g xs h') (same x g) refl
  where
    p : List Guid → ℕ
    p l = passed (is g) l

    by : (p xs < length xs → remove g xs ≡ take (p xs) xs ++ drop (suc (p xs)) xs) → (b : Bool) → same x g ≡ b → remove g (x ∷ xs) ≡ take (p (x ∷ xs)) (x ∷ xs) ++ drop (suc (p (x ∷ xs))) (x ∷ xs)
    by ih true e = rw e
    by ih false e = let h' : suc (p xs) < suc (length xs) = rw e at h in rw (e, ih (omega arith))

remove_none : (g : Guid) (s : List Guid) → length s ≤ passed (is g) s → remove g s ≡ s
unfolding remove passed
remove_none g [] h = refl
remove_none g (x ∷ xs) h = by (λ h'. remove_none g xs h') (same x g) refl
  where
    by : (length xs ≤ passed (is g) xs → remove g xs ≡ xs) → (b : Bool) → same x g ≡ b → remove g (x ∷ xs) ≡ x ∷ xs
    by ih true e = let h' : suc (length xs) ≤ 0 = rw e at h in absurd (omega arith)
    by ih false e = let h' : suc (length xs) ≤ suc (passed (is g) xs) = rw e at h in rw (e, ih (omega arith))

nils_more : (m : ℕ) (a : Guid) → replicate m a ++ a ∷ [] ≡ replicate (suc m) a
nils_more zero a = refl
nils_more (suc m) a = ap {B = List Guid} (λ r. a ∷ r) (nils_more m a)

remove_pads : (s l : List Guid) (p : ℕ) → l ≡ padded s → p < length s → length s ≤ 16 → removed_at l p ≡ padded (take p s ++ drop (suc p) s)
remove_pads s l p e h m =
    let k : ℕ = 16 - length s in
    let front : take p l ≡ take p s = rw e (take-append-le p s (replicate k nil) (omega arith)) in
    let back : drop (suc p) l ≡ drop (suc p) s ++ replicate k nil = rw e (drop-append-le (suc p) s (replicate k nil) (omega arith)) in
    let size : length (take p s ++ drop (suc p) s) + 1 ≡ length s =
    omega (arith, length-append (take p s) (drop (suc p) s), length-take-le p s (omega arith), length-drop (suc p) s) in
    let left : 16 - length (take p s ++ drop (suc p) s) ≡ suc k = omega arith in
    rw (front, back, left, ← nils_more k nil) (simp append_assoc)

module _ (w : WriterSet) (g : Guid) (p : ℕ) (size : length w.items ≡ 16) (sound : Sound w) (at : p ≡ passed (is g) (members w)) where
  all-long : length (members w) ≡ w.len
  all-long = length-members w size sound.few

  pub without_none : w.len ≤ p → w ≡ set_of (remove g (members w))
  unfolding set_of
  without_none h =
      let kept : remove g (members w) ≡ members w = remove_none g (members w) (omega (arith, all-long)) in
      let z : w.items ≡ padded (members w) = sound.nils in
      let n : length (members w) ≡ w.len = all-long in
      let whole : w ≡ record { len = w.len; items = w.items } = refl in rw kept (cc)

  pub without_found : (t : List Guid) → p < w.len → t ≡ removed_at w.items p → ◌≡◌ {A = WriterSet} (record { len = w.len - 1; items = t }) (set_of (remove g (members w)))
  unfolding set_of
  without_found t h e =
      let less : remove g (members w) ≡ take p (members w) ++ drop (suc p) (members w) =
      rw at (remove_found g (members w) (omega (arith, all-long))) in
      let n : length (remove g (members w)) ≡ w.len - 1 =
      rw less
      (omega (arith, length-append (take p (members w)) (drop (suc p) (members w)), length-take-le p (members w) (omega (arith, all-long)), length-drop (suc p) (members w), all-long)) in
      let i : t ≡ padded (remove g (members w)) =
      e
      ∙ rw less
      (remove_pads (members w) w.items p sound.nils (omega (arith, all-long)) (omega (arith, all-long, sound.few))) in cc

-- ---- no members

pub empty_members : (w : WriterSet) → Sound w → eqb w.len 0 ≡ is_empty (members w)
empty_members w sound = by w.len w.items (sound-size w sound) sound.few
  where
    by : (n : ℕ) (l : List Guid) → length l ≡ 16 → n ≤ 16 → eqb n 0 ≡ is_empty (take n l)
    by zero l s h = refl
    by (suc n) [] s h = absurd (omega arith)
    by (suc n) (x ∷ l) s h = ne_eqb (suc n) 0 (λ e. omega arith)
