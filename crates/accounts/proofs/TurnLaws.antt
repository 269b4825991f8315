-- The law of turns of a keyed table, over any record and any key: a turn puts in at most one record, then takes each
-- record through a function of its own, which keeps its key.
--     turn-within        keys rise still
--     turn_at            what is found at a key after it is the key's own turn of what was found there
--     lookup-*           what is found, at the parts of a turn
--     all-*              what holds of every record
--     length-*           how many records
--     pick-between       the records that pass a test, by their keys
--     within-present     a table is what is found in it, in rising order
--     within-rises       the test that keys rise
use mathlib.Core.Bool.{Bool, true, false, not, cond}
use mathlib.Core.List.{List, [], ◌∷◌, map}
use mathlib.Core.Logic.{◌≢◌}
use mathlib.Core.Option.{Option, none, some}
use mathlib.Core.Path.{◌≡◌, refl, sym, ap, ◌∙◌, subst}
use Prim.Native.Nat.{ℕ, zero, suc, ◌+◌, ◌≤◌, ◌<◌}
use native.Mathlib.Omega.{arith}
use borrow.Author.Tests.{eqb-true, eqb-false, ltb-true, ltb-false, eq-eqb, ne_eqb, lt-ltb}
use lib.Dec.{eqb, ltb}
use lib.ListN.{length}
use Rattle.octets.specs.Lay.{All}
use Rattle.model.specs.InstanceRecord.{bit}
use Rattle.model.specs.Tables.{is_some, find, pick, any, kept, sift, put, above, rising}
use Rattle.accounts.specs.Ranges.{between, present}
use Rattle.accounts.proofs.Basics.{missing}
use Rattle.model.proofs.Tests.{split}

module _ {A : Type 0} where
  abbrev pub bind : (A → Option A) → Option A → Option A
  bind f none = none
  bind f (some x) = f x

  abbrev pub test : (A → Bool) → Option A → Bool
  test p none = false
  test p (some x) = p x

module _ {A : Type 0} (key : A → ℕ) where
  abbrev pub keyed : ℕ → A → Bool
  keyed j x = eqb (key x) j

  abbrev pub lookup : ℕ → List A → Option A
  lookup j xs = find (keyed j) xs

  -- keys strictly rising, from lo on and below hi
  abbrev pub Within : ℕ → ℕ → List A → Type 0
  Within lo hi [] = Unit {0}
  Within lo hi (x ∷ xs) = (lo ≤ key x) × (key x < hi) × Within (suc (key x)) hi xs

  -- a function that keeps the key
  abbrev pub Keeps : (A → Option A) → Type 0
  Keeps f = (x y : A) → f x ≡ some y → key y ≡ key x

  pub within_weaken : (lo low hi : ℕ) (xs : List A) → low ≤ lo → Within lo hi xs → Within low hi xs
  within_weaken lo low hi [] h w = tt
  within_weaken lo low hi (x ∷ xs) h w = (omega arith, w.1, w.2)

  lookup_below : (j lo hi : ℕ) (xs : List A) → j < lo → Within lo hi xs → lookup j xs ≡ none
  unfolding find
  lookup_below j lo hi [] h w = refl
  lookup_below j lo hi (x ∷ xs) h w =
      rw (ne_eqb (key x) j (λ q. omega arith)) (lookup_below j (suc (key x)) hi xs (omega arith) w.2)

  pub lookup_key : (j : ℕ) (xs : List A) (y : A) → lookup j xs ≡ some y → key y ≡ j
  unfolding find
  lookup_key j [] y e = missing e
  lookup_key j (x ∷ xs) y e =
      split (eqb (key x) j)
      (λ d. let q : some x ≡ some y = rw d at e in let p : x ≡ y = cc in sym (ap key p) ∙ eqb-true (key x) j d)
      (λ d. lookup_key j xs y (rw d at e))

  pub lookup_all : (P : A → Type 0) (j : ℕ) (xs : List A) (y : A) → All P xs → lookup j xs ≡ some y → P y
  unfolding find
  lookup_all P j [] y a e = missing e
  lookup_all P j (x ∷ xs) y a e =
      split (eqb (key x) j)
      (λ d. let q : some x ≡ some y = rw d at e in let p : x ≡ y = cc in subst P p a.0)
      (λ d. lookup_all P j xs y a.1 (rw d at e))

  pub any_lookup : (j : ℕ) (xs : List A) → any (keyed j) xs ≡ is_some (lookup j xs)
  unfolding any find
  any_lookup j [] = refl
  any_lookup j (x ∷ xs) = split (eqb (key x) j) (λ e. rw e) (λ e. rw e (any_lookup j xs))

  lookup_put : (j : ℕ) (y : A) (xs : List A) → lookup j (put key y xs) ≡ cond (eqb (key y) j) (some y) (lookup j xs)
  unfolding find put
  lookup_put j y [] = refl
  lookup_put j y (x ∷ xs) =
      split (ltb (key x) (key y))
      (λ l. rw l
      (split (eqb (key x) j)
      (λ d. let q : key x ≡ j = eqb-true (key x) j d in let m : key x < key y = ltb-true (key x) (key y) l in rw
      (d, ne_eqb (key y) j (λ p. omega arith)))
      (λ d. rw d (lookup_put j y xs))))
      (λ l. rw l
      (split (eqb (key x) (key y))
      (λ e. rw e
      (split (eqb (key y) j)
      (λ d. rw d)
      (λ d. rw (d, ne_eqb (key x) j (λ q. eqb-false (key y) j d (sym (eqb-true (key x) (key y) e) ∙ q))))))
      (λ e. rw e)))

  pub within-put : (lo hi : ℕ) (y : A) (xs : List A) → lo ≤ key y → key y < hi → Within lo hi xs →
      Within lo hi (put key y xs)
  unfolding put
  within-put lo hi y [] l h w = (l, h, tt)
  within-put lo hi y (x ∷ xs) l h w =
      split (ltb (key x) (key y))
      (λ d. let m : key x < key y = ltb-true (key x) (key y) d in rw d
      (w.0, w.1, within-put (suc (key x)) hi y xs (omega arith) h w.2))
      (λ d. rw d
      (split (eqb (key x) (key y))
      (λ e. rw e (l, h, rw (eqb-true (key x) (key y) e) at w.2))
      (λ e. let m : key y ≤ key x = ltb-false (key x) (key y) d in let n : key x ≢ key y = eqb-false (key x)
      (key y) e in rw e (l, h, (omega arith, w.1, w.2)))))

  within-kept : (lo hi : ℕ) (k : ℕ) (o : Option A) (xs : List A) → ((y : A) → o ≡ some y → key y ≡ k) → lo ≤ k → k < hi →
      Within (suc k) hi xs → Within lo hi (kept o xs)
  within-kept lo hi k none xs e l h w = within_weaken (suc k) lo hi xs (omega arith) w
  within-kept lo hi k (some y) xs e l h w =
      let q : key y ≡ k = e y refl in (omega arith, omega arith, rw q w)

  pub within-sift : (lo hi : ℕ) (f : A → Option A) (xs : List A) → Keeps f → Within lo hi xs → Within lo hi (sift f xs)
  unfolding sift
  within-sift lo hi f [] keeps w = tt
  within-sift lo hi f (x ∷ xs) keeps w =
      within-kept lo hi (key x) (f x) (sift f xs) (keeps x) w.0 w.1 (within-sift (suc (key x)) hi f xs keeps w.2)

  lookup_kept : (j k : ℕ) (o : Option A) (xs : List A) → ((y : A) → o ≡ some y → key y ≡ k) → lookup k xs ≡ none →
      lookup j (kept o xs) ≡ cond (eqb k j) o (lookup j xs)
  unfolding find
  lookup_kept j k none xs e n = split (eqb k j) (λ d. rw (d, ← eqb-true k j d) n) (λ d. rw d)
  lookup_kept j k (some y) xs e n = rw (e y refl)

  pub lookup_sift : (j lo hi : ℕ) (f : A → Option A) (xs : List A) → Keeps f → Within lo hi xs →
      lookup j (sift f xs) ≡ bind f (lookup j xs)
  unfolding find sift
  lookup_sift j lo hi f [] keeps w = refl
  lookup_sift j lo hi f (x ∷ xs) keeps w =
      lookup_kept j (key x) (f x) (sift f xs) (keeps x)
      (lookup_below (key x) (suc (key x)) hi (sift f xs) (omega arith) (within-sift (suc (key x)) hi f xs keeps w.2))
      ∙ split (eqb (key x) j) (λ d. rw d) (λ d. rw d (lookup_sift j (suc (key x)) hi f xs keeps w.2))

  -- ---- a turn

  abbrev pub begin : Option A → List A → List A
  begin none xs = xs
  begin (some y) xs = put key y xs

  abbrev pub begun_at : Option A → ℕ → Option A → Option A
  begun_at none j o = o
  begun_at (some y) j o = cond (eqb (key y) j) (some y) o

  -- the record that is put in has its key below the bound
  abbrev pub Below : ℕ → Option A → Type 0
  Below n none = Unit {0}
  Below n (some y) = key y < n

  pub lookup_begin : (b : Option A) (xs : List A) (j : ℕ) → lookup j (begin b xs) ≡ begun_at b j (lookup j xs)
  lookup_begin none xs j = refl
  lookup_begin (some y) xs j = lookup_put j y xs

  pub within_begin : (n : ℕ) (b : Option A) (xs : List A) → Below n b → Within 0 n xs → Within 0 n (begin b xs)
  within_begin n none xs h w = w
  within_begin n (some y) xs h w = within-put 0 n y xs (omega arith) h w

  module _ (n : ℕ) (b : Option A) (f : A → Option A) (xs : List A) (below : Below n b) (keeps : Keeps f)
      (w : Within 0 n xs) where
    pub turn-within : Within 0 n (sift f (begin b xs))
    turn-within = within-sift 0 n f (begin b xs) keeps (within_begin n b xs below w)

    pub turn_at : (j : ℕ) → lookup j (sift f (begin b xs)) ≡ bind f (begun_at b j (lookup j xs))
    turn_at j = lookup_sift j 0 n f (begin b xs) keeps (within_begin n b xs below w) ∙ ap (bind f) (lookup_begin b xs j)

  pub length-put : (lo hi : ℕ) (y : A) (xs : List A) → Within lo hi xs →
      length (put key y xs) ≡ length xs + bit (not (is_some (lookup (key y) xs)))
  unfolding put find
  length-put lo hi y [] w = refl
  length-put lo hi y (x ∷ xs) w =
      split (ltb (key x) (key y))
      (λ d. let l : key x < key y = ltb-true (key x) (key y) d in rw (d, ne_eqb (key x) (key y) (λ q. omega arith))
      (omega (arith, length-put (suc (key x)) hi y xs w.2)))
      (λ d. let l : key y ≤ key x = ltb-false (key x) (key y) d in rw d
      (split (eqb (key x) (key y))
      (λ e. rw e (omega arith))
      (λ e. rw (e, lookup_below (key y) (suc (key x)) hi xs (omega arith) w.2) (omega arith))))

  -- ---- a table, by its keys

  pub between_ext : (lo n : ℕ) (p q : ℕ → Bool) → ((j : ℕ) → lo ≤ j → p j ≡ q j) → between lo n p ≡ between lo n q
  unfolding between
  between_ext lo zero p q h = refl
  between_ext lo (suc n) p q h = rw (h lo (omega arith), between_ext (suc lo) n p q (λ j l. h j (omega arith)))

  pub present_ext : (lo n : ℕ) (a b : ℕ → Option A) → ((j : ℕ) → lo ≤ j → a j ≡ b j) → present lo n a ≡ present lo n b
  unfolding present
  present_ext lo zero a b h = refl
  present_ext lo (suc n) a b h = rw (h lo (omega arith), present_ext (suc lo) n a b (λ j l. h j (omega arith)))

  empty_at : (j : ℕ) → lookup j [] ≡ none
  unfolding find
  empty_at j = refl

  -- the head at its own key, and the rest behind it
  first-at : (x : A) (xs : List A) → lookup (key x) (x ∷ xs) ≡ some x
  unfolding find
  first-at x xs = rw (eq-eqb (key x) (key x) refl)

  rest_at : (x : A) (xs : List A) (j : ℕ) → key x < j → lookup j (x ∷ xs) ≡ lookup j xs
  unfolding find
  rest_at x xs j l = rw (ne_eqb (key x) j (λ q. omega arith))

  pub pick-between : (lo n : ℕ) (p : A → Bool) (xs : List A) → Within lo (lo + n) xs →
      map key (pick p xs) ≡ between lo n (λ j. test p (lookup j xs))
  unfolding pick between
  pick-between lo zero p [] w = refl
  pick-between lo zero p (x ∷ xs) w = absurd (omega arith)
  pick-between lo (suc n) p [] w = rw (empty_at lo) (pick-between (suc lo) n p [] tt)
  pick-between lo (suc n) p (x ∷ xs) w =
      split (eqb lo (key x))
      (λ e.
      let q : lo ≡ key x = eqb-true lo (key x) e in
      let v : Within (suc lo) (suc lo + n) xs = subst (λ (h : ℕ). Within (suc lo) h xs) (omega arith)
      (rw (← q) at w.2) in
      let i : between (suc lo) n (λ j. test p (lookup j (x ∷ xs))) ≡ map key (pick p xs) =
      between_ext (suc lo) n (λ j. test p (lookup j (x ∷ xs))) (λ j. test p (lookup j xs))
      (λ j l. ap (test p) (rest_at x xs j (omega arith)))
      ∙ sym (pick-between (suc lo) n p xs v) in
      let f : lookup lo (x ∷ xs) ≡ some x = rw q (first-at x xs) in rw (f, i) (split (p x) (λ t. rw (t, q)) (λ t. rw t)))
      (λ e.
      let q : lo ≢ key x = eqb-false lo (key x) e in
      let f : lookup lo (x ∷ xs) ≡ none = lookup_below lo (suc lo) (lo + suc n) (x ∷ xs) (omega arith)
      (omega arith, w.1, w.2) in
      let v : Within (suc lo) (suc lo + n) (x ∷ xs) =
      subst (λ (h : ℕ). Within (suc lo) h (x ∷ xs)) (omega arith) (omega arith, w.1, w.2) in
      rw f (pick-between (suc lo) n p (x ∷ xs) v))

  pub within-present : (lo n : ℕ) (xs : List A) → Within lo (lo + n) xs → xs ≡ present lo n (λ j. lookup j xs)
  unfolding present
  within-present lo zero [] w = refl
  within-present lo zero (x ∷ xs) w = absurd (omega arith)
  within-present lo (suc n) [] w = rw (empty_at lo) (within-present (suc lo) n [] tt)
  within-present lo (suc n) (x ∷ xs) w =
      split (eqb lo (key x))
      (λ e.
      let q : lo ≡ key x = eqb-true lo (key x) e in
      let v : Within (suc lo) (suc lo + n) xs = subst (λ (h : ℕ). Within (suc lo) h xs) (omega arith)
      (rw (← q) at w.2) in
      let i : present (suc lo) n (λ j. lookup j (x ∷ xs)) ≡ xs =
      present_ext (suc lo) n (λ j. lookup j (x ∷ xs)) (λ j. lookup j xs) (λ j l. rest_at x xs j (omega arith))
      ∙ sym (within-present (suc lo) n xs v) in
      let f : lookup lo (x ∷ xs) ≡ some x = rw q (first-at x xs) in rw (f, i))
      (λ e.
      let q : lo ≢ key x = eqb-false lo (key x) e in
      let f : lookup lo (x ∷ xs) ≡ none = lookup_below lo (suc lo) (lo + suc n) (x ∷ xs) (omega arith)
      (omega arith, w.1, w.2) in
      let v : Within (suc lo) (suc lo + n) (x ∷ xs) =
      subst (λ (h : ℕ). Within (suc lo) h (x ∷ xs)) (omega arith) (omega arith, w.1, w.2) in
      rw f (within-present (suc lo) n (x ∷ xs) v))

  -- ---- the test that keys rise

  within-above : (n hi : ℕ) (xs : List A) → Within (suc n) hi xs → above key n xs ≡ true
  unfolding above
  within-above n hi [] w = refl
  within-above n hi (x ∷ xs) w =
      rw (lt-ltb n (key x) (omega arith))
      (within-above n hi xs (within_weaken (suc (key x)) (suc n) hi xs (omega arith) w.2))

  pub within-rises : (lo hi : ℕ) (xs : List A) → Within lo hi xs → rising key xs ≡ true
  unfolding rising
  within-rises lo hi [] w = refl
  within-rises lo hi (x ∷ xs) w = rw (within-above (key x) hi xs w.2) (within-rises (suc (key x)) hi xs w.2)

module _ {A : Type 0} where
  all-kept : (P : A → Type 0) (o : Option A) (xs : List A) → ((y : A) → o ≡ some y → P y) → All P xs → All P (kept o xs)
  all-kept P none xs h a = a
  all-kept P (some y) xs h a = (h y refl, a)

  pub all-sift : (P Q : A → Type 0) (f : A → Option A) (xs : List A) → ((x y : A) → P x → f x ≡ some y → Q y) → All P xs →
      All Q (sift f xs)
  unfolding sift
  all-sift P Q f [] h a = tt
  all-sift P Q f (x ∷ xs) h a =
      all-kept Q (f x) (sift f xs) (λ y e. h x y a.0 e) (all-sift P Q f xs h a.1)

  pub all-pick : (P : A → Type 0) (p : A → Bool) (xs : List A) → All P xs → All P (pick p xs)
  unfolding pick
  all-pick P p [] a = tt
  all-pick P p (x ∷ xs) a = split (p x) (λ e. rw e (a.0, all-pick P p xs a.1)) (λ e. rw e (all-pick P p xs a.1))

  pub length-pick : (p : A → Bool) (xs : List A) → length (pick p xs) ≤ length xs
  unfolding pick
  length-pick p [] = omega arith
  length-pick p (x ∷ xs) =
      split (p x) (λ e. rw e (omega (arith, length-pick p xs))) (λ e. rw e (omega (arith, length-pick p xs)))
