-- The writer lookup, which names the first alive instance in key order whose set has the GUID (02, ticket 6).
--     lookup_right_lem     its answer is one of those that 01 alone allows
--     lookup_first     of the instances that could be named none has a lower key than the named one
--     lookup_only      and no other answer is so: none is free
--     lookup_handles   it goes by the refusal and the handles of those instances, in key order, alone
--     lookup_stays     so while these stay, the answer does
--     lookup_same      over unchanged instances, whichever the number of places
--     lookup_front     and while the first of them stays, whatever is behind it
use Prim.Native.Nat.{ℕ, zero, suc}
use mathlib.Core.Bool.{Bool, true, false, not, or-true, or-false, and-false}
use mathlib.Core.List.{List, [], ◌∷◌}
use mathlib.Core.Option.{Option, none, some, none-ne-some, some-injective}
use mathlib.Core.Path.{◌≡◌, refl, sym, ap, ◌∙◌, subst}
use borrow.Author.Tests.{eq-eqb, ne_eqb, eqb-true, ltb-true, le-leb, lt-leb}
use native.Mathlib.Omega.{arith}
use lib.Dec.{eqb, ltb}
use Rattle.model.specs.declared.FoundHandle.{FoundHandle}
use Rattle.model.specs.declared.FoundHandle.TheVariants.{Is, Missing, Refused}
use Rattle.model.specs.declared.Guid.{Guid}
use Rattle.model.specs.declared.Instance.{Instance}
use Rattle.model.specs.declared.InstanceHandle.{InstanceHandle}
use Rattle.model.specs.Handles.{handle}
use Rattle.model.specs.Reads.{table_of, table_refusal, handle_found, writes, first_written, lookup_read}
use Rattle.model.specs.State.{instance_key}
use Rattle.model.specs.Tables.{find, pick, all, any, above, rising}
use Rattle.model.proofs.Tests.{both, split, clash}
use Rattle.instance_reads.proofs.Table.{whole}
use Rattle.read_laws.specs.Lookups.{writes_at, looked_up, lookup_right, not_below, first_at, names_first, written_handles, first_handle}

-- of several handles the first counts
front : (n : ℕ) (h : InstanceHandle) (hs hs' : List InstanceHandle) → first_handle n (h ∷ hs) ≡ first_handle n (h ∷ hs')
front zero h hs hs' = refl
front (suc n) h hs hs' = refl

module _ (g : Guid) where
  -- an instance more, which the writer does not write
  further : (x : Instance) (xs : List Instance) (r : FoundHandle) → writes g x ≡ false → looked_up 0 xs g r ≡ true → looked_up 0 (x ∷ xs) g r ≡ true
  unfolding any
  further x xs (Refused n) w e = e
  further x xs Missing w e = rw w e
  further x xs (Is h) w e = rw w e

  found_right : (xs : List Instance) → looked_up 0 xs g (handle_found 0 (first_written g xs)) ≡ true
  unfolding find any
  found_right [] = refl
  found_right (x ∷ xs) =
      split (writes g x)
      (λ w. rw (w, eq-eqb x.handle.0 x.handle.0 refl, w))
      (λ w. rw w (further x xs (handle_found 0 (first_written g xs)) w (found_right xs)))

  answer_right : (n : ℕ) (xs : List Instance) → looked_up n xs g (handle_found n (first_written g xs)) ≡ true
  answer_right zero xs = found_right xs
  answer_right (suc n) xs = rw (ne_eqb (suc n) 0 (λ e. omega arith), eq-eqb (suc n) (suc n) refl)

  pub lookup_right_lem : (places : ℕ) (t : List ℕ) → lookup_right places t g (lookup_read places t g) ≡ true
  unfolding lookup_right lookup_read
  lookup_right_lem places t = answer_right (table_refusal places t) (table_of places t)

  -- ---- the lowest key

  behind : (x : Instance) (xs : List Instance) → above instance_key (instance_key x) xs ≡ true → all (not_below g x) xs ≡ true
  unfolding above all
  behind x [] a = refl
  behind x (y ∷ ys) a =
      let b = both (ltb (instance_key x) (instance_key y)) (above instance_key (instance_key x) ys) a in
      rw (le-leb (instance_key x) (instance_key y) (omega (arith, ltb-true (instance_key x) (instance_key y) b.0)), or-true (not (writes g y)))
      (behind x ys b.1)

  lowest : (xs : List Instance) → rising instance_key xs ≡ true → (x : Instance) → first_written g xs ≡ some x → all (not_below g x) xs ≡ true
  unfolding rising find all
  lowest [] r x e = refl
  lowest (y ∷ ys) r x e =
      let b = both (above instance_key (instance_key y) ys) (rising instance_key ys) r in
      split (writes g y)
      (λ w. subst (λ (z : Instance). all (not_below g z) (y ∷ ys) ≡ true) (some-injective y x (rw w at e))
      (rw (le-leb (instance_key y) (instance_key y) (omega arith), or-true (not (writes g y))) (behind y ys b.0)))
      (λ w. rw w (lowest ys b.1 x (rw w at e)))

  found_writes : (xs : List Instance) (x : Instance) → first_written g xs ≡ some x → writes g x ≡ true
  unfolding find
  found_writes [] x e = absurd (none-ne-some x e)
  found_writes (y ∷ ys) x e =
      split (writes g y)
      (λ w. let q : y ≡ x = some-injective y x (rw w at e) in rw (← q) w)
      (λ w. found_writes ys x (rw w at e))

  found_any : (p : Instance → Bool) (xs : List Instance) (x : Instance) → first_written g xs ≡ some x → p x ≡ true → any p xs ≡ true
  unfolding find any
  found_any p [] x e h = absurd (none-ne-some x e)
  found_any p (y ∷ ys) x e h =
      split (writes g y)
      (λ w. let q : y ≡ x = some-injective y x (rw w at e) in rw (q, h))
      (λ w. rw (found_any p ys x (rw w at e) h, or-true (p y)))

  names_first_lem : (n : ℕ) (xs : List Instance) → (n ≡ 0 → rising instance_key xs ≡ true) → names_first g xs (handle_found n (first_written g xs)) ≡ true
  names_first_lem (suc n) xs r = refl
  names_first_lem zero xs r = each (first_written g xs) refl
    where
      each : (o : Option Instance) → first_written g xs ≡ o → names_first g xs (handle_found 0 o) ≡ true
      each none e = refl
      each (some x) e =
          found_any (first_at g x.handle xs) xs x e
          (rw (found_writes xs x e, eq-eqb x.handle.0 x.handle.0 refl) (lowest xs (r refl) x e))

  pub lookup_first : (places : ℕ) (t : List ℕ) → names_first g (table_of places t) (lookup_read places t g) ≡ true
  unfolding lookup_read
  lookup_first places t = names_first_lem (table_refusal places t) (table_of places t) (λ r. (whole places t r).rises)

  -- ---- no other answer

  none_written : (xs : List Instance) → not (any (writes g) xs) ≡ true → Missing ≡ handle_found 0 (first_written g xs)
  unfolding find any
  none_written [] e = refl
  none_written (x ∷ xs) e = split (writes g x) (λ w. clash false (rw w at e) refl) (λ w. rw w (none_written xs (rw w at e)))

  -- with y written, none behind it has the lowest key
  none_behind : (h : InstanceHandle) (y : Instance) (ys zs : List Instance) → writes g y ≡ true → above instance_key (instance_key y) zs ≡ true →
      any (first_at g h (y ∷ ys)) zs ≡ false
  unfolding above any all
  none_behind h y ys [] w a = refl
  none_behind h y ys (z ∷ zs) w a =
      let b = both (ltb (instance_key y) (instance_key z)) (above instance_key (instance_key y) zs) a in
      rw (w, lt-leb (instance_key z) (instance_key y) (ltb-true (instance_key y) (instance_key z) b.0), and-false (writes_at g h z))
      (none_behind h y ys zs w b.1)

  -- with y not written, it makes no difference
  without : (h : InstanceHandle) (y : Instance) (ys zs : List Instance) → writes g y ≡ false → any (first_at g h (y ∷ ys)) zs ≡ any (first_at g h ys) zs
  unfolding any all
  without h y ys [] w = refl
  without h y ys (z ∷ zs) w = rw (w, without h y ys zs w)

  only-first : (h : InstanceHandle) (xs : List Instance) → rising instance_key xs ≡ true → any (first_at g h xs) xs ≡ true →
      Is h ≡ handle_found 0 (first_written g xs)
  unfolding rising find any
  only-first h [] r e = clash false e refl
  only-first h (y ∷ ys) r e =
      let b = both (above instance_key (instance_key y) ys) (rising instance_key ys) r in
      split (writes g y)
      (λ w.
      let q : first_at g h (y ∷ ys) y ≡ true = sym (or-false (first_at g h (y ∷ ys) y)) ∙ (rw (none_behind h y ys ys w b.0) at e) in
      let n : writes_at g h y ≡ true = (both (writes_at g h y) (all (not_below g y) (y ∷ ys)) q).0 in
      rw w (ap (λ (i : ℕ). Is (handle i)) (sym (eqb-true y.handle.0 h.0 (both (writes g y) (eqb y.handle.0 h.0) n).1))))
      (λ w. rw w (only-first h ys b.1 (rw (w, without h y ys ys w) at e)))

  only-answer : (n : ℕ) (xs : List Instance) (r : FoundHandle) → (n ≡ 0 → rising instance_key xs ≡ true) → looked_up n xs g r ≡ true →
      names_first g xs r ≡ true → r ≡ handle_found n (first_written g xs)
  only-answer zero xs (Refused m) s e f = clash false e refl
  only-answer zero xs Missing s e f = none_written xs (both true (not (any (writes g) xs)) e).1
  only-answer zero xs (Is h) s e f = only-first h xs (s refl) f
  only-answer (suc n) xs (Refused m) s e f =
      ap Refused (eqb-true m (suc n) (both (not (eqb (suc n) 0)) (eqb m (suc n)) e).1)
  only-answer (suc n) xs Missing s e f = clash (eqb (suc n) 0) (both (eqb (suc n) 0) (not (any (writes g) xs)) e).0 (ne_eqb (suc n) 0 (λ q. omega arith))
  only-answer (suc n) xs (Is h) s e f = clash (eqb (suc n) 0) (both (eqb (suc n) 0) (any (writes_at g h) xs) e).0 (ne_eqb (suc n) 0 (λ q. omega arith))

  pub lookup_only : (places : ℕ) (t : List ℕ) (r : FoundHandle) → lookup_right places t g r ≡ true → names_first g (table_of places t) r ≡ true →
      r ≡ lookup_read places t g
  unfolding lookup_right lookup_read
  lookup_only places t r e f = only-answer (table_refusal places t) (table_of places t) r (λ n. (whole places t n).rises) e f

  -- ---- the handles of those that are written, in key order

  by_handles : (n : ℕ) (xs : List Instance) → handle_found n (first_written g xs) ≡ first_handle n (written_handles g xs)
  unfolding find pick
  by_handles (suc n) xs = refl
  by_handles zero [] = refl
  by_handles zero (x ∷ xs) = split (writes g x) (λ w. rw w) (λ w. rw w (by_handles zero xs))

  pub lookup_handles : (places : ℕ) (t : List ℕ) → lookup_read places t g ≡ first_handle (table_refusal places t) (written_handles g (table_of places t))
  unfolding lookup_read
  lookup_handles places t = by_handles (table_refusal places t) (table_of places t)

  -- ---- two tables

  module _ (places places' : ℕ) (t t' : List ℕ) (number : table_refusal places t ≡ table_refusal places' t') where
    pub lookup_stays : written_handles g (table_of places t) ≡ written_handles g (table_of places' t') → lookup_read places t g ≡ lookup_read places' t' g
    lookup_stays e = lookup_handles places t ∙ rw (number, e) (sym (lookup_handles places' t'))

    pub lookup_same : table_of places t ≡ table_of places' t' → lookup_read places t g ≡ lookup_read places' t' g
    lookup_same e = lookup_stays (ap (written_handles g) e)

    pub lookup_front : (h : InstanceHandle) (hs hs' : List InstanceHandle) → written_handles g (table_of places t) ≡ h ∷ hs →
        written_handles g (table_of places' t') ≡ h ∷ hs' → lookup_read places t g ≡ lookup_read places' t' g
    lookup_front h hs hs' e f =
        lookup_handles places t ∙ rw (number, e, front (table_refusal places' t') h hs hs', ← f) (sym (lookup_handles places' t'))
