-- Laws of the place of a key.
--     lower_le, lower_before, lower_at     what the lower bound is
--     lower_unique                         no other place is so
--     StandsAt                             a key stands at a place: all before it are less
--     InsertsAt                            a key would go in at a place: all before it are less, all from there on greater
--     lower_found, lower_missing           what is found, from the lower bound
--     key_found                            Ok i is found where key i is it, as the keys rise
--     found_at                             Ok i says that it stands at i
--     found_missing                        Err i says that it would go in at i
--     told_place, told_lower                the place that is told either way is the lower bound
--     number-le, insert-le                 of 128 keys at most: no record number above 127, no place to insert above 128
use mathlib.Core.Path.{◌≡◌, refl, sym, ap}
use mathlib.Core.Logic.{⊎_elim}
use mathlib.Core.Bool.{Bool, true, false, ◌&&◌, cond}
use mathlib.Core.List.{List, [], ◌∷◌}
use Prim.Native.Nat.{ℕ, zero, suc, ◌≤◌, ◌<◌}
use native.Mathlib.Nat.{eq-or-lt_of_le}
use native.Mathlib.Omega.{arith}
use lib.Dec.{ltb, eqb}
use lib.ListN.{length, get_or}
use borrow.Author.Tests.{lt-ltb, le-ltb, eq-eqb, ltb-true, ltb-false, eqb-true, eqb-false}
use Rattle.std.specs.Prelude.{Result, Ok, Err}
use Rattle.tables.specs.Keys.{rising}
use Rattle.tables.proofs.KeyLaws.{rising_pairs}
use Rattle.tables.specs.Found.{lower_bound, found_in}

-- a key stands at place i
pub record StandsAt (ks : List ℕ) (k i : ℕ) : Type 0 where
  pub within : i < length ks
  pub before : (j : ℕ) → j < i → get_or ks j 0 < k
  pub here : get_or ks i 0 ≡ k

-- a key would go in at place i
pub record InsertsAt (ks : List ℕ) (k i : ℕ) : Type 0 where
  pub within : i ≤ length ks
  pub before : (j : ℕ) → j < i → get_or ks j 0 < k
  pub behind : (j : ℕ) → i ≤ j → j < length ks → k < get_or ks j 0

-- ---- the lower bound

-- by the test at the first key
lower_step : (Q : ℕ → Type 0) (x : ℕ) (ks : List ℕ) (k : ℕ) → (x < k → Q (suc (lower_bound ks k))) → (k ≤ x → Q zero) → Q (lower_bound (x ∷ ks) k)
unfolding lower_bound
lower_step Q x ks k y n = each (ltb x k) refl
  where
    each : (t : Bool) → ltb x k ≡ t → Q (cond t (suc (lower_bound ks k)) zero)
    each true e = y (ltb-true x k e)
    each false e = n (ltb-false x k e)

-- a key more in front
one_more : (x : ℕ) (ks : List ℕ) (k p : ℕ) → x < k → ((i : ℕ) → i < p → get_or ks i 0 < k) → (i : ℕ) → i < suc p → get_or (x ∷ ks) i 0 < k
one_more x ks k p h b zero l = h
one_more x ks k p h b (suc i) l = b i (omega arith)

pub lower_le : (ks : List ℕ) (k : ℕ) → lower_bound ks k ≤ length ks
unfolding lower_bound
lower_le [] k = omega arith
lower_le (x ∷ ks) k = lower_step (λ (p : ℕ). p ≤ suc (length ks)) x ks k (λ l. omega (arith, lower_le ks k)) (λ l. omega arith)

pub lower_before : (ks : List ℕ) (k i : ℕ) → i < lower_bound ks k → get_or ks i 0 < k
unfolding lower_bound
lower_before [] k = λ i h. absurd (omega arith)
lower_before (x ∷ ks) k =
    lower_step (λ (p : ℕ). (i : ℕ) → i < p → get_or (x ∷ ks) i 0 < k) x ks k
    (λ l. one_more x ks k (lower_bound ks k) l (lower_before ks k))
    (λ l i h. absurd (omega arith))

pub lower_at : (ks : List ℕ) (k : ℕ) → lower_bound ks k < length ks → k ≤ get_or ks (lower_bound ks k) 0
unfolding lower_bound
lower_at [] k = λ h. absurd (omega arith)
lower_at (x ∷ ks) k =
    lower_step (λ (p : ℕ). p < suc (length ks) → k ≤ get_or (x ∷ ks) p 0) x ks k (λ l h. lower_at ks k (omega arith)) (λ l h. l)

pub lower_unique : (ks : List ℕ) (k p : ℕ) → p ≤ length ks → ((i : ℕ) → i < p → get_or ks i 0 < k) → (p < length ks → k ≤ get_or ks p 0) → lower_bound ks k ≡ p
unfolding lower_bound
lower_unique [] k zero h b a = refl
lower_unique [] k (suc p) h b a = absurd (omega arith)
lower_unique (x ∷ ks) k zero h b a = rw (le-ltb x k (a (omega arith)))
lower_unique (x ∷ ks) k (suc p) h b a =
    rw (lt-ltb x k (b zero (omega arith)))
    (ap suc (lower_unique ks k p (omega arith) (λ i l. b (suc i) (omega arith)) (λ l. a (omega arith))))

-- ---- what is found

-- by the two tests at the lower bound
found_step : (Q : Result ℕ ℕ → Type 0) (ks : List ℕ) (k : ℕ)
    → (lower_bound ks k < length ks → get_or ks (lower_bound ks k) 0 ≡ k → Q (Ok (lower_bound ks k)))
    → ((lower_bound ks k < length ks → get_or ks (lower_bound ks k) 0 ≡ k → ⊥) → Q (Err (lower_bound ks k)))
    → Q (found_in ks k)
unfolding found_in
found_step Q ks k y n = each (ltb p (length ks)) (eqb (get_or ks p 0) k) refl refl
  where
    p : ℕ
    p = lower_bound ks k

    each : (s t : Bool) → ltb p (length ks) ≡ s → eqb (get_or ks p 0) k ≡ t → Q (cond (s && t) (Ok p) (Err p))
    each true true d e = y (ltb-true p (length ks) d) (eqb-true (get_or ks p 0) k e)
    each true false d e = n (λ l. eqb-false (get_or ks p 0) k e)
    each false t d e = n (λ l. let h : length ks ≤ p = ltb-false p (length ks) d in absurd (omega arith))

pub found_at : (ks : List ℕ) (k i : ℕ) → found_in ks k ≡ Ok i → StandsAt ks k i
found_at ks k i =
    found_step (λ (r : Result ℕ ℕ). r ≡ Ok i → StandsAt ks k i) ks k
    (λ l e r.
    let q : lower_bound ks k ≡ i = cc in
    let s : StandsAt ks k (lower_bound ks k) = record { within = l; before = lower_before ks k; here = e } in
    rw q at s)
    (λ n r. let z : ◌≡◌ {A = ℕ} 0 1 = cc in absurd (omega arith))

pub found_missing : (ks : List ℕ) (k i : ℕ) → rising ks ≡ true → found_in ks k ≡ Err i → InsertsAt ks k i
found_missing ks k i h =
    found_step (λ (r : Result ℕ ℕ). r ≡ Err i → InsertsAt ks k i) ks k
    (λ l e r. let z : ◌≡◌ {A = ℕ} 0 1 = cc in absurd (omega arith))
    (λ n r. let q : lower_bound ks k ≡ i = cc in rw q at (place n))
  where
    place : (lower_bound ks k < length ks → get_or ks (lower_bound ks k) 0 ≡ k → ⊥) → InsertsAt ks k (lower_bound ks k)
    place n =
        record {
          within = lower_le ks k;
          before = lower_before ks k;
          behind =
              λ j l m.
              let p : ℕ = lower_bound ks k in
              let first : k < get_or ks p 0 = ⊎_elim (λ e. absurd (n (omega arith) (sym e))) (λ q. q) (eq-or-lt_of_le (lower_at ks k (omega arith))) in
              ⊎_elim (λ e. rw (← e) first) (λ q. omega (arith, rising_pairs ks h p j q m)) (eq-or-lt_of_le l);
        }

pub lower_found : (ks : List ℕ) (k p : ℕ) → lower_bound ks k ≡ p → p < length ks → get_or ks p 0 ≡ k → found_in ks k ≡ Ok p
unfolding found_in
lower_found ks k p q l e = rw (q, lt-ltb p (length ks) l, eq-eqb (get_or ks p 0) k e)

pub lower_missing : (ks : List ℕ) (k p : ℕ) → lower_bound ks k ≡ p → (p < length ks → get_or ks p 0 ≡ k → ⊥) → found_in ks k ≡ Err p
lower_missing ks k p q n = found_step (λ (r : Result ℕ ℕ). r ≡ Err p) ks k (λ l e. absurd (n (rw q at l) (rw q at e))) (λ m. ap Err q)

pub key_found : (ks : List ℕ) (k i : ℕ) → rising ks ≡ true → i < length ks → get_or ks i 0 ≡ k → found_in ks k ≡ Ok i
key_found ks k i r l e =
    lower_found ks k i (lower_unique ks k i (omega arith) (λ j m. omega (arith, e, rising_pairs ks r j i m l)) (λ m. omega (arith, e))) l e

abbrev pub told_place : Result ℕ ℕ → ℕ
told_place (Ok i) = i
told_place (Err i) = i

pub told_lower : (ks : List ℕ) (k : ℕ) → told_place (found_in ks k) ≡ lower_bound ks k
told_lower ks k = found_step (λ (r : Result ℕ ℕ). told_place r ≡ lower_bound ks k) ks k (λ l e. refl) (λ n. refl)

-- document 02, request 3
module _ (ks : List ℕ) (k i : ℕ) (most : length ks ≤ 128) where
  pub number-le : found_in ks k ≡ Ok i → i ≤ 127
  number-le f = omega (arith, (found_at ks k i f).within)

  pub insert-le : rising ks ≡ true → found_in ks k ≡ Err i → i ≤ 128
  insert-le r f = omega (arith, (found_missing ks k i r f).within)
