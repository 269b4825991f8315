-- The turns of the binary search and of the test that keys rise, in the code's own form.
--     Bracket, bracket_start, bracket_up, bracket_down, bracket_end     lo and hi close in on the place of k
--     mid_lt, mid_room, mid_key                                         what stands at the middle
--     find_at, find_other, find-end                                     what is found at the lower bound
--     rise_turn, rise_stop                                              one key more, and the first that does not rise
--     record_le                                                         a record's bytes are within the table
use mathlib.Core.Path.{◌≡◌, refl, sym, ap, ◌∙◌}
use mathlib.Core.Logic.{⊎_elim}
use mathlib.Core.Bool.{Bool, true, false, ◌&&◌, and-false}
use mathlib.Core.List.{List, [], ◌∷◌}
use Prim.Native.Nat.{ℕ, zero, suc, ◌+◌, ◌-◌, ◌*◌, ◌/◌, ◌≤◌, ◌<◌}
use native.Mathlib.Nat.{suc-mul, mul-le-mul_right, eq-or-lt_of_le}
use native.Mathlib.Numerals.{add-one}
use native.Mathlib.Omega.{arith}
use lib.Dec.{ltb}
use lib.ListN.{length, get_or}
use borrow.Author.Tests.{eqb-true, eqb-false}
use Rattle.model.specs.declared.Guid.{Guid}
use Rattle.model.specs.Guids.{num, same, guid_at}
use Rattle.std.specs.Prelude.{Ok, Err}
use Rattle.tables.specs.Keys.{keys, rising}
use Rattle.tables.proofs.KeyLaws.{length-keys, get_or-keys, rising_snoc, rising-left, rising_pairs}
use Rattle.tables.specs.Found.{lower_bound, found_in}
use Rattle.tables.proofs.FoundLaws.{lower_unique, lower_found, lower_missing}

pub record_le : (size : ℕ) {i n : ℕ} → i < n → i * size + size ≤ n * size
record_le size {i} h = omega (arith, mul-le-mul_right size h, suc-mul i size)

-- ---- the binary search

-- all keys before lo are less than k, and none from hi on
pub record Bracket (ks : List ℕ) (k lo hi : ℕ) : Type 0 where
  pub lo_le : lo ≤ hi
  pub hi_le : hi ≤ length ks
  pub below : (i : ℕ) → i < lo → get_or ks i 0 < k
  pub above : (i : ℕ) → hi ≤ i → i < length ks → k ≤ get_or ks i 0

pub bracket_start : (ks : List ℕ) (k lo n : ℕ) → lo ≡ 0 → length ks ≡ n → Bracket ks k lo n
bracket_start ks k lo n z e =
    record {
      lo_le = omega arith;
      hi_le = omega arith;
      below = λ i l. absurd (omega arith);
      above = λ i l m. absurd (omega arith);
    }

-- the middle of a turn, as a place
module _ (size count : ℕ) (t : List ℕ) {k lo hi : ℕ} (b : Bracket (keys size count t) k lo hi) (h : lo < hi) (m : ℕ) (e : m ≡ (lo + hi) / 2) where
  pub mid_lt : m < count
  mid_lt = omega (arith, length-keys size count t, b.hi_le)

  pub mid_room : m * size + size ≤ count * size
  mid_room = record_le size mid_lt

  -- the key g that was read there
  pub mid_key : (g : Guid) → g ≡ guid_at t (m * size) → get_or (keys size count t) ((lo + hi) / 2) 0 ≡ num g
  mid_key g q = rw (← e) (get_or-keys size count t m mid_lt ∙ sym (ap num q))

module _ {ks : List ℕ} {k lo hi : ℕ} (r : rising ks ≡ true) (b : Bracket ks k lo hi) (m : ℕ) (lm : lo ≤ m) (mh : m < hi) where
  -- the keys are in order around m
  at_most : (i j : ℕ) → i ≤ j → j < length ks → get_or ks i 0 ≤ get_or ks j 0
  at_most i j l h = ⊎_elim (λ e. rw e (omega arith)) (λ q. omega (arith, rising_pairs ks r i j q h)) (eq-or-lt_of_le l)

  pub bracket_up : (p : ℕ) → p ≡ m + 1 → get_or ks m 0 < k → Bracket ks k p hi
  bracket_up p e c =
      record {
        lo_le = omega arith;
        hi_le = b.hi_le;
        below = λ i l. omega (arith, at_most i m (omega arith) (omega (arith, b.hi_le)));
        above = b.above;
      }

  pub bracket_down : k ≤ get_or ks m 0 → Bracket ks k lo m
  bracket_down c =
      record {
        lo_le = lm;
        hi_le = omega (arith, b.hi_le);
        below = b.below;
        above = λ i l h. omega (arith, at_most m i l h);
      }

pub bracket_end : (ks : List ℕ) (k lo hi : ℕ) → Bracket ks k lo hi → hi ≤ lo → lo ≡ lower_bound ks k
bracket_end ks k lo hi b h =
    sym (lower_unique ks k lo (omega (arith, b.lo_le, b.hi_le)) b.below (b.above lo h))

module _ (size count : ℕ) (t : List ℕ) (key : Guid) (place : ℕ) (e : place ≡ lower_bound (keys size count t) (num key)) where
  -- the key g that was read at the place
  read : (g : Guid) → g ≡ guid_at t (place * size) → place < count → get_or (keys size count t) place 0 ≡ num g
  read g q h = get_or-keys size count t place h ∙ sym (ap num q)

  pub find_at : (g : Guid) → g ≡ guid_at t (place * size) → place < count → same g key ≡ true → Ok place ≡ found_in (keys size count t) (num key)
  find_at g q h s =
      sym (lower_found (keys size count t) (num key) place (sym e) (omega (arith, length-keys size count t)) (read g q h ∙ eqb-true (num g) (num key) s))

  pub find_other : (g : Guid) → g ≡ guid_at t (place * size) → place < count → same g key ≡ false → Err place ≡ found_in (keys size count t) (num key)
  find_other g q h s =
      sym (lower_missing (keys size count t) (num key) place (sym e) (λ l z. eqb-false (num g) (num key) s (sym (read g q h) ∙ z)))

  pub find-end : count ≤ place → Err place ≡ found_in (keys size count t) (num key)
  find-end h = sym (lower_missing (keys size count t) (num key) place (sym e) (λ l z. omega (arith, length-keys size count t)))

-- ---- keys that rise

-- key i after key i - 1
abbrev pub Rises : ℕ → List ℕ → ℕ → Bool
Rises size t i = ltb (num (guid_at t ((i - 1) * size))) (num (guid_at t (i * size)))

rise_next : (size : ℕ) (t : List ℕ) (i : ℕ) → 0 < i → rising (keys size (i + 1) t) ≡ (rising (keys size i t) && Rises size t i)
unfolding keys
rise_next size t zero h = absurd (omega arith)
rise_next size t (suc j) h =
    let e : suc j - 1 ≡ j = omega arith in
    rw (add-one, e) (rising_snoc (keys size j t) (num (guid_at t (j * size))) (num (guid_at t (suc j * size))))

pub rise_turn : (size : ℕ) (t : List ℕ) (i : ℕ) → 0 < i → rising (keys size i t) ≡ true → Rises size t i ≡ true → rising (keys size (i + 1) t) ≡ true
rise_turn size t i h p q = rise_next size t i h ∙ rw (p, q)

-- the keys of fewer records rise too
fewer : (size n : ℕ) (t : List ℕ) (i : ℕ) → i ≤ n → rising (keys size n t) ≡ true → rising (keys size i t) ≡ true
unfolding keys
fewer size zero t i h r = let e : i ≡ 0 = omega arith in rw e r
fewer size (suc n) t i h r =
    ⊎_elim (λ e. rw e r) (λ l. fewer size n t i (omega arith) (rising-left (keys size n t) (num (guid_at t (n * size)) ∷ []) r)) (eq-or-lt_of_le h)

pub rise_stop : (size n : ℕ) (t : List ℕ) (i : ℕ) → 0 < i → i < n → Rises size t i ≡ false → false ≡ rising (keys size n t)
rise_stop size n t i h l q = each (rising (keys size n t)) refl
  where
    each : (b : Bool) → rising (keys size n t) ≡ b → false ≡ b
    each false e = refl
    each true e =
        let z : (rising (keys size i t) && Rises size t i) ≡ false = rw q (and-false (rising (keys size i t))) in
        sym (sym (fewer size n t (i + 1) (omega arith) e) ∙ rise_next size t i h ∙ z)
