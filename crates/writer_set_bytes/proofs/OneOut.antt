-- One writer taken out of a set.
--     halves_differ, halves_same      the test of two GUIDs, by the lower halves first
--     guid_place                      the place of the first that is g
--     gone_none, gone_one             the set, where g is not in it and where it is
use Prim.Native.Nat.{ℕ, suc, ◌-◌, ◌*◌, ◌^◌, ◌≤◌, ◌<◌}
use mathlib.Core.Bool.{Bool, true, false}
use mathlib.Core.List.{List, [], ◌∷◌, ◌++◌}
use mathlib.Core.Path.{◌≡◌, refl, sym, ap, ◌∙◌}
use native.Mathlib.Omega.{arith}
use borrow.Author.Tests.{eqb-true, eqb-false, eq-eqb, ne_eqb}
use lib.Dec.{eqb}
use lib.ListN.{length, get_or, take, drop, length-append, length-drop}
use lib.Seq.{length-take-le}
use Rattle.octets.specs.Lay.{All, lay}
use Rattle.model.specs.declared.Guid.{Guid}
use Rattle.model.specs.Guids.{num, same, nil, guid_of, guid_at, guids_in, guid_bytes, guids_bytes}
use Rattle.model.specs.Sets.{has}
use Rattle.model.proofs.GuidLaws.{guid-part, length-guid}
use Rattle.model.proofs.RowLaws.{length_read, get_read}
use Rattle.guid.proofs.Digits.{digits-eq}
use Rattle.tables.specs.Gaps.{closed}
use Rattle.tables.specs.Places.{place_of}
use Rattle.tables.proofs.Finds.{place_le, place_unique, place_before, place_at}
use Rattle.tables.proofs.GapLaws.{closed-lay}
use Rattle.writer_set.specs.Places.{padded}
use Rattle.writer_set_bytes.specs.Others.{others}
use Rattle.writer_set_bytes.specs.Walks.{Filled}
use Rattle.writer_set_bytes.proofs.SideBySide.{one_out, none_out}
use Rattle.writer_set_bytes.proofs.WalkLaws.{padded-bytes}

-- ---- two GUIDs

pub halves_differ : (a g : Guid) → a.lo < 2 ^ 64 → g.lo < 2 ^ 64 → (a.lo ≡ g.lo → ⊥) → false ≡ same a g
unfolding num
halves_differ a g p q n = sym (ne_eqb (num a) (num g) (λ e. n (digits-eq (2 ^ 64) a.hi g.hi a.lo g.lo p q e).1))

pub halves_same : (a g : Guid) → a.lo ≡ g.lo → eqb a.hi g.hi ≡ same a g
unfolding num
halves_same a g e = sym (each (eqb a.hi g.hi) refl)
  where
    each : (t : Bool) → eqb a.hi g.hi ≡ t → same a g ≡ t
    each true q = eq-eqb (num a) (num g) (rw (e, eqb-true a.hi g.hi q))
    each false q =
        ne_eqb (num a) (num g)
        (λ z. eqb-false a.hi g.hi q (omega arith))

-- ---- places

module _ (n : ℕ) (t : List ℕ) (g : Guid) where
  abbrev s : List Guid
  s = guids_in n t

  abbrev p : Guid → Bool
  p x = same x g

  guid_read : (i : ℕ) → i < n → get_or s i nil ≡ guid_at t (i * 16)
  guid_read i h = get_read guid_of 16 n t i nil h ∙ guid-part 16 (i * 16) t (omega arith)

  count : length s ≡ n
  count = length_read guid_of 16 n t

  pub guid_place : (i : ℕ) → i ≤ n → ((j : ℕ) → j < i → same (guid_at t (j * 16)) g ≡ false) → (i < n → same (guid_at t (i * 16)) g ≡ true) → i ≡ place_of p s
  guid_place i l b a =
      sym (place_unique p s nil i (omega (arith, count)) (λ j m. rw (guid_read j (omega arith)) (b j m)) (λ m. rw (guid_read i (omega (arith, count))) (a (omega (arith, count)))))

  -- ---- the set

  has_none : (xs : List Guid) → ((j : ℕ) → j < length xs → p (get_or xs j nil) ≡ false) → has g xs ≡ false
  unfolding has
  has_none [] b = refl
  has_none (x ∷ xs) b = rw (b 0 (omega arith)) (has_none xs (λ j m. b (suc j) (omega arith)))

  each_wide : (xs : List Guid) → All (λ (x : Guid). Unit {0}) xs
  each_wide [] = tt
  each_wide (x ∷ xs) = (tt, each_wide xs)

  padded-lay : (xs : List Guid) → length xs ≤ 16 → guids_bytes (padded xs) ≡ lay guid_bytes 16 256 xs
  unfolding lay
  padded-lay xs h = let e : (16 - length xs) * 16 ≡ 256 - length xs * 16 = omega arith in padded-bytes xs ∙ rw e

  module _ (f : Filled n t) (i : ℕ) (e : i ≡ place_of p s) where
    pub place_few : i ≤ n
    place_few = rw e (omega (arith, place_le p s, count))

    pub gone_none : i ≡ n → (n ≡ length (others (g ∷ []) s)) × (t ≡ guids_bytes (padded (others (g ∷ []) s)))
    gone_none h =
        let q : others (g ∷ []) s ≡ s = none_out g s (has_none s (λ j m. place_before p s nil j (omega (arith, count, e)))) in
        rw q (sym count, f.laid)

    pub gone_one : (i ≡ n → ⊥) → (t' : List ℕ) → t' ≡ closed 16 i n t → (n - 1 ≡ length (others (g ∷ []) s)) × (t' ≡ guids_bytes (padded (others (g ∷ []) s)))
    gone_one h t' q =
        let m : i < length s = omega (arith, place_few, count) in
        let w : same (get_or s i nil) g ≡ true = rw e (place_at p s nil (omega (arith, e))) in
        let o : others (g ∷ []) s ≡ take i s ++ drop (suc i) s = one_out g s i f.rises m (eqb-true (num (get_or s i nil)) (num g) w) in
        let k : length (take i s ++ drop (suc i) s) ≡ n - 1 =
        omega (arith, length-append (take i s) (drop (suc i) s), length-take-le i s (omega arith), length-drop (suc i) s, count) in
        let c : closed 16 i (length s) (lay guid_bytes 16 256 s) ≡ lay guid_bytes 16 256 (take i s ++ drop (suc i) s) =
        closed-lay guid_bytes 16 (λ (x : Guid). Unit {0}) (λ x u. length-guid x) 256 s i nil m (each_wide s) (omega (arith, count, f.few)) in
        let t≡ : t ≡ lay guid_bytes 16 256 s = f.laid ∙ padded-lay s (omega (arith, count, f.few)) in
        rw o (
          sym k,
          q ∙ ap (closed 16 i n) t≡ ∙ rw count at c
              ∙ sym (padded-lay (take i s ++ drop (suc i) s) (omega (arith, k, f.few))),
        )
