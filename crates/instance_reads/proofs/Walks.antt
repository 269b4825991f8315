-- Handles by position, behind a handle, and of a writer's instance.
--     place_few                                    a place among so many records
--     handle-here, handle_past                     the handle at a position
--     next-refused, next-first, next-after         next_handle_after
--     walk_refused, walk_is                        the handle at a position, as it is read
--     lookup_refused, lookup_is                    the writer lookup, from the place of the first
use Prim.Native.Nat.{ℕ, suc, ◌+◌, ◌≤◌, ◌<◌}
use mathlib.Core.Bool.{Bool}
use mathlib.Core.List.{List, [], ◌∷◌}
use mathlib.Core.Logic.{◌≢◌}
use mathlib.Core.Option.{none, some}
use mathlib.Core.Path.{◌≡◌, refl, ap, ◌∙◌}
use native.Mathlib.Numerals.{add-one}
use native.Mathlib.Omega.{arith}
use borrow.Author.Tests.{eq-eqb, ne_eqb}
use lib.Dec.{eqb}
use lib.ListN.{length, get_or, drop, drop_of_length-le}
use lib.Seq.{drop-cons}
use Rattle.model.specs.declared.FoundHandle.{FoundHandle}
use Rattle.model.specs.declared.FoundHandle.TheVariants.{Is as found_handle_is, Missing as found_handle_missing, Refused as found_handle_refused}
use Rattle.model.specs.declared.Guid.{Guid}
use Rattle.model.specs.declared.Instance.{Instance}
use Rattle.model.specs.declared.InstanceHandle.{InstanceHandle}
use Rattle.model.specs.InstanceRecord.{instance_of}
use Rattle.model.specs.Instances.{has_handle}
use Rattle.model.specs.Reads.{used_in, table_of, table_refusal, handle_found, first, after, next_handle_read, walk_read, writes, lookup_read}
use Rattle.model.specs.State.{instances_in}
use Rattle.model.specs.Tables.{find}
use Rattle.model.proofs.RowLaws.{length_read}
use Rattle.instance_decoding.specs.Parts.{record_at}
use Rattle.tables.specs.Places.{place_of}
use Rattle.model.proofs.Tests.{split}
use Rattle.tables.proofs.Finds.{place_le}
use Rattle.instance_reads.proofs.Table.{count-table, at_place}
use Rattle.instance_reads.proofs.Answers.{refused-handle}

-- ---- of a list

first-here : (xs : List Instance) (i : ℕ) (d : Instance) → i < length xs → first (drop i xs) ≡ some (get_or xs i d)
first-here xs i d h = rw (drop-cons xs i d h)

first_past : (xs : List Instance) (i : ℕ) → length xs ≤ i → first (drop i xs) ≡ none
first_past xs i h = rw (drop_of_length-le xs h)

after_place : (h : InstanceHandle) (xs : List Instance) → after h.0 xs ≡ first (drop (suc (place_of (has_handle h) xs)) xs)
unfolding after place_of
after_place h [] = refl
after_place h (x ∷ xs) = split (eqb x.handle.0 h.0) (λ e. rw e) (λ e. rw e (after_place h xs))

first_place : (p : Instance → Bool) (xs : List Instance) → first (drop (place_of p xs) xs) ≡ find p xs
unfolding place_of find
first_place p [] = refl
first_place p (x ∷ xs) = split (p x) (λ e. rw e) (λ e. rw e (first_place p xs))

pub place_few : (count : ℕ) (t : List ℕ) (p : Instance → Bool) (place : ℕ) → place ≡ place_of p (instances_in count t) → place ≤ count
place_few count t p place e = omega (arith, place_le p (instances_in count t), length_read instance_of 512 count t)

module _ (places : ℕ) (t : List ℕ) where
  -- ---- at a position

  pub handle-here : (i : ℕ) → i < used_in places t → (h : InstanceHandle) → h ≡ (instance_of (record_at t i)).handle →
      found_handle_is h ≡ handle_found 0 (first (drop i (table_of places t)))
  handle-here i l h e =
      rw (first-here (table_of places t) i (instance_of []) (omega (arith, count-table places t)), at_place places t i (instance_of []) l)
      (ap found_handle_is e)

  pub handle_past : (i : ℕ) → used_in places t ≤ i → found_handle_missing ≡ handle_found 0 (first (drop i (table_of places t)))
  handle_past i l = rw (first_past (table_of places t) i (omega (arith, count-table places t)))

  -- ---- as it is read; n is the refusal's number

  module _ (n : ℕ) (en : n ≡ table_refusal places t) where
    pub next-refused : (h : InstanceHandle) → n ≢ 0 → found_handle_refused n ≡ next_handle_read places t h
    unfolding next_handle_read
    next-refused h z = rw (← en) (refused-handle n _ z)

    pub walk_refused : (i : ℕ) → n ≢ 0 → found_handle_refused n ≡ walk_read places t i
    unfolding walk_read
    walk_refused i z = rw (← en) (refused-handle n _ z)

    pub lookup_refused : (g : Guid) → n ≢ 0 → found_handle_refused n ≡ lookup_read places t g
    unfolding lookup_read
    lookup_refused g z = rw (← en) (refused-handle n _ z)

    module _ (z : n ≡ 0) (r : FoundHandle) where
      pub walk_is : (i : ℕ) → r ≡ handle_found 0 (first (drop i (table_of places t))) → r ≡ walk_read places t i
      unfolding walk_read
      walk_is i e = rw (← en, z) e

      pub next-first : (h : InstanceHandle) → h.0 ≡ 0 → r ≡ handle_found 0 (first (drop 0 (table_of places t))) → r ≡ next_handle_read places t h
      unfolding next_handle_read
      next-first h q e = rw (← en, z, eq-eqb h.0 0 q) e

      pub next-after : (h : InstanceHandle) → h.0 ≢ 0 → (count place : ℕ) → count ≡ used_in places t →
          place ≡ place_of (has_handle h) (instances_in count t) → r ≡ handle_found 0 (first (drop (place + 1) (table_of places t))) →
          r ≡ next_handle_read places t h
      unfolding next_handle_read table_of
      next-after h q count place c p e =
          let s : place + 1 ≡ suc (place_of (has_handle h) (instances_in (used_in places t) t)) = add-one place ∙ ap suc (rw c at p) in
          rw (← en, z, ne_eqb h.0 0 q, after_place h (instances_in (used_in places t) t), ← s) e

      pub lookup_is : (g : Guid) (place : ℕ) → place ≡ place_of (writes g) (table_of places t) →
          r ≡ handle_found 0 (first (drop place (table_of places t))) → r ≡ lookup_read places t g
      unfolding lookup_read
      lookup_is g place p e =
          rw (← en, z, ← first_place (writes g) (table_of places t), ← p) e
