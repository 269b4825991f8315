-- Instances that are left without writers: the test of one, the first of them, and their list.
--     left_dead, left_unseen, left_empty, left_is        the test, by the flags
--     gone-test                                          one writer is among those gone
--     list_odd, list-long, list_fine, list-free          the refusal for a list of GUIDs
--     would_refused, would_is                            would_leave_writerless
use Prim.Native.Nat.{ℕ, zero, suc, ◌+◌, ◌*◌, ◌/◌, ◌%◌, ◌≤◌, ◌<◌}
use mathlib.Core.Bool.{Bool, true, false, not}
use mathlib.Core.List.{List, [], ◌∷◌}
use mathlib.Core.Logic.{◌≢◌, ⊎_elim}
use mathlib.Core.Path.{◌≡◌, refl, sym, ap, ◌∙◌}
use native.Mathlib.Omega.{arith}
use borrow.Author.Tests.{eq-eqb, ne_eqb, le-leb, lt-leb, lt-ltb, le-ltb}
use lib.Dec.{eqb, ltb}
use lib.ListN.{length, drop}
use Rattle.octets.specs.Octets.{be}
use Rattle.model.specs.declared.Decision.TheVariants.{Is as decision_is, Refused as decision_refused}
use Rattle.model.specs.declared.Guid.{Guid}
use Rattle.model.specs.declared.Instance.{Instance}
use Rattle.model.specs.Guids.{guid_of, guid_at, guids_in}
use Rattle.model.specs.InstanceRecord.{instance_of}
use Rattle.model.specs.Layout.{read_rows}
use Rattle.model.specs.Reads.{used_in, table_of, table_refusal, view_in, among, left_with, list_ok, list_refusal, would_leave_read}
use Rattle.model.specs.Sets.{has, is_empty}
use Rattle.model.specs.Tables.{all, pick}
use Rattle.instance_decoding.proofs.Rows.{guid-in}
use Rattle.tables.specs.Places.{place_of}
use Rattle.model.proofs.Tests.{split, lt-or-le}
use Rattle.instance_reads.proofs.Answers.{refused-decision}
use Rattle.instance_reads.proofs.Members.{alive-flag, dead_flag, view_flag, members_read}
use Rattle.instance_reads.proofs.Scans.{row}
use Rattle.instance_reads.proofs.Table.{count-table}

-- ---- the test, by the flags f of the record r

some_guids : (n : ℕ) (t : List ℕ) → n ≢ 0 → is_empty (guids_in n t) ≡ false
unfolding read_rows
some_guids zero t h = absurd (h refl)
some_guids (suc n) t h = refl

module _ (r : List ℕ) (f : ℕ) (ef : f ≡ be 2 r 24) (gone : List Guid) (mask : ℕ) where
  pub left_dead : 16384 ≤ f → false ≡ left_with gone mask (instance_of r)
  unfolding left_with
  left_dead h = rw (dead_flag r f ef h)

  module _ (h : f < 16384) (v : Bool) (ev : v ≡ view_in mask (eqb (f / 8192 % 2) 1)) where
    pub left_unseen : v ≡ false → false ≡ left_with gone mask (instance_of r)
    unfolding left_with
    left_unseen q = rw (alive-flag r f ef h, view_flag r f ef, ← ev, q)

    module _ (q : v ≡ true) (l : f % 32 ≤ 16) where
      pub left_empty : f % 32 ≡ 0 → false ≡ left_with gone mask (instance_of r)
      unfolding left_with read_rows
      left_empty z = rw (alive-flag r f ef h, view_flag r f ef, ← ev, q, members_read r f ef l, z)

      pub left_is : f % 32 ≢ 0 → (b : Bool) → b ≡ all (among gone) (guids_in (f % 32) (drop 256 r)) → b ≡ left_with gone mask (instance_of r)
      unfolding left_with
      left_is z b e =
          rw (alive-flag r f ef h, view_flag r f ef, ← ev, q, members_read r f ef l, some_guids (f % 32) (drop 256 r) z) e

-- x was read, and b was told of it
pub gone-test : (r : List ℕ) (i : ℕ) (gone : List Guid) (x : Guid) (b : Bool) → x ≡ guid_at r (256 + i * 16) → b ≡ has x gone →
    among gone (row guid_of 16 (drop 256 r) i) ≡ b
gone-test r i gone x b e q = rw (guid-in r i, ← e) (sym q)

-- ---- the refusal for a list of GUIDs

module _ (places : ℕ) (t gone : List ℕ) where
  pub list_odd : length gone % 16 ≢ 0 → 1 ≡ list_refusal places t gone
  unfolding list_refusal
  list_odd h = rw (ne_eqb (length gone % 16) 0 h)

  module _ (e : length gone % 16 ≡ 0) where
    pub list-long : 4096 < length gone → 1 ≡ list_refusal places t gone
    unfolding list_refusal
    list-long h = rw (eq-eqb (length gone % 16) 0 e, lt-leb (length gone) 4096 h)

    pub list_fine : length gone ≤ 4096 → (n : ℕ) → n ≡ table_refusal places t → n ≡ list_refusal places t gone
    unfolding list_refusal
    list_fine h n q = rw (eq-eqb (length gone % 16) 0 e, le-leb (length gone) 4096 h) q

  pub list-free : list_refusal places t gone ≡ 0 → table_refusal places t ≡ 0
  unfolding list_refusal
  list-free = split (list_ok gone) (λ q. rw q (λ z. z)) (λ q. rw q (λ z. absurd (omega arith)))

-- ---- the first

shift : (a b : ℕ) → ltb a b ≡ ltb (suc a) (suc b)
shift a b =
    ⊎_elim (λ l. lt-ltb a b l ∙ sym (lt-ltb (suc a) (suc b) (omega arith))) (λ l. le-ltb a b l ∙ sym (le-ltb (suc a) (suc b) (omega arith)))
    (lt-or-le a b)

-- some record is picked where there is a first
some_picked : (p : Instance → Bool) (xs : List Instance) → ltb (place_of p xs) (length xs) ≡ not (eqb (length (pick p xs)) 0)
unfolding pick place_of
some_picked p [] = refl
some_picked p (x ∷ xs) =
    split (p x)
    (λ e. rw (e, lt-ltb 0 (suc (length xs)) (omega arith), ne_eqb (suc (length (pick p xs))) 0 (λ z. omega arith)))
    (λ e. rw e (sym (shift (place_of p xs) (length xs)) ∙ some_picked p xs))

module _ (places : ℕ) (t gone : List ℕ) (mask n : ℕ) (en : n ≡ list_refusal places t gone) where
  pub would_refused : n ≢ 0 → decision_refused n ≡ would_leave_read places t gone mask
  unfolding would_leave_read
  would_refused h = rw (← en) (refused-decision n _ h)

  pub would_is : n ≡ 0 → (count place : ℕ) → count ≡ used_in places t →
      place ≡ place_of (left_with (guids_in (length gone / 16) gone) mask) (table_of places t) →
      decision_is (ltb place count) ≡ would_leave_read places t gone mask
  unfolding would_leave_read
  would_is z count place c p =
      rw (← en, z, p, c, ← count-table places t)
      (ap decision_is (some_picked (left_with (guids_in (length gone / 16) gone) mask) (table_of places t)))
