-- The list of those left without writers, in Out.
--     list_skip, list-add                                one instance: not listed, listed
--     listed_start, listed-turn, listed-end              the pass over the table
--     listed-few, listed-room, listed-length             how many there are; Out is as long as it was
--     left_short, left-number, left-refused, left-listed left_writerless
use Prim.Native.Nat.{ℕ, zero, suc, ◌+◌, ◌*◌, ◌/◌, ◌≤◌, ◌<◌}
use mathlib.Core.Bool.{Bool, true, false, cond}
use mathlib.Core.List.{List, [], ◌∷◌, ◌++◌, append-nil}
use mathlib.Core.Logic.{◌≢◌}
use mathlib.Core.Path.{◌≡◌, refl, ap, ◌∙◌}
use native.Mathlib.Omega.{arith}
use borrow.Author.Tests.{eq-eqb, ne_eqb}
use lib.ListN.{length, get_or, take, length-append}
use lib.Seq.{take_all, length-take-le}
use Rattle.octets.specs.Octets.{put}
use Rattle.model.specs.declared.Instance.{Instance}
use Rattle.model.specs.declared.Listing.TheVariants.{Listed as listing_listed, Refused as listing_refused}
use Rattle.model.specs.Guids.{guids_in}
use Rattle.model.specs.InstanceCalls.{handle_bytes}
use Rattle.model.specs.Reads.{table_of, left_with, listed, list_refusal, left_refusal, left_read, left_out}
use Rattle.model.specs.Tables.{pick}
use Rattle.model.proofs.HandleLists.{length-list, list_more}
use Rattle.model.proofs.Tests.{split}
use Rattle.tables.proofs.Finds.{pick-take}
use Rattle.instance_reads.specs.Looked.{ListedBy}

-- ---- one instance, of which b was told

pub list_skip : (b : Bool) (k : ℕ) (out more : List ℕ) → b ≡ false → (k ≡ k + cond b 1 0) × (out ≡ cond b more out)
list_skip b k out more e = rw e (omega arith, refl)

pub list-add : (b : Bool) (k : ℕ) (out more now : List ℕ) → b ≡ true → now ≡ more → (k + 1 ≡ k + cond b 1 0) × (now ≡ cond b more out)
list-add b k out more now e q = rw e (refl, q)

-- ---- the pass

pick-le : (p : Instance → Bool) (xs : List Instance) → length (pick p xs) ≤ length xs
unfolding pick
pick-le p [] = omega arith
pick-le p (x ∷ xs) = split (p x) (λ e. rw e (omega (arith, pick-le p xs))) (λ e. rw e (omega (arith, pick-le p xs)))

pub listed_start : (p : Instance → Bool) (xs : List Instance) (out : List ℕ) → ListedBy p (take 0 xs) out 0 out
unfolding pick handle_bytes
listed_start p xs out = record { count = refl; list = refl }

module _ {p : Instance → Bool} {xs : List Instance} {out : List ℕ} {k : ℕ} {after : List ℕ} (l : ListedBy p xs out k after) where
  pub listed-few : k ≤ length xs
  listed-few = omega (arith, l.count, pick-le p xs)

  pub listed-length : length xs * 8 ≤ length out → length after ≡ length out
  listed-length h = ap length l.list ∙ length-list (pick p xs) out (omega (arith, pick-le p xs))

module _ {p : Instance → Bool} (xs : List Instance) (i : ℕ) {out : List ℕ} {k : ℕ} {after : List ℕ} (l : ListedBy p (take i xs) out k after) where
  pub listed-room : i < length xs → (places : ℕ) → length xs ≤ places → places * 8 ≤ length out → k * 8 + 8 ≤ length after
  listed-room h places n m =
      let t : length (take i xs) ≡ i = length-take-le i xs (omega arith) in
      omega (arith, listed-few l, listed-length l (omega arith))

  pub listed-turn : i < length xs → length xs * 8 ≤ length out → (d : Instance) (x : Instance) → x ≡ get_or xs i d →
      (j : ℕ) (now : List ℕ) → j ≡ k + cond (p x) 1 0 → now ≡ cond (p x) (put 8 after (k * 8) x.handle.0) after →
      ListedBy p (take (i + 1) xs) out j now
  listed-turn h m d x e j now ej en =
      let t : length (take i xs) ≡ i = length-take-le i xs (omega arith) in
      let q : pick p (take (i + 1) xs) ≡ pick p (take i xs) ++ cond (p x) (x ∷ []) [] = rw e (pick-take p xs i d h) in
      split (p x)
      (λ b.
      let w : pick p (take (i + 1) xs) ≡ pick p (take i xs) ++ x ∷ [] = rw b at q in
      let f : now ≡ put 8 after (k * 8) x.handle.0 = rw b at en in
      let g : j ≡ k + 1 = rw b at ej in
      record {
        count = rw w (omega (arith, l.count, length-append (pick p (take i xs)) (x ∷ [])));
        list =
            f ∙ rw (w, l.list, l.count) (list_more (pick p (take i xs)) x out (omega (arith, pick-le p (take i xs))));
      })
      (λ b.
      let w : pick p (take (i + 1) xs) ≡ pick p (take i xs) = (rw b at q) ∙ append-nil (pick p (take i xs)) in
      let f : now ≡ after = rw b at en in
      let g : j ≡ k + 0 = rw b at ej in
      record { count = rw w (omega (arith, l.count)); list = rw w (f ∙ l.list) })

  pub listed-end : length xs ≤ i → ListedBy p xs out k after
  listed-end h = rw (take_all i xs h) at l

-- ---- left_writerless

refused-listing : (n k : ℕ) → n ≢ 0 → listing_refused n ≡ listed n k
refused-listing zero k h = absurd (h refl)
refused-listing (suc n) k h = refl

module _ (places : ℕ) (t gone out : List ℕ) where
  pub left_short : length out ≢ 4096 → 1 ≡ left_refusal places t gone out
  unfolding left_refusal
  left_short h = rw (ne_eqb (length out) 4096 h)

  pub left-number : length out ≡ 4096 → (n : ℕ) → n ≡ list_refusal places t gone → n ≡ left_refusal places t gone out
  unfolding left_refusal
  left-number h n e = rw (eq-eqb (length out) 4096 h) e

  module _ (n : ℕ) (en : n ≡ left_refusal places t gone out) (mask : ℕ) where
    pub left-refused : n ≢ 0 → (listing_refused n ≡ left_read places t gone mask out) × (out ≡ left_out places t gone mask out)
    unfolding left_read left_out
    left-refused z = rw (← en, ne_eqb n 0 z) (refused-listing n _ z, refl)

    pub left-listed : n ≡ 0 → (k : ℕ) (after : List ℕ) → ListedBy (left_with (guids_in (length gone / 16) gone) mask) (table_of places t) out k after →
        (listing_listed k ≡ left_read places t gone mask out) × (after ≡ left_out places t gone mask out)
    unfolding left_read left_out
    left-listed z k after l = rw (← en, z) (ap listing_listed l.count, l.list)
