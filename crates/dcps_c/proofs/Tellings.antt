-- The answers of the reads of instances.
--     decided, handled, timed, placed     what was read is what is told
--     hashed                              the same of a KeyHash
--     left_untold, left-told              the list, where the answer has its length
use Prim.Native.Nat.{ℕ}
use mathlib.Core.Path.{◌≡◌, ap, ◌∙◌}
use mathlib.Core.List.{List}
use borrow.Author.Tests.{eq-eqb, ne_eqb}
use lib.ListN.{length}
use Rattle.model.specs.declared.Decision.{Decision}
use Rattle.model.specs.declared.FoundHandle.{FoundHandle}
use Rattle.model.specs.declared.FoundTime.{FoundTime}
use Rattle.model.specs.declared.Listing.{Listing}
use Rattle.model.specs.Reads.{left_read, left_out}
use Rattle.model.specs.State.{places_in}
use Rattle.read_answers.specs.declared.ReadAnswer.{ReadAnswer}
use Rattle.read_answers.specs.Cases.{decision_answer, handle_answer, time_answer, listing_answer, holder_answer}
use Rattle.key_hash.specs.declared.KeyHashed.{KeyHashed}
use Rattle.boundary_reads.specs.ReadAnswers.{told_of, told, told_bytes}
use Rattle.boundary_reads.specs.KeyHashes.{told_key_hash}
use Rattle.instance_reads.specs.declared.HolderPlace.{HolderPlace}
use Rattle.dcps_c.specs.Reads.{place_answer, told_list, boundary_left}

module _ {n : ℕ} (lent left : List ℕ) {a : ReadAnswer} (tells : told_of n left ≡ told a lent) where
  pub retold : {c : ReadAnswer} → a ≡ c → told_of n left ≡ told c lent
  retold e = tells ∙ ap (λ (z : ReadAnswer). told z lent) e

  pub decided : {d f : Decision} → a ≡ decision_answer d → d ≡ f → told_of n left ≡ told (decision_answer f) lent
  decided e r = retold (e ∙ ap decision_answer r)

  pub handled : {d f : FoundHandle} → a ≡ handle_answer d → d ≡ f → told_of n left ≡ told (handle_answer f) lent
  handled e r = retold (e ∙ ap handle_answer r)

  pub timed : {d f : FoundTime} → a ≡ time_answer d → d ≡ f → told_of n left ≡ told (time_answer f) lent
  timed e r = retold (e ∙ ap time_answer r)

  pub placed : (p : HolderPlace) {f : HolderPlace} → a ≡ holder_answer p.stored p.offset p.len → p ≡ f → told_of n left ≡ told (place_answer f) lent
  placed p e r = retold (e ∙ ap place_answer r)

pub hashed : {n : ℕ} (lent left : List ℕ) {k h : KeyHashed} → told_of n left ≡ told_key_hash k lent → k ≡ h → told_of n left ≡ told_key_hash h lent
hashed lent left tells e = tells ∙ ap (λ (z : KeyHashed). told_key_hash z lent) e

module _ (pens gone : List ℕ) (mask : ℕ) (out answer : List ℕ) where
  pub left_untold : (length answer ≡ 24 → ⊥) → told_list 1 out answer ≡ boundary_left pens gone mask out answer
  unfolding boundary_left told told_bytes
  left_untold h = rw (ne_eqb (length answer) 24 h)

  pub left-told : (n : ℕ) (out' answer' : List ℕ) (l : Listing) (a : ReadAnswer) → length answer ≡ 24 → told_of n answer' ≡ told a answer →
      a ≡ listing_answer l → l ≡ left_read (places_in pens) pens gone mask out → out' ≡ left_out (places_in pens) pens gone mask out →
      told_list n out' answer' ≡ boundary_left pens gone mask out answer
  unfolding boundary_left
  left-told n out' answer' l a e tells ea el eo =
      rw (eq-eqb (length answer) 24 e, eo, retold answer answer' tells (ea ∙ ap listing_answer el))
