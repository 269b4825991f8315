-- The number of a read's case is the scope document's number of its refusal, 0 for none.
--     filter-number, order-number, delivered_number, next-number, walk_number, lookup_number, would_number, left-number,
--     status_number, changes-number       of each read that has one
use Prim.Native.Nat.{ℕ, zero, suc}
use mathlib.Core.Bool.{Bool, true, false, cond}
use mathlib.Core.List.{List}
use mathlib.Core.Option.{Option, none, some}
use mathlib.Core.Path.{◌≡◌, refl, ap, ◌∙◌}
use Rattle.model.specs.declared.ChangesRead.{ChangesRead}
use Rattle.model.specs.declared.ChangesRead.TheVariants.{Is as changes_is, Refused as changes_refused}
use Rattle.model.specs.declared.Decision.{Decision}
use Rattle.model.specs.declared.FoundHandle.{FoundHandle}
use Rattle.model.specs.declared.FoundTime.{FoundTime}
use Rattle.model.specs.declared.Guid.{Guid}
use Rattle.model.specs.declared.Head.{Head}
use Rattle.model.specs.declared.Instance.{Instance}
use Rattle.model.specs.declared.InstanceHandle.{InstanceHandle}
use Rattle.model.specs.declared.Listing.{Listing}
use Rattle.model.specs.declared.MaybeTime.{MaybeTime}
use Rattle.model.specs.declared.StatusRead.{StatusRead}
use Rattle.model.specs.declared.StatusRead.TheVariants.{Is as status_is, Refused as status_refused}
use Rattle.model.specs.declared.Time.{Time}
use Rattle.model.specs.Reads.{decision, handle_found, time_found_as, time_found, listed, filter_read, order_read, last_delivered_read, next_handle_read, walk_read, lookup_read, would_leave_read, left_read, status_read, changes_read, table_refusal, time_refusal, list_refusal, left_refusal, head_alone, head_status}
use Rattle.read_answers.specs.Cases.{decision_answer, handle_answer, time_answer, listing_answer, status_answer, changes_answer}

-- ---- each kind of answer

of_decision : (n : ℕ) (b : Bool) → (decision_answer (decision n b)).number ≡ n
of_decision zero b = refl
of_decision (suc n) b = refl

of_handle : (n : ℕ) (x : Option Instance) → (handle_answer (handle_found n x)).number ≡ n
of_handle zero none = refl
of_handle zero (some x) = refl
of_handle (suc n) x = refl

of_time_as : (b : Bool) (t : MaybeTime) → (time_answer (time_found_as b t)).number ≡ 0
of_time_as true t = refl
of_time_as false t = refl

of_time : (n : ℕ) (t : MaybeTime) → (time_answer (time_found n t)).number ≡ n
of_time zero t = of_time_as t.present t
of_time (suc n) t = refl

of_listing : (n m : ℕ) → (listing_answer (listed n m)).number ≡ n
of_listing zero m = refl
of_listing (suc n) m = refl

-- ---- each read

module _ (places : ℕ) (t : List ℕ) where
  pub filter-number : (key : Guid) (time : Time) (separation : ℕ) {r : Decision} → r ≡ filter_read places t key time separation →
      (decision_answer r).number ≡ time_refusal places t time
  unfolding filter_read
  filter-number key time separation e = ap (λ (d : Decision). (decision_answer d).number) e ∙ of_decision (time_refusal places t time) _

  pub order-number : (key : Guid) (time : Time) (by_source : Bool) {r : Decision} → r ≡ order_read places t key time by_source →
      (decision_answer r).number ≡ time_refusal places t time
  unfolding order_read
  order-number key time by_source e = ap (λ (d : Decision). (decision_answer d).number) e ∙ of_decision (time_refusal places t time) _

  pub delivered_number : (key : Guid) {r : FoundTime} → r ≡ last_delivered_read places t key → (time_answer r).number ≡ table_refusal places t
  unfolding last_delivered_read
  delivered_number key e = ap (λ (d : FoundTime). (time_answer d).number) e ∙ of_time (table_refusal places t) _

  pub next-number : (h : InstanceHandle) {r : FoundHandle} → r ≡ next_handle_read places t h → (handle_answer r).number ≡ table_refusal places t
  unfolding next_handle_read
  next-number h e = ap (λ (d : FoundHandle). (handle_answer d).number) e ∙ of_handle (table_refusal places t) _

  pub walk_number : (position : ℕ) {r : FoundHandle} → r ≡ walk_read places t position → (handle_answer r).number ≡ table_refusal places t
  unfolding walk_read
  walk_number position e = ap (λ (d : FoundHandle). (handle_answer d).number) e ∙ of_handle (table_refusal places t) _

  pub lookup_number : (g : Guid) {r : FoundHandle} → r ≡ lookup_read places t g → (handle_answer r).number ≡ table_refusal places t
  unfolding lookup_read
  lookup_number g e = ap (λ (d : FoundHandle). (handle_answer d).number) e ∙ of_handle (table_refusal places t) _

  pub would_number : (gone : List ℕ) (mask : ℕ) {r : Decision} → r ≡ would_leave_read places t gone mask →
      (decision_answer r).number ≡ list_refusal places t gone
  unfolding would_leave_read
  would_number gone mask e = ap (λ (d : Decision). (decision_answer d).number) e ∙ of_decision (list_refusal places t gone) _

  pub left-number : (gone : List ℕ) (mask : ℕ) (out : List ℕ) {r : Listing} → r ≡ left_read places t gone mask out →
      (listing_answer r).number ≡ left_refusal places t gone out
  unfolding left_read
  left-number gone mask out e = ap (λ (d : Listing). (listing_answer d).number) e ∙ of_listing (left_refusal places t gone out) _

module _ (h : Head) where
  pub status_number : {r : StatusRead} → r ≡ status_read h → (status_answer r).number ≡ cond (head_alone h) 0 3
  unfolding status_read
  status_number e = ap (λ (d : StatusRead). (status_answer d).number) e ∙ each (head_alone h)
    where
      each : (b : Bool) → (status_answer (cond b (status_is (head_status h)) (status_refused 3))).number ≡ cond b 0 3
      each true = refl
      each false = refl

  pub changes-number : {r : ChangesRead} → r ≡ changes_read h → (changes_answer r).number ≡ cond (head_alone h) 0 3
  unfolding changes_read
  changes-number e = ap (λ (d : ChangesRead). (changes_answer d).number) e ∙ each (head_alone h)
    where
      each : (b : Bool) → (changes_answer (cond b (changes_is h.changes) (changes_refused 3))).number ≡ cond b 0 3
      each true = refl
      each false = refl
