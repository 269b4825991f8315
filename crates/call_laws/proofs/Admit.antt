-- Code 48 as calls one after the other: where its tests let it through, codes 16, 9 and 10 are each accepted, and what they
-- leave is what code 48 leaves; for a key that was not known, after a further code 16 on the instance now there.
--     admit-calls     the calls
--     admit_again     a further code 16 with the same sheet changes nothing
use Prim.Native.Nat.{ℕ}
use mathlib.Core.Bool.{Bool, true, false, not, ◌&&◌, cond}
use mathlib.Core.List.{[]}
use mathlib.Core.Option.{Option, none, some}
use mathlib.Core.Path.{◌≡◌, refl, ap, ◌∙◌}
use lib.ListN.{length}
use Rattle.model.specs.declared.Guid.{Guid}
use Rattle.model.specs.declared.Instance.{Instance}
use Rattle.model.specs.declared.InstanceCall.TheVariants.{ObserveAdmitted, NoteAdmitted, AcceptUnderExclusiveOwnership}
use Rattle.model.specs.declared.InstanceState.{InstanceState}
use Rattle.model.specs.declared.Sheet.{Sheet}
use Rattle.model.specs.Answers.{both}
use Rattle.model.specs.Handles.{allocated}
use Rattle.model.specs.InstanceCalls.{Turned, known, at_limit, full, spent, crowds, begun, next_after, instances_after, late_refusal, instance_turn, instance_call}
use Rattle.model.specs.Instances.{has_key, started, started_state, admitted_observed, ownership_tried}
use Rattle.model.specs.Joined.{sampled, admitted}
use Rattle.model.specs.Sets.{has}
use Rattle.model.specs.State.{State, instance_key}
use Rattle.model.specs.Tables.{find, put}
use Rattle.model.proofs.AdmitLaws.{touched_found, length_acting, any_acting, find_acting, found_started, admitted-state, accepted_again}
use Rattle.model.proofs.Keeps.{tried_writers, observed_writers}
use Rattle.model.proofs.Tests.{split}

-- ---- refusal 10 asks for the writers alone, which codes 16 and 9 leave

module _ (s : Sheet) where
  crowds-kept : (g : InstanceState → InstanceState) → ((x : InstanceState) → (g x).writers ≡ x.writers) → (o : Option Instance) →
      crowds s (touched_found g o) ≡ crowds s o
  crowds-kept g e none = refl
  crowds-kept g e (some x) = rw (e x.state)

  crowds-started : (k : Guid) (h : ℕ) → crowds s (some (started k h)) ≡ false
  unfolding started started_state has
  crowds-started k h = refl

-- ---- the calls

abbrev three : ℕ → Sheet → State → Turned
three places s st =
    record {
      answer = both (instance_call places ObserveAdmitted s (instance_call places AcceptUnderExclusiveOwnership s st).state).answer
          (instance_call places NoteAdmitted s (instance_call places ObserveAdmitted s (instance_call places AcceptUnderExclusiveOwnership s st).state).state).answer;
      state = (instance_call places NoteAdmitted s (instance_call places ObserveAdmitted s (instance_call places AcceptUnderExclusiveOwnership s st).state).state).state;
      list = [];
    }

-- a call's answer and list, and its state after a further code 16
abbrev then16 : ℕ → Sheet → Turned → Turned
then16 places s t = record { answer = t.answer; state = (instance_call places AcceptUnderExclusiveOwnership s t.state).state; list = t.list }

abbrev four : ℕ → Sheet → State → Turned
four places s st = then16 places s (three places s st)

module _ (places : ℕ) (s : Sheet) (st : State) (room : at_limit s st ≡ false) (place : (not (known s st) && full places st) ≡ false)
    (next : (not (known s st) && spent st) ≡ false) (writers : crowds s (find (has_key s.key) st.instances) ≡ false) where
  abbrev st1 : State
  st1 = (instance_turn AcceptUnderExclusiveOwnership s st).state

  abbrev st2 : State
  st2 = (instance_turn ObserveAdmitted s st1).state

  first-call : instance_call places AcceptUnderExclusiveOwnership s st ≡ instance_turn AcceptUnderExclusiveOwnership s st
  unfolding instance_call late_refusal
  first-call = refl

  known-first : known s st1 ≡ known s st
  unfolding instance_turn instances_after begun
  known-first = any_acting (ownership_tried s) s.key st.instances

  length-first : length st1.instances ≡ length st.instances
  unfolding instance_turn instances_after begun
  length-first = length_acting (ownership_tried s) s.key st.instances

  next-first : st1.next_handle ≡ st.next_handle
  unfolding instance_turn next_after
  next-first = refl

  second_call : instance_call places ObserveAdmitted s st1 ≡ instance_turn ObserveAdmitted s st1
  unfolding instance_call late_refusal
  second_call = rw (known-first, length-first, next-first, room, place, next)

  -- the instance that code 10 reaches has room for the writer
  found_second : find (has_key s.key) st2.instances ≡ touched_found (admitted_observed s) (find (has_key s.key) (begun ObserveAdmitted s st1))
  unfolding instance_turn instances_after
  found_second = find_acting (admitted_observed s) s.key (begun ObserveAdmitted s st1)

  found_first : find (has_key s.key) st1.instances ≡ touched_found (ownership_tried s) (find (has_key s.key) st.instances)
  unfolding instance_turn instances_after begun
  found_first = find_acting (ownership_tried s) s.key st.instances

  begun-writers : crowds s (find (has_key s.key) (begun ObserveAdmitted s st1)) ≡ false
  unfolding begun
  begun-writers = each (known s st1) refl
    where
      each : (b : Bool) → known s st1 ≡ b →
          crowds s (find (has_key s.key) (cond (not b) (put instance_key (started s.key (allocated st1.next_handle).handle.0) st1.instances) st1.instances)) ≡ false
      each true e = ap (crowds s) found_first ∙ crowds-kept s (ownership_tried s) (tried_writers s) (find (has_key s.key) st.instances) ∙ writers
      each false e =
          ap (crowds s) (found_started s.key (allocated st1.next_handle).handle.0 st1.instances e)
          ∙ crowds-started s s.key (allocated st1.next_handle).handle.0

  third_call : instance_call places NoteAdmitted s st2 ≡ instance_turn NoteAdmitted s st2
  unfolding instance_call late_refusal
  third_call =
      let w : crowds s (find (has_key s.key) st2.instances) ≡ false =
      ap (crowds s) found_second ∙ crowds-kept s (admitted_observed s) (observed_writers s) (find (has_key s.key) (begun ObserveAdmitted s st1)) ∙ begun-writers in
      rw w

  sampled-calls : sampled s st ≡ three places s st
  unfolding sampled
  sampled-calls = rw (first-call, second_call, third_call)

  pub admit-calls : admitted s st ≡ cond (known s st) (three places s st) (four places s st)
  admit-calls =
      split (known s st)
      (λ e. rw e (whole e ∙ sampled-calls))
      (λ e. rw e (started_whole ∙ ap (λ (t : Turned). then16 places s t) sampled-calls))
    where
      whole : known s st ≡ true → admitted s st ≡ sampled s st
      whole e = unfold admitted sampled in rw e

      started_whole : admitted s st ≡ then16 places s (sampled s st)
      started_whole =
          unfold instance_call late_refusal in
          rw (← admitted-state s st) (unfold admitted sampled in refl)

-- ---- the same call 16 once more

pub admit_again : (places : ℕ) (s : Sheet) (st : State) →
    (instance_call places AcceptUnderExclusiveOwnership s (admitted s st).state).state ≡ (admitted s st).state
unfolding instance_call late_refusal
admit_again places s st = accepted_again s st
