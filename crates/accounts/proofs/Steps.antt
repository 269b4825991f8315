-- One accepted call, of any code, keeps the state and the accounts in step.
--     passed, roomy      refusals that were not met
--     writers_stay       an instance call leaves the writers' half
--     admit_cases        the chain of admit
--     turned             an accepted call
use mathlib.Core.Bool.{Bool, true, false, not, ◌&&◌, cond}
use mathlib.Core.List.{List, [], ◌∷◌}
use mathlib.Core.Option.{Option, none, some}
use mathlib.Core.Path.{◌≡◌, refl, sym, ap, ◌∙◌}
use Prim.Native.Nat.{ℕ, ◌^◌, ◌<◌}
use borrow.Author.Tests.{leb-false, not-true}
use lib.Dec.{eqb}
use Rattle.octets.specs.Lay.{All}
use Rattle.model.specs.declared.Answer.{Answer}
use Rattle.model.specs.declared.Guid.{Guid}
use Rattle.model.specs.declared.Instance.{Instance}
use Rattle.model.specs.declared.Sheet.{Sheet}
use Rattle.model.specs.Answers.{stopping}
use Rattle.model.specs.Call.{turn}
use Rattle.model.specs.declared.InstanceCall.{InstanceCall}
use Rattle.model.specs.declared.TrackerCall.{TrackerCall}
use Rattle.model.specs.declared.JoinedCall.{JoinedCall}
use Rattle.model.specs.declared.TrackerCall.TheVariants.{Unmatched as unmatched, LostWithParticipant as lost_with_participant, Expire as expire}
use Rattle.model.specs.declared.JoinedCall.TheVariants.{Admit as admit, Lapse as lapse, Part as part, Depart as depart}
use Rattle.model.specs.Calls.{Call, instances, tracker, joined}
use Rattle.model.specs.Guids.{num}
use Rattle.model.specs.InstanceCalls.{Turned, refused, unchanged, with_instances, known, begins, full, spent, crowds, accepted, at_limit, reached, late_refusal, instance_turn, instance_call, instances_after, next_after}
use Rattle.model.specs.Instances.{rule, limited_by, has_key}
use Rattle.model.specs.Joined.{in_order, passes_filter, sampled, admitted, admit_with, after_loss, loss_call}
use Rattle.model.specs.State.{State, instance_key}
use Rattle.model.specs.Tables.{is_some, find}
use Rattle.model.specs.Writers.{movers, tracker_late, tracker_state, tracker_turn, tracker_call}
use Rattle.model.proofs.Fits.{FitsGuid}
use Rattle.model.proofs.Tests.{both, split}
use Rattle.model.proofs.TrackerLaws.{tracker_unhanded}
use Rattle.accounts.specs.Accounts.{seen_as, gone_by, Accounts, advance_by}
use Rattle.accounts.specs.InstanceAccounts.{Event, on_present, losing}
use Rattle.accounts.specs.WriterAccounts.{WriterAccounts, hear, heard_by, writers_after, expired_in}
use Rattle.accounts.proofs.Basics.{never, either}
use Rattle.accounts.proofs.InstanceTurns.{InstanceSim, tracker-heard, limit_heard, stopped_heard, instance-heard, admitted-is, admit-heard, loss_heard}
use Rattle.accounts.proofs.TurnLaws.{lookup, any_lookup}
use Rattle.accounts.proofs.WriterTurns.{WriterSim, Plain, expired_are, writer-heard}

pub record Sim (st : State) (acc : Accounts) : Type 0 where
  pub writers : WriterSim st acc.writers
  pub instances : InstanceSim st acc.instances

-- what the accounts hear of an accepted call
abbrev heard_of : Sheet → Answer → Event
heard_of s a = record { sheet = s; number = 0; handle = a.handle.0; outcome = a.outcome }

abbrev pub advanced : Call → Sheet → Answer → Accounts → Accounts
advanced c s a acc = advance_by (some c) (heard_of s a) acc (hear (seen_as c) s acc.writers)

-- ---- refusals that were not met

pub passed : (b : Bool) (n m : ℕ) → eqb n 0 ≡ false → eqb (cond b n m) 0 ≡ true → (b ≡ false) × (eqb m 0 ≡ true)
passed true n m d e = never (sym e ∙ d)
passed false n m d e = (refl, e)

pub and_false : (a b : Bool) → (a && b) ≡ false → a ≡ true → b ≡ false
and_false true b e d = e
and_false false b e d = never (sym d)

-- the late refusals that an accepted instance call did not meet
pub record Roomy (places : ℕ) (c : InstanceCall) (s : Sheet) (st : State) : Type 0 where
  pub room_for_one : begins c s st ≡ true → full places st ≡ false
  pub handles : begins c s st ≡ true → st.next_handle < 2 ^ 63
  pub writers : (rule c).adds_writer ≡ true → crowds s (reached c s st.instances) ≡ false

pub roomy : (places : ℕ) (c : InstanceCall) (s : Sheet) (st : State) → eqb (late_refusal places c s st) 0 ≡ true →
    Roomy places c s st
unfolding late_refusal
roomy places c s st e =
    let p = passed (begins c s st && full places st) 9 _ refl e in
    let q = passed (begins c s st && spent st) 13 _ refl p.1 in
    let r = passed ((rule c).adds_writer && crowds s (reached c s st.instances)) 10 0 refl q.1 in
    record {
      room_for_one = λ b. and_false (begins c s st) (full places st) p.0 b;
      handles = λ b. leb-false (2 ^ 63) st.next_handle (and_false (begins c s st) (spent st) q.0 b);
      writers = λ b. and_false (rule c).adds_writer (crowds s (reached c s st.instances)) r.0 b;
    }

-- ---- instance calls

writers_stay : (st : State) (xs : List Instance) (n : ℕ) (acc : WriterAccounts) → WriterSim st acc →
    WriterSim (with_instances xs n st) acc
writers_stay st xs n acc m =
    record {
      rising = m.rising;
      agree = m.agree;
      lost = m.lost;
      acknowledged_alive = m.acknowledged_alive;
      acknowledged_not_alive = m.acknowledged_not_alive;
      last = m.last;
      changes = m.changes;
    }

instance-writers : (c : InstanceCall) (s : Sheet) (st : State) (acc : WriterAccounts) → WriterSim st acc →
    WriterSim (instance_turn c s st).state acc
unfolding instance_turn
instance-writers c s st acc m = writers_stay st (instances_after c s st) (next_after c s st) acc m

instance_turned : (places : ℕ) (c : InstanceCall) (s : Sheet) (st : State) (acc : Accounts) → FitsGuid s.key →
    Sim st acc →
    eqb (instance_call places c s st).answer.number 0 ≡ true →
    Sim (instance_call places c s st).state (advanced (instances c) s (instance_call places c s st).answer acc)
unfolding instance_call
instance_turned places c s st acc f m ok =
    split (limited_by (rule c).reach && at_limit s st)
    (λ l.
    let p = both (limited_by (rule c).reach) (at_limit s st) l in
    rw l record {
      writers = m.writers;
      instances = limit_heard st acc.instances c s [] p.0 (not-true (known s st) (both _ _ p.1).0) m.instances;
    })
    (λ l.
    split (eqb (late_refusal places c s st) 0)
    (λ e.
    rw (l, e) record {
      writers = instance-writers c s st acc.writers m.writers;
      instances = instance-heard st acc.instances c s [] (instance_turn c s st).answer.outcome f (roomy places c s st e).handles m.instances;
    })
    (λ e. never (sym (rw (l, e) at ok) ∙ e)))

-- ---- tracker calls

tracker_turned : (c : TrackerCall) (s : Sheet) (st : State) (acc : Accounts) → FitsGuid s.guid →
    All Plain st.writers → Sim st acc →
    eqb (tracker_call c s st).answer.number 0 ≡ true →
    Sim (tracker_call c s st).state (advanced (tracker c) s (tracker_call c s st).answer acc)
unfolding tracker_call tracker_turn
tracker_turned c s st acc g f m ok =
    split (eqb (tracker_late c s st) 0)
    (λ e.
    rw e record {
      writers = writer-heard c s st acc.writers g f m.writers;
      instances =
          unfold tracker_state in tracker-heard st (tracker_state c s st) acc.instances c
          (heard_of s (tracker_turn c s st).answer)
          (gone_by (tracker c) s (expired_in acc.writers.at (writers_after c s acc.writers.at))) refl refl
          (tracker_unhanded c s st) m.instances;
    })
    (λ e. never (sym (rw e at ok) ∙ e))

-- ---- joined calls

-- the chain of admit: an outcome, a refusal, or what is admitted, where nothing stops it
pub admit_cases : (P : Turned → Type 0) (places : ℕ) (s : Sheet) (st : State) (x : Option Instance) →
    ((n : ℕ) → eqb n 0 ≡ false → P (unchanged (stopping n) st)) → ((n : ℕ) → eqb n 0 ≡ false → P (refused n st)) →
    ((not (known s st) && full places st) ≡ false → (not (known s st) && spent st) ≡ false → crowds s x ≡ false →
    not (accepted s x) ≡ false → P (admitted s st)) →
    P (admit_with places s st x)
unfolding admit_with
admit_cases P places s st x stopped barred taken =
    either P (not (in_order s x)) _ _ (λ e. stopped 1 refl)
    (λ e1. either P (not (passes_filter s x)) _ _ (λ e. stopped 2 refl)
    (λ e2. either P (at_limit s st) _ _ (λ e. stopped 3 refl)
    (λ e3. either P (not (known s st) && full places st) _ _ (λ e. barred 9 refl)
    (λ e4. either P (not (known s st) && spent st) _ _ (λ e. barred 13 refl)
    (λ e5. either P (crowds s x) _ _ (λ e. barred 10 refl)
    (λ e6. either P (not (accepted s x)) _ _ (λ e. stopped 4 refl) (λ e7. taken e4 e5 e6 e7)))))))

-- a new key that refusal 13 does not stop has a handle to come
pub handle-free : (s : Sheet) (st : State) → (not (known s st) && spent st) ≡ false →
    lookup instance_key (num s.key) st.instances ≡ none → st.next_handle < 2 ^ 63
handle-free s st e n =
    let k : known s st ≡ false = any_lookup instance_key (num s.key) st.instances ∙ ap is_some n in
    leb-false (2 ^ 63) st.next_handle (rw k at e)

admit_turned : (places : ℕ) (s : Sheet) (st : State) (acc : Accounts) (x : Option Instance) → FitsGuid s.key →
    Sim st acc →
    eqb (admit_with places s st x).answer.number 0 ≡ true →
    Sim (admit_with places s st x).state (advanced (joined admit) s (admit_with places s st x).answer acc)
admit_turned places s st acc x f m =
    admit_cases
    (λ (t : Turned). eqb t.answer.number 0 ≡ true → Sim t.state
    (advanced (joined admit) s t.answer acc)) places s st x
    (λ n e ok. record { writers = m.writers; instances = stopped_heard st acc.instances s n [] e m.instances })
    (λ n e ok. never (sym ok ∙ e))
    (λ e4 e5 e6 e7 ok. taken e5)
  where
    taken : (not (known s st) && spent st) ≡ false →
        Sim (admitted s st).state (advanced (joined admit) s (admitted s st).answer acc)
    taken e =
        record {
          writers =
              rw (admitted-is s st)
              (instance-writers _ s _ acc.writers
              (instance-writers _ s _ acc.writers
              (instance-writers _ s _ acc.writers (instance-writers _ s st acc.writers m.writers))));
          instances = unfold admitted sampled in admit-heard s st acc.instances f m.instances (handle-free s st e) [];
        }

-- a tracker call, then codes 7 and 18 for each writer gone
loss_turned : (c : TrackerCall) (d : JoinedCall) (s : Sheet) (st : State) (acc : Accounts) (gs : List Guid) →
    FitsGuid s.guid →
    All Plain st.writers → Sim st acc → seen_as (joined d) ≡ some c →
    gs ≡ gone_by (joined d) s (expired_in acc.writers.at (writers_after c s acc.writers.at)) →
    ((e : Event) (gone : List Guid) (j : ℕ) (x : Instance) → on_present (joined d) e gone j x ≡ losing gone e.sheet x) →
    eqb (loss_call c gs s st).answer.number 0 ≡ true →
    Sim (loss_call c gs s st).state (advanced (joined d) s (loss_call c gs s st).answer acc)
unfolding loss_call after_loss tracker_turn
loss_turned c d s st acc gs g f m seen gone losing ok =
    split (eqb (tracker_late c s st) 0)
    (λ e.
    rw (e, seen, ← gone) record {
      writers = writers_stay (tracker_state c s st) _ _ (heard_by c s acc.writers (writers_after c s acc.writers.at))
          (writer-heard c s st acc.writers g f m.writers);
      instances =
          unfold tracker_state in loss_heard st _ acc.instances d s gs refl refl (λ j x. losing _ gs j x) m.instances;
    })
    (λ e. never (sym (rw e at ok) ∙ e))

joined_turned : (places : ℕ) (c : JoinedCall) (s : Sheet) (st : State) (acc : Accounts) → FitsGuid s.key →
    FitsGuid s.guid →
    All Plain st.writers → Sim st acc → eqb (turn places (joined c) s st).answer.number 0 ≡ true →
    Sim (turn places (joined c) s st).state (advanced (joined c) s (turn places (joined c) s st).answer acc)
joined_turned places admit s st acc k g f m ok =
    admit_turned places s st acc (find (has_key s.key) st.instances) k m ok
joined_turned places lapse s st acc k g f m ok =
    loss_turned expire lapse s st acc (movers expire s st.writers) g f m refl
    (expired_are s st.writers acc.writers.at g f m.writers.rising m.writers.agree)
    (λ e gone j x. refl) ok
joined_turned places part s st acc k g f m ok =
    loss_turned unmatched part s st acc (s.guid ∷ []) g f m refl refl (λ e gone j x. refl) ok
joined_turned places depart s st acc k g f m ok =
    loss_turned lost_with_participant depart s st acc (s.guid ∷ []) g f m refl refl (λ e gone j x. refl) ok

-- ---- any accepted call

pub turned : (places : ℕ) (c : Call) (s : Sheet) (st : State) (acc : Accounts) → FitsGuid s.key → FitsGuid s.guid →
    All Plain st.writers → Sim st acc → eqb (turn places c s st).answer.number 0 ≡ true →
    Sim (turn places c s st).state (advanced c s (turn places c s st).answer acc)
turned places (instances c) s st acc k g f m ok = instance_turned places c s st acc k m ok
turned places (tracker c) s st acc k g f m ok = tracker_turned c s st acc g f m ok
turned places (joined c) s st acc k g f m ok = joined_turned places c s st acc k g f m ok
