-- From what the calls of the liveliness crates leave to the call on head and buffers, over plain variables.
--     turns_judged       a call on the writers alone, codes 32 to 36
--     expires-judged     code 37
--     takes_judged       code 38
--     keeps_judged       a call by value, codes 39 and 40; status_same, acknowledge-same say that these leave the writers
--     refuses_judged     a call that its sheet refuses
use Prim.Native.Nat.{ℕ}
use mathlib.Core.Bool.{true}
use mathlib.Core.List.{List, []}
use mathlib.Core.Path.{◌≡◌, refl, sym, ap, ◌∙◌}
use Rattle.model.specs.declared.Called.{Called}
use Rattle.model.specs.declared.Guid.{Guid}
use Rattle.model.specs.declared.Head.{Head}
use Rattle.model.specs.declared.Sheet.{Sheet}
use Rattle.model.specs.declared.TrackerCall.{TrackerCall}
use Rattle.model.specs.declared.TrackerCall.TheVariants.{Expire, TakeLost, TakeStatus, Acknowledge}
use Rattle.model.specs.declared.Writer.{Writer}
use Rattle.model.specs.Answers.{refused_with}
use Rattle.model.specs.Call.{list_in, judged, lent_of, left_of}
use Rattle.model.specs.Calls.{tracker}
use Rattle.model.specs.InstanceCalls.{Turned}
use Rattle.model.specs.Refusals.{sheet_refusal}
use Rattle.model.specs.State.{Lent, State, state_of, lay_out, head_of, writers_in, pens_of, writers_of, lost_of}
use Rattle.model.specs.WellFormed.{counts_ok}
use Rattle.model.specs.Writers.{movers, writers_after, lost_after, tracker_list, tracker_state, tracker_turn, tracker_call}
use Rattle.model.proofs.StateLaws.{Formed, formed_facts, lay_back}
use Rattle.model.proofs.TrackerLaws.{stays, instances_stay}
use Rattle.writer_counts.specs.WriterCalls.{held_by, Turns}
use Rattle.writer_status.specs.Status.{KeepsWriters}
use Rattle.writer_expiry.specs.Losing.{Expires, Takes}
use Rattle.writer_counts.proofs.Turning.{sift-same}
use Rattle.writer_status.proofs.Idle.{take_after}
use Rattle.call_laws.specs.Entered.{Entered, TrackerJudged}
use Rattle.call_laws.specs.Heads.{called}
use Rattle.call_laws.proofs.Chain.{judged_refuses, buffers}
use Rattle.call_laws.proofs.Whole.{tracker-outcome, whole_range}

-- ---- what a call leaves as it is; a late refusal leaves all

module _ (c : TrackerCall) (s : Sheet) (st : State) where
  writers_stay : writers_after c s st.writers ≡ st.writers → (tracker_call c s st).state.writers ≡ st.writers
  unfolding tracker_turn tracker_state
  writers_stay e = stays c s st (λ (t : Turned). t.state.writers) st.writers e (λ n. refl)

  lost-stays : lost_after c (movers c s st.writers) st.lost ≡ st.lost → (tracker_call c s st).state.lost ≡ st.lost
  unfolding tracker_turn tracker_state
  lost-stays e = stays c s st (λ (t : Turned). t.state.lost) st.lost e (λ n. refl)

  nothing_listed : tracker_list c st ≡ [] → (tracker_call c s st).list ≡ []
  unfolding tracker_turn
  nothing_listed e = stays c s st (λ (t : Turned). t.list) [] e (λ n. refl)

-- ---- head and buffers

lent_same : (h h' : Head) (p p' w w' l l' o o' : List ℕ) → h ≡ h' → p ≡ p' → w ≡ w' → l ≡ l' → o ≡ o' → lent_of h p w l o ≡ lent_of h' p' w' l' o'
lent_same h h' p p' w w' l l' o o' eh ep ew el eo = rw (eh, ep, ew, el, eo)

module _ (c : TrackerCall) (s : Sheet) (head : Head) (places : ℕ) (pens writers lost out : List ℕ) (e : Entered places (lent_of head pens writers lost out)) where
  abbrev st : State
  st = held_by head pens writers lost

  abbrev t : Turned
  t = tracker_call c s (held_by head pens writers lost)

  facts : Formed places (lent_of head pens writers lost out)
  facts = formed_facts places (lent_of head pens writers lost out) e.formed

  laid : lay_out places st out ≡ lent_of head pens writers lost out
  unfolding state_of
  laid = lay_back places (lent_of head pens writers lost out) (buffers places (lent_of head pens writers lost out) e) facts

  pens-laid : pens ≡ pens_of places t.state.instances
  unfolding lay_out
  pens-laid = sym (ap (λ (l : Lent). l.pens) laid) ∙ ap (pens_of places) (sym (instances_stay c s st))

  writers-laid : writers_after c s st.writers ≡ st.writers → writers ≡ writers_of t.state.writers
  unfolding lay_out
  writers-laid k = sym (ap (λ (l : Lent). l.writers) laid) ∙ ap writers_of (sym (writers_stay c s st k))

  lost-laid : lost_after c (movers c s st.writers) st.lost ≡ st.lost → lost ≡ lost_of t.state.lost
  unfolding lay_out
  lost-laid k = sym (ap (λ (l : Lent). l.lost) laid) ∙ ap lost_of (sym (lost-stays c s st k))

  out-same : tracker_list c st ≡ [] → out ≡ list_in t.list out
  out-same k = rw (nothing_listed c s st k)

  -- what is returned and left is the turn's, laid out
  whole : (d : TrackerCall) → d ≡ c → 0 ≡ sheet_refusal (tracker d) s st → (r : Called) (writers' lost' out' : List ℕ) → r.answer ≡ t.answer →
      r.head ≡ head_of head.places t.state → writers' ≡ writers_of t.state.writers → lost' ≡ lost_of t.state.lost → out' ≡ list_in t.list out →
      left_of r pens writers' lost' out' ≡ judged places (tracker d) s (lent_of head pens writers lost out)
  unfolding lay_out state_of
  whole d told fine r writers' lost' out' ea eh ew el eo =
      whole_range places (tracker c) s (lent_of head pens writers lost out) e (fine ∙ ap (λ (x : TrackerCall). sheet_refusal (tracker x) s st) told) r.answer
      (lent_of r.head pens writers' lost' out') t refl (tracker-outcome c s st) ea
      (lent_same _ _ _ _ _ _ _ _ _ _ (eh ∙ ap (λ (n : ℕ). head_of n t.state) facts.figure) pens-laid ew el eo)
      ∙ ap (λ (x : TrackerCall). judged places (tracker x) s (lent_of head pens writers lost out)) (sym told)

-- ---- the calls

abbrev LeavesLost : TrackerCall → Type 0
LeavesLost c = (gone lost : List Guid) → lost_after c gone lost ≡ lost

abbrev LeavesOut : TrackerCall → Type 0
LeavesOut c = (st : State) → tracker_list c st ≡ []

abbrev LeavesWriters : TrackerCall → Sheet → Type 0
LeavesWriters c s = (ws : List Writer) → writers_after c s ws ≡ ws

pub status_same : (s : Sheet) → LeavesWriters TakeStatus s
unfolding writers_after
status_same s ws = sift-same ws

pub acknowledge-same : (s : Sheet) → LeavesWriters Acknowledge s
unfolding writers_after
acknowledge-same s ws = sift-same ws

-- a sheet of the call d that meets no refusal
module _ (d : TrackerCall) (s : Sheet) (head : Head) (writers lost out : List ℕ)
    (fine : (pens writers lost : List ℕ) → 0 ≡ sheet_refusal (tracker d) s (held_by head pens writers lost)) (r : Called) where
  pub turns_judged : (c : TrackerCall) → d ≡ c → LeavesLost c → LeavesOut c → (writers' : List ℕ) → Turns c s head writers r writers' →
      TrackerJudged d s head writers lost out r writers' lost out
  turns_judged c told kept unlisted writers' turns places pens e =
      let f = turns pens lost in
      whole c s head places pens writers lost out e d told (fine pens writers lost) r writers' lost out f.answer f.head f.laid
      (lost-laid c s head places pens writers lost out e (kept _ _)) (out-same c s head places pens writers lost out e (unlisted _))

  pub expires-judged : d ≡ Expire → (writers' lost' : List ℕ) → Expires s head writers lost r writers' lost' →
      TrackerJudged d s head writers lost out r writers' lost' out
  expires-judged told writers' lost' expires places pens e =
      let f = expires pens in
      whole Expire s head places pens writers lost out e d told (fine pens writers lost) r writers' lost' out f.settles.answer f.settles.head
      f.settles.laid f.lost_laid (out-same Expire s head places pens writers lost out e refl)

  module _ (counted : counts_ok head (writers_in head.writer_count writers) ≡ true) where
    pub takes_judged : d ≡ TakeLost → (lost' out' : List ℕ) → Takes s head lost out r lost' out' → TrackerJudged d s head writers lost out r writers lost' out'
    takes_judged told lost' out' takes places pens e =
        let f = takes pens writers counted in
        whole TakeLost s head places pens writers lost out e d told (fine pens writers lost) r writers lost' out' f.kept.answer f.kept.head
        (writers-laid TakeLost s head places pens writers lost out e (take_after s _)) f.emptied f.listed

    pub keeps_judged : (c : TrackerCall) → d ≡ c → LeavesWriters c s → LeavesLost c → LeavesOut c → KeepsWriters c s head r →
        TrackerJudged d s head writers lost out r writers lost out
    keeps_judged c told same kept unlisted keeps places pens e =
        let f = keeps pens writers lost counted in
        whole c s head places pens writers lost out e d told (fine pens writers lost) r writers lost out f.answer f.head
        (writers-laid c s head places pens writers lost out e (same _)) (lost-laid c s head places pens writers lost out e (kept _ _))
        (out-same c s head places pens writers lost out e (unlisted _))

-- a sheet of the call d that meets a refusal
pub refuses_judged : (d : TrackerCall) (s : Sheet) (head : Head) (writers lost out : List ℕ) (n : ℕ) →
    ((pens writers lost : List ℕ) → n ≡ sheet_refusal (tracker d) s (held_by head pens writers lost)) → (n ≡ 0 → ⊥) → (r : Called) →
    r ≡ called (refused_with n) head → TrackerJudged d s head writers lost out r writers lost out
unfolding state_of
refuses_judged d s head writers lost out n decided Some-number r e places pens entered =
    ap (λ (x : Called). left_of x pens writers lost out) e
    ∙ judged_refuses places (tracker d) s (lent_of head pens writers lost out) n (decided pens writers lost) Some-number
