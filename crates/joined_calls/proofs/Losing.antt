-- A call on the tracker, then the loss of writers: from what the code returns and leaves to the call on bytes.
--     loss_few, loss_passed         the bounds of a pass's tally; what the pass leaves
--     turn_taken                    the tracker's call where no late refusal is met
--     count_kept, kept_losable      it keeps the instance count, so that the pass may run after it
--     loss_left                     the joined call where the tracker's is accepted
--     loss_stays                    where it is refused, nothing is changed
--     leave_left, leave_number      codes 50 and 51
use Prim.Native.Nat.{ℕ, zero, suc}
use mathlib.Core.Bool.{Bool, true, false}
use mathlib.Core.List.{List, [], ◌∷◌}
use mathlib.Core.Path.{◌≡◌, refl, sym, ap, ◌∙◌, subst}
use native.Mathlib.Omega.{arith}
use lib.ListN.{length}
use Rattle.model.specs.declared.Answer.{Answer}
use Rattle.model.specs.declared.Called.{Called}
use Rattle.model.specs.declared.Guid.{Guid}
use Rattle.model.specs.declared.Head.{Head}
use Rattle.model.specs.declared.Instance.{Instance}
use Rattle.model.specs.declared.JoinedCall.{JoinedCall}
use Rattle.model.specs.declared.JoinedCall.TheVariants.{Part, Depart}
use Rattle.model.specs.declared.MaybeTime.{MaybeTime}
use Rattle.model.specs.declared.Sheet.{Sheet}
use Rattle.model.specs.declared.TrackerCall.{TrackerCall}
use Rattle.model.specs.declared.TrackerCall.TheVariants.{Unmatched, LostWithParticipant}
use Rattle.model.specs.Answers.{silent, with_list}
use Rattle.model.specs.Call.{list_in, turn, judged, lent_of, left_of}
use Rattle.model.specs.Calls.{joined}
use Rattle.model.specs.Guids.{guids_in}
use Rattle.model.specs.InstanceCalls.{Turned, refused, unchanged, with_instances}
use Rattle.model.specs.InstanceRecord.{instance_of}
use Rattle.model.specs.Joined.{clearings_in, loses, left_writerless, after_loss, loss_call, joined_call}
use Rattle.model.specs.Refusals.{sheet_refusal}
use Rattle.model.specs.State.{Lent, State, fresh_state, state_of, head_of, lay_out, lost_of, instances_in}
use Rattle.model.specs.Tables.{pick, sift}
use Rattle.model.specs.Writers.{movers, lost_after, tracker_state, tracker_turn, tracker_late, tracker_call}
use Rattle.model.proofs.RowLaws.{length_read}
use Rattle.model.proofs.StateLaws.{formed_facts}
use Rattle.model.proofs.TrackerLaws.{instances_stay}
use Rattle.instance_table.specs.Laid.{Laid}
use Rattle.instance_table.proofs.LaidOut.{table-formed, table-laid}
use Rattle.instance_pass.specs.declared.PassCounts.{PassCounts}
use Rattle.instance_pass.specs.Passes.{Passed}
use Rattle.writer_set_bytes.specs.Lists.{gones_in, Listed}
use Rattle.instance_pass.specs.Steps.{loss_act}
use Rattle.instance_pass.proofs.CallLaws.{Few, passed-few, lost}
use Rattle.instance_pass.proofs.LossLaws.{loss_bounded}
use Rattle.writer_counts.specs.WriterCalls.{held_by, Settles, Turns, leaving}
use Rattle.writer_expiry.specs.Losing.{Leaves}
use Rattle.writer_expiry.proofs.Expiring.{lost-laid}
use Rattle.call_laws.specs.Entered.{Entered}
use Rattle.call_laws.proofs.InstanceRange.{unpicked}
use Rattle.call_laws.proofs.Whole.{loss_outcome, whole_range}
use Rattle.joined_calls.specs.Losses.{Losable, Loses, loss_time, LeaveJudged, departing}
use Rattle.joined_calls.proofs.Entering.{entered_parts}

-- ---- the pass

module _ (s : Sheet) (gone : List ℕ) (count : ℕ) (pens out pens' out' : List ℕ) (r : PassCounts) (at : MaybeTime) (given : at ≡ loss_time s)
    (passed : Passed (loss_act (gones_in gone) at) (instances_in count pens) pens out pens' out' r) where
  p : Passed (loss_act (gones_in gone) (loss_time s)) (instances_in count pens) pens out pens' out' r
  p = rw given at passed

  abbrev xs : List Instance
  xs = instances_in count pens

  pub loss_few : Listed gone → Losable count pens out → Few r 128
  loss_few h d =
      let n : length xs ≡ count = length_read instance_of 512 count pens in
      let w = passed-few (loss_act (gones_in gone) (loss_time s)) xs pens out pens' out' r (loss_bounded gone (loss_time s) (omega (arith, h.few))) p in
      record { kept = omega (arith, w.kept, n, d.table.few); listed = omega (arith, w.listed, n, d.table.few); counted = omega (arith, w.counted, n, d.table.few) }

  pub loss_passed : (called : Called) (a : Answer) → a ≡ with_list called.answer r.counted r.listed →
      Loses s (gones_in gone) xs called pens out record { answer = a; head = called.head } pens' out'
  loss_passed called a e =
      let cleared : r.counted ≡ clearings_in (gones_in gone) (loss_time s) xs = p.counted ∙ (lost (gones_in gone) (loss_time s) (unchanged silent (with_instances xs 1 fresh_state))).counted in
      record {
        answer = e ∙ rw (cleared, p.listed);
        head = refl;
        laid = p.laid;
        list = p.list;
      }

-- ---- the turn of the tracker

module _ (c : TrackerCall) (s : Sheet) (st : State) where
  pub turn_taken : tracker_late c s st ≡ 0 → tracker_call c s st ≡ tracker_turn c s st
  unfolding tracker_call
  turn_taken e = rw e

  turn-refused : (n : ℕ) → tracker_late c s st ≡ suc n → tracker_call c s st ≡ refused (suc n) st
  unfolding tracker_call
  turn-refused n e = rw e (unpicked n (tracker_turn c s st) (refused (suc n) st))

  loss_taken : (gone : List Guid) → tracker_late c s st ≡ 0 → loss_call c gone s st ≡ after_loss gone (loss_time s) (tracker_turn c s st)
  unfolding loss_call
  loss_taken gone e = rw e

  loss_refused : (gone : List Guid) (n : ℕ) → tracker_late c s st ≡ suc n → loss_call c gone s st ≡ refused (suc n) st
  unfolding loss_call
  loss_refused gone n e = rw e (unpicked n (after_loss gone (loss_time s) (tracker_turn c s st)) (refused (suc n) st))

-- the instances are as many as they were
module _ (c : TrackerCall) (s : Sheet) (l : Lent) (r : Called) (writers' : List ℕ) (d : Settles l.head.places (tracker_call c s (state_of l)) r writers') where
  settled-count : r.head.instance_count ≡ l.head.instance_count
  unfolding head_of state_of
  settled-count =
      ap (λ (h : Head). h.instance_count) d.head ∙ ap length (instances_stay c s (state_of l))
      ∙ length_read instance_of 512 l.head.instance_count l.pens

pub count_kept : (c : TrackerCall) (s : Sheet) (head : Head) (pens writers lost : List ℕ) (r : Called) (writers' : List ℕ) →
    Settles head.places (tracker_call c s (held_by head pens writers lost)) r writers' → r.head.instance_count ≡ head.instance_count
count_kept c s head pens writers lost r writers' d =
    settled-count c s (lent_of head pens writers lost []) r writers' d

-- so the instances can be passed over afterwards
pub kept_losable : (c : TrackerCall) (s : Sheet) (head : Head) (pens writers out : List ℕ) (r : Called) (writers' : List ℕ) → Turns c s head writers r writers' →
    Losable head.instance_count pens out → Losable r.head.instance_count pens out
kept_losable c s head pens writers out r writers' d h = rw (count_kept c s head pens writers [] r writers' (d pens [])) h

-- ---- the loss keeps every instance, and the head with them

length-loses : (gone : List Guid) (at : MaybeTime) (xs : List Instance) → length (sift (loses gone at) xs) ≡ length xs
unfolding sift
length-loses gone at [] = refl
length-loses gone at (x ∷ xs) = ap suc (length-loses gone at xs)

head-kept : (places : ℕ) (xs : List Instance) (st : State) → length xs ≡ length st.instances →
    head_of places (with_instances xs st.next_handle st) ≡ head_of places st
unfolding head_of
head-kept places xs st e = rw e

-- ---- head and buffers

lents : (h h' : Head) (pens pens' writers writers' lost lost' out : List ℕ) → h ≡ h' → pens ≡ pens' → writers ≡ writers' → lost ≡ lost' →
    lent_of h pens writers lost out ≡ lent_of h' pens' writers' lost' out
lents h h' pens pens' writers writers' lost lost' out eh ep ew el = rw (eh, ep, ew, el)

-- the tracker's turn, laid out, and the loss make the turn of both, laid out
module _ (places : ℕ) (s : Sheet) (gone : List Guid) (T : Turned) (called r : Called) (pens out pens' writers' lost' out' : List ℕ) (d : Leaves places T called writers' lost')
    (b : Loses s gone T.state.instances called pens out r pens' out') where
  abbrev after : Turned
  after = after_loss gone (loss_time s) T

  after-answer : r.answer ≡ after.answer
  unfolding after_loss
  after-answer =
      b.answer
      ∙ ap (λ (a : Answer). with_list a (clearings_in gone (loss_time s) T.state.instances) (length (pick (left_writerless gone (loss_time s)) T.state.instances))) d.settles.answer

  after-laid : Laid places T.state.instances pens → lent_of r.head pens' writers' lost' out' ≡ lay_out places after.state (list_in after.list out)
  unfolding after_loss lay_out
  after-laid p =
      let h : r.head ≡ head_of places after.state =
      b.head ∙ d.settles.head ∙ sym (head-kept places (sift (loses gone (loss_time s)) T.state.instances) T.state (length-loses gone (loss_time s) T.state.instances)) in
      rw (h, (b.laid places p).laid, d.settles.laid, d.lost_laid, b.list)

module _ (places : ℕ) (k : JoinedCall) (s : Sheet) (l : Lent) (e : Entered places l) (fine : 0 ≡ sheet_refusal (joined k) s (state_of l)) (c : TrackerCall)
    (gone : List Guid) (turned : turn places (joined k) s (state_of l) ≡ loss_call c gone s (state_of l)) where
  abbrev st : State
  st = state_of l

  -- the head says so many places
  at-figure : (r : Called) (writers' lost' : List ℕ) (t : Turned) → Leaves l.head.places t r writers' lost' → Leaves places t r writers' lost'
  at-figure r writers' lost' t d = subst (λ (n : ℕ). Leaves n t r writers' lost') (formed_facts places l e.formed).figure d

  -- the pens are the layout of their instances
  pens-laid : Laid places st.instances l.pens
  unfolding state_of
  pens-laid =
      table-laid places l.head.instance_count l.head.next_handle.0 l.pens e.pens e.pens_bytes
      (table-formed places l.head.instance_count l.head.next_handle.0 l.pens (entered_parts places l e).pens)

  pub loss_left : tracker_late c s st ≡ 0 → (called r : Called) (pens' writers' lost' out' : List ℕ) → Leaves l.head.places (tracker_call c s st) called writers' lost' →
      Loses s gone (instances_in called.head.instance_count l.pens) called l.pens l.out r pens' out' →
      left_of r pens' writers' lost' out' ≡ judged places (joined k) s l
  unfolding state_of tracker_turn tracker_state
  loss_left late called r pens' writers' lost' out' d b =
      let T : Turned = tracker_turn c s st in
      let same : instances_in called.head.instance_count l.pens ≡ instances_in l.head.instance_count l.pens =
      ap (λ (n : ℕ). instances_in n l.pens) (settled-count c s l called writers' d.settles) in
      let u : Loses s gone T.state.instances called l.pens l.out r pens' out' = rw same at b in
      let v : Leaves places T called writers' lost' = at-figure called writers' lost' T (rw (turn_taken c s st late) at d) in
      let t = sym (loss_taken c s st gone late) in
      whole_range places (joined k) s l e fine r.answer (lent_of r.head pens' writers' lost' out') (loss_call c gone s st) turned (loss_outcome c gone s st)
      (after-answer places s gone T called r l.pens l.out pens' writers' lost' out' v u ∙ ap (λ (x : Turned). x.answer) t)
      (after-laid places s gone T called r l.pens l.out pens' writers' lost' out' v u pens-laid
      ∙ ap (λ (x : Turned). lay_out places x.state (list_in x.list l.out)) t)

  stays : (n : ℕ) → tracker_late c s st ≡ n → (n ≡ 0 → ⊥) → (r : Called) (writers' lost' : List ℕ) → Leaves l.head.places (tracker_call c s st) r writers' lost' →
      left_of r l.pens writers' lost' l.out ≡ judged places (joined k) s l
  unfolding lay_out
  stays zero late some r writers' lost' d = absurd (some refl)
  stays (suc n) late some r writers' lost' d =
      let v : Leaves places (refused (suc n) st) r writers' lost' = at-figure r writers' lost' (refused (suc n) st) (rw (turn-refused c s st n late) at d) in
      let t = sym (loss_refused c s st gone n late) in
      let laid : lent_of r.head l.pens writers' lost' l.out ≡ lay_out places st (list_in [] l.out) =
      lents _ _ _ _ _ _ _ _ l.out v.settles.head pens-laid.laid v.settles.laid v.lost_laid in
      whole_range places (joined k) s l e fine r.answer (lent_of r.head l.pens writers' lost' l.out) (loss_call c gone s st) turned (loss_outcome c gone s st)
      (v.settles.answer ∙ ap (λ (x : Turned). x.answer) t)
      (laid ∙ ap (λ (x : Turned). lay_out places x.state (list_in x.list l.out)) t)

  pub loss_stays : (tracker_late c s st ≡ 0 → ⊥) → (r : Called) (writers' lost' : List ℕ) → Leaves l.head.places (tracker_call c s st) r writers' lost' →
      left_of r l.pens writers' lost' l.out ≡ judged places (joined k) s l
  loss_stays late r writers' lost' d = stays (tracker_late c s st) refl late r writers' lost' d

-- ---- codes 50 and 51: one writer, Lost as it is

leaves-judged : (k : JoinedCall) (s : Sheet) (head : Head) (pens writers out : List ℕ) (c : TrackerCall) →
    ((places : ℕ) (st : State) → joined_call places k s st ≡ loss_call c (s.guid ∷ []) s st) → ((st : State) → tracker_late c s st ≡ 0) →
    ((gone lost : List Guid) → lost_after c gone lost ≡ lost) → ((st : State) → 0 ≡ sheet_refusal (joined k) s st) →
    (called r : Called) (pens' writers' out' : List ℕ) → Turns c s head writers called writers' →
    Loses s (s.guid ∷ []) (instances_in called.head.instance_count pens) called pens out r pens' out' →
    LeaveJudged k s head pens writers out r pens' writers' out'
unfolding state_of tracker_turn tracker_state
leaves-judged k s head pens writers out c turned late keeps fine called r pens' writers' out' d b places lost e =
    let l : Lent = lent_of head pens writers lost out in
    let same : (tracker_call c s (state_of l)).state.lost ≡ guids_in head.lost_count lost =
    ap (λ (t : Turned). t.state.lost) (turn_taken c s (state_of l) (late (state_of l))) ∙ keeps (movers c s (state_of l).writers) (guids_in head.lost_count lost) in
    let kept : lost ≡ lost_of (tracker_call c s (state_of l)).state.lost =
    sym (lost-laid head.lost_count lost e.lost_bytes e.lost (entered_parts places l e).lost) ∙ ap lost_of (sym same) in
    loss_left places k s l e (fine (state_of l)) c (s.guid ∷ []) (turned places (state_of l)) (late (state_of l)) called r pens' writers' lost out'
    record { settles = d pens lost; lost_laid = kept } b

module _ (s : Sheet) where
  pub leave_left : (b : Bool) (head : Head) (pens writers out : List ℕ) → ((st : State) → 0 ≡ sheet_refusal (joined (departing b)) s st) →
      (called r : Called) (pens' writers' out' : List ℕ) → Turns (leaving b) s head writers called writers' →
      Loses s (s.guid ∷ []) (instances_in called.head.instance_count pens) called pens out r pens' out' →
      LeaveJudged (departing b) s head pens writers out r pens' writers' out'
  leave_left true head pens writers out =
      leaves-judged Depart s head pens writers out LostWithParticipant (λ places st. refl) (λ st. refl) (λ gone lost. refl)
  leave_left false head pens writers out =
      leaves-judged Part s head pens writers out Unmatched (λ places st. refl) (λ st. refl) (λ gone lost. refl)

  pub leave_number : (b : Bool) (st : State) (n : ℕ) → (n ≡ sheet_refusal (joined Part) s st) × (n ≡ sheet_refusal (joined Depart) s st) →
      n ≡ sheet_refusal (joined (departing b)) s st
  leave_number true st n e = e.1
  leave_number false st n e = e.0
