-- From what a call leaves of the whole state to the call on bytes.
--     tracker-outcome, loss_outcome     a call is accepted, or refused with nothing changed
--     whole_range                       from what the code returns and leaves, laid out, to the call on bytes
use Prim.Native.Nat.{ℕ, zero, suc}
use mathlib.Core.Bool.{cond}
use mathlib.Core.Path.{◌≡◌, refl, sym, ap, ◌∙◌}
use mathlib.Core.List.{List}
use lib.Dec.{eqb}
use Rattle.model.specs.declared.Answer.{Answer}
use Rattle.model.specs.declared.Guid.{Guid}
use Rattle.model.specs.declared.Sheet.{Sheet}
use Rattle.model.specs.declared.TrackerCall.{TrackerCall}
use Rattle.model.specs.Answers.{refused_with}
use Rattle.model.specs.Call.{settle, list_in, turn, judged}
use Rattle.model.specs.Calls.{Call}
use Rattle.model.specs.InstanceCalls.{Turned, refused}
use Rattle.model.specs.Joined.{after_loss, loss_call}
use Rattle.model.specs.Refusals.{sheet_refusal}
use Rattle.model.specs.State.{Lent, State, state_of, lay_out}
use Rattle.model.specs.Times.{if_present}
use Rattle.model.specs.Writers.{tracker_turn, tracker_late, tracker_call}
use Rattle.model.proofs.StateLaws.{formed_facts, lay_back}
use Rattle.model.proofs.TrackerLaws.{tracker-accepts}
use Rattle.call_laws.specs.Entered.{Entered}
use Rattle.call_laws.proofs.Chain.{judged-turn, buffers}
use Rattle.call_laws.proofs.InstanceRange.{Outcome, accepts, refuses, picked, unpicked, lefts}

-- ---- accepted, or refused with nothing changed

-- a turn that is taken where the number of its late refusal is 0
late_outcome : (n : ℕ) (t : Turned) (st : State) → t.answer.number ≡ 0 → Outcome st (cond (eqb n 0) t (refused n st))
late_outcome zero t st e = accepts e
late_outcome (suc n) t st e = refuses n (unpicked n t (refused (suc n) st))

pub tracker-outcome : (c : TrackerCall) (s : Sheet) (st : State) → Outcome st (tracker_call c s st)
unfolding tracker_call tracker_turn
tracker-outcome c s st = late_outcome (tracker_late c s st) (tracker_turn c s st) st (tracker-accepts c s st)

pub loss_outcome : (c : TrackerCall) (gone : List Guid) (s : Sheet) (st : State) → Outcome st (loss_call c gone s st)
unfolding loss_call after_loss
loss_outcome c gone s st = late_outcome (tracker_late c s st) (after_loss gone (if_present s.time_1) (tracker_turn c s st)) st refl

-- ---- head and buffers

module _ (places : ℕ) (c : Call) (s : Sheet) (l : Lent) (e : Entered places l) (fine : 0 ≡ sheet_refusal c s (state_of l)) where
  whole_left : (t : Turned) → Outcome (state_of l) t → settle places t l ≡ lefts t.answer (lay_out places t.state (list_in t.list l.out))
  unfolding settle
  whole_left t (accepts a) = picked t.answer.number _ _ a
  whole_left t (refuses n r) =
      rw r (unpicked n _ _ ∙ ap (lefts (refused_with (suc n))) (sym (lay_back places l (buffers places l e) (formed_facts places l e.formed))))

  pub whole_range : (a : Answer) (left : Lent) (t : Turned) → turn places c s (state_of l) ≡ t → Outcome (state_of l) t → a ≡ t.answer →
      left ≡ lay_out places t.state (list_in t.list l.out) → lefts a left ≡ judged places c s l
  whole_range a left t turned o ea el =
      let same : lefts a left ≡ lefts t.answer (lay_out places t.state (list_in t.list l.out)) = rw (ea, el) in
      same ∙ sym (whole_left t o) ∙ ap (λ (u : Turned). settle places u l) (sym turned) ∙ judged-turn places c s l fine
