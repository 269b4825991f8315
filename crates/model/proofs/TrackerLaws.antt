-- A tracker call as a call, by the columns of its row.
--     tracker-accepts, tracker_unhanded     what it answers has number 0, and no handle
--     late_number_lem                           the number of a call is that of its late refusal
--     stays, instances_stay                 what its turn leaves it leaves, and it leaves the instances
use Prim.Native.Nat.{ℕ}
use mathlib.Core.Bool.{Bool, true, false, cond}
use mathlib.Core.List.{List}
use mathlib.Core.Path.{◌≡◌, refl, sym, ◌∙◌}
use borrow.Author.Tests.{eqb-true}
use lib.Dec.{eqb}
use Rattle.model.specs.declared.Guid.{Guid}
use Rattle.model.specs.declared.Sheet.{Sheet}
use Rattle.model.specs.declared.TrackerCall.{TrackerCall}
use Rattle.model.specs.declared.TrackerReport.{TrackerReport}
use Rattle.model.specs.declared.TrackerReport.TheVariants.{Moved, MovedAndDue, Lost, Status, Silent}
use Rattle.model.specs.declared.Writer.{Writer}
use Rattle.model.specs.InstanceCalls.{Turned, refused}
use Rattle.model.specs.State.{State}
use Rattle.model.specs.Writers.{tracker_rule, movers, writers_after, told_with, tracker_told, tracker_late, tracker_state, tracker_turn, tracker_call}

module _ (gone : List Guid) (ws : List Writer) (st : State) where
  told-number : (r : TrackerReport) → (told_with r gone ws st).number ≡ 0
  told-number Moved = refl
  told-number MovedAndDue = refl
  told-number Lost = refl
  told-number Status = refl
  told-number Silent = refl

  told-handle : (r : TrackerReport) → (told_with r gone ws st).handle.0 ≡ 0
  told-handle Moved = refl
  told-handle MovedAndDue = refl
  told-handle Lost = refl
  told-handle Status = refl
  told-handle Silent = refl

module _ (c : TrackerCall) (s : Sheet) (st : State) where
  pub tracker-accepts : (tracker_told c s st).number ≡ 0
  tracker-accepts = told-number (movers c s st.writers) (writers_after c s st.writers) st (tracker_rule c).report

  pub tracker_unhanded : (tracker_told c s st).handle.0 ≡ 0
  tracker_unhanded = told-handle (movers c s st.writers) (writers_after c s st.writers) st (tracker_rule c).report

  pub late_number_lem : (tracker_call c s st).answer.number ≡ tracker_late c s st
  unfolding tracker_call tracker_turn
  late_number_lem = each (eqb (tracker_late c s st) 0) refl
    where
      each : (b : Bool) → eqb (tracker_late c s st) 0 ≡ b →
          (cond b (tracker_turn c s st) (refused (tracker_late c s st) st)).answer.number ≡ tracker_late c s st
      each true e = tracker-accepts ∙ sym (eqb-true (tracker_late c s st) 0 e)
      each false e = refl

  -- a late refusal leaves all
  pub stays : {A : Type 0} (f : Turned → A) (x : A) → f (tracker_turn c s st) ≡ x → ((n : ℕ) → f (refused n st) ≡ x) → f (tracker_call c s st) ≡ x
  unfolding tracker_call
  stays {A} f x taken late = each (eqb (tracker_late c s st) 0)
    where
      each : (b : Bool) → f (cond b (tracker_turn c s st) (refused (tracker_late c s st) st)) ≡ x
      each true = taken
      each false = late (tracker_late c s st)

  pub instances_stay : (tracker_call c s st).state.instances ≡ st.instances
  unfolding tracker_turn tracker_state
  instances_stay = stays (λ (t : Turned). t.state.instances) st.instances refl (λ n. refl)
