-- What a call of a list answers, in a state that is held.
--     answered         an accepted call's answer is that of its turn
--     Real, real       so a handle is answered only by a call that starts or admits, and then it is the instance's
--     real_next        the same of the next call of a list
use mathlib.Core.Bool.{Bool, true, false, not, ◌&&◌, cond}
use mathlib.Core.List.{List, [], ◌∷◌}
use mathlib.Core.Option.{none, some}
use mathlib.Core.Path.{◌≡◌, refl, sym, ap, ◌∙◌, subst}
use Prim.Native.Nat.{ℕ}
use borrow.Author.Tests.{not-false}
use lib.Dec.{eqb}
use Rattle.octets.specs.Bounds.{Bytes}
use Rattle.model.specs.declared.Answer.{Answer}
use Rattle.model.specs.declared.Guid.{Guid}
use Rattle.model.specs.declared.Instance.{Instance}
use Rattle.model.specs.declared.Sheet.{Sheet}
use Rattle.model.specs.Call.{Left, turn, call_in}
use Rattle.model.specs.declared.InstanceCall.{InstanceCall}
use Rattle.model.specs.declared.TrackerCall.{TrackerCall}
use Rattle.model.specs.declared.TrackerCall.TheVariants.{Unmatched as unmatched, LostWithParticipant as lost_with_participant, Expire as expire}
use Rattle.model.specs.declared.JoinedCall.TheVariants.{Admit as admit, Lapse as lapse, Part as part, Depart as depart}
use Rattle.model.specs.Calls.{Call, instances, tracker, joined, call_of_code}
use Rattle.model.specs.Guids.{num}
use Rattle.model.specs.InstanceCalls.{Turned, accepted as accepts, known, spent, at_limit, late_refusal, instance_turn, instance_call}
use Rattle.model.specs.Instances.{rule, starts_by, limited_by, has_key}
use Rattle.model.specs.Joined.{sampled, admitted, after_loss, loss_call}
use Rattle.model.specs.Sheets.{sheet_of}
use Rattle.model.specs.State.{Lent, State, lay_out}
use Rattle.model.specs.Tables.{find}
use Rattle.model.specs.Writers.{movers, tracker_late, tracker_turn, tracker_call}
use Rattle.model.proofs.Fits.{FitsGuid}
use Rattle.accounts.specs.Accounts.{Accounts, accepted, Lending, event_of, next, SheetBytes}
use Rattle.accounts.specs.InstanceAccounts.{Event}
use Rattle.accounts.proofs.Basics.{either, never, missing}
use Rattle.accounts.proofs.Demand3.{call_cases, After, anew}
use Rattle.accounts.proofs.InStep.{InStep}
use Rattle.model.proofs.TrackerLaws.{tracker_unhanded}
use Rattle.accounts.proofs.InstanceTurns.{InstanceSim, handle-there, handle_new, told-silent}
use Rattle.accounts.proofs.SheetLaws.{SheetFits, sheet_fits}
use Rattle.accounts.proofs.Steps.{admit_cases, handle-free}

-- ---- an accepted call's answer is that of its turn

pub record Answered (places : ℕ) (sheet : List ℕ) (st : State) (c : Call) (a : Answer) : Type 0 where
  pub fits : SheetFits (sheet_of sheet)
  pub is : a ≡ (turn places c (sheet_of sheet) st).answer
  pub number : eqb a.number 0 ≡ true

module _ (places : ℕ) (sheet : List ℕ) (st : State) (out : List ℕ) (acc : Accounts) (bytes : Bytes sheet)
    (held : InStep places st acc) (c : Call) where
  pub answered : accepted (event_of sheet (call_in places sheet (lay_out places st out)).answer) ≡ some c →
      Answered places sheet st c (call_in places sheet (lay_out places st out)).answer
  answered =
      call_cases (λ (r : Left). accepted (event_of sheet r.answer) ≡ some c → Answered places sheet st c r.answer) places sheet st out acc held
      (λ n e d. missing (sym (ap (λ (b : Bool). cond b (call_of_code (sheet_of sheet).code) none) e) ∙ d))
      (λ d n q a e f.
      let s : some d ≡ some c = rw (e, q) at f in
      let p : d ≡ c = cc in
      record { fits = sheet_fits sheet bytes n; is = ap (λ (b : Call). (turn places b (sheet_of sheet) st).answer) p; number = e })

-- ---- calls that answer no handle

abbrev pub starting : Call → Bool
starting (instances c) = starts_by (rule c).reach
starting (tracker c) = false
starting (joined admit) = true
starting (joined lapse) = false
starting (joined part) = false
starting (joined depart) = false

abbrev Silent : Turned → Type 0
Silent t = t.answer.handle.0 ≡ 0

instance-silent : (places : ℕ) (c : InstanceCall) (s : Sheet) (st : State) → starts_by (rule c).reach ≡ false →
    Silent (instance_call places c s st)
unfolding instance_call instance_turn
instance-silent places c s st e =
    either Silent (limited_by (rule c).reach && at_limit s st) _ _ (λ d. refl)
    (λ d. either Silent (eqb (late_refusal places c s st) 0) _ _ (λ f. told-silent c s _ _ e) (λ f. refl))

loss_silent : (c : TrackerCall) (gs : List Guid) (s : Sheet) (st : State) → Silent (loss_call c gs s st)
unfolding loss_call after_loss
loss_silent c gs s st = either Silent (eqb (tracker_late c s st) 0) _ _ (λ d. refl) (λ d. refl)

turn-silent : (places : ℕ) (c : Call) (s : Sheet) (st : State) → starting c ≡ false → Silent (turn places c s st)
unfolding tracker_call tracker_turn
turn-silent places (instances c) s st e = instance-silent places c s st e
turn-silent places (tracker c) s st e =
    either Silent (eqb (tracker_late c s st) 0) _ _ (λ d. tracker_unhanded c s st) (λ d. refl)
turn-silent places (joined admit) s st e = never e
turn-silent places (joined lapse) s st e = loss_silent expire (movers expire s st.writers) s st
turn-silent places (joined part) s st e = loss_silent unmatched (s.guid ∷ []) s st
turn-silent places (joined depart) s st e = loss_silent lost_with_participant (s.guid ∷ []) s st

-- ---- admit

-- with outcome 0 it answers the handle of the instance of its key, which it starts where there is none, and code 16 let it through
pub record Admits (s : Sheet) (outcome handle : ℕ) (acc : Accounts) : Type 0 where
  pub stopped : eqb outcome 0 ≡ false → handle ≡ 0
  pub present : eqb outcome 0 ≡ true → (x : Instance) → acc.instances.at (num s.key) ≡ some x → x.handle.0 ≡ handle
  pub absent : eqb outcome 0 ≡ true → acc.instances.at (num s.key) ≡ none → eqb handle 0 ≡ false
  pub takes : eqb outcome 0 ≡ true → accepts s (acc.instances.at (num s.key)) ≡ true

abbrev AdmitsBy : Answer → Sheet → Accounts → Type 0
AdmitsBy a s acc = Admits s a.outcome a.handle.0 acc

admit_real : (places : ℕ) (s : Sheet) (st : State) (acc : Accounts) → FitsGuid s.key →
    InstanceSim st acc.instances →
    eqb (turn places (joined admit) s st).answer.number 0 ≡ true →
    AdmitsBy (turn places (joined admit) s st).answer s acc
admit_real places s st acc fits m =
    admit_cases (λ (t : Turned). eqb t.answer.number 0 ≡ true → AdmitsBy t.answer s acc) places s st
    (find (has_key s.key) st.instances)
    (λ n e ok. record {
      stopped = λ d. refl;
      present = λ d. never (sym d ∙ e);
      absent = λ d. never (sym d ∙ e);
      takes = λ d. never (sym d ∙ e);
    })
    (λ n e ok. never (sym ok ∙ e))
    (λ e4 e5 e6 e7 ok. taken e5 e7)
  where
    taken : (not (known s st) && spent st) ≡ false → not (accepts s (find (has_key s.key) st.instances)) ≡ false →
        AdmitsBy (admitted s st).answer s acc
    taken e f =
        unfold admitted sampled in
        record {
          stopped = λ d. never d;
          present = λ d x q. sym (handle-there s st acc.instances fits m (handle-free s st e) x q);
          absent = λ d q. handle_new s st acc.instances fits m (handle-free s st e) q;
          takes = λ d. sym (ap (accepts s) (m.agree (num s.key))) ∙ not-false _ f;
        }

-- ---- what an accepted call's event tells

abbrev pub Admitting : Call → Event → Accounts → Type 0
Admitting (instances c) e acc = Unit {0}
Admitting (tracker c) e acc = Unit {0}
Admitting (joined admit) e acc = Admits e.sheet e.outcome e.handle acc
Admitting (joined lapse) e acc = Unit {0}
Admitting (joined part) e acc = Unit {0}
Admitting (joined depart) e acc = Unit {0}

pub record Real (c : Call) (e : Event) (acc : Accounts) : Type 0 where
  pub number : eqb e.number 0 ≡ true
  pub silent : starting c ≡ false → e.handle ≡ 0
  pub admitted : Admitting c e acc

admitting_real : (places : ℕ) (sheet : List ℕ) (st : State) (acc : Accounts) (c : Call) (a : Answer) →
    InstanceSim st acc.instances → Answered places sheet st c a →
    Admitting c (event_of sheet a) acc
admitting_real places sheet st acc (instances c) a m r = tt
admitting_real places sheet st acc (tracker c) a m r = tt
admitting_real places sheet st acc (joined admit) a m r =
    subst (λ (b : Answer). AdmitsBy b (sheet_of sheet) acc) (sym r.is)
    (admit_real places (sheet_of sheet) st acc r.fits.key m (sym (ap (λ (b : Answer). eqb b.number 0) r.is) ∙ r.number))
admitting_real places sheet st acc (joined lapse) a m r = tt
admitting_real places sheet st acc (joined part) a m r = tt
admitting_real places sheet st acc (joined depart) a m r = tt

pub real : (places : ℕ) (sheet : List ℕ) (st : State) (out : List ℕ) (acc : Accounts) (c : Call) → Bytes sheet →
    InStep places st acc → accepted (event_of sheet (call_in places sheet (lay_out places st out)).answer) ≡ some c →
    Real c (event_of sheet (call_in places sheet (lay_out places st out)).answer) acc
real places sheet st out acc c b m e =
    let r = answered places sheet st out acc b m c e in
    record {
      number = r.number;
      silent = λ d. ap (λ (a : Answer). a.handle.0) r.is ∙ turn-silent places c (sheet_of sheet) st d;
      admitted = admitting_real places sheet st acc c _ m.sim.instances r;
    }

-- ---- the next call of a list

module _ (places : ℕ) (i : Lending) (before : Lent) (acc : Accounts) (bytes : SheetBytes i) (at : After places before acc) where
  abbrev e : Event
  e = event_of i.sheet (next (call_in places) i before).answer

  pub real_next : (c : Call) → accepted e ≡ some c → Real c e acc
  real_next c is =
      subst (λ (m : Lent). accepted (event_of i.sheet (call_in places i.sheet m).answer) ≡ some c →
      Real c (event_of i.sheet (call_in places i.sheet m).answer) acc) (sym (anew places i.out at))
      (real places i.sheet at.state i.out acc c bytes at.held) is
