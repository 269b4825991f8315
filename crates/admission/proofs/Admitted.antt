-- Codes 16, 9 and 10 one after the other, and a further 16, in terms of the list of instances.
--     admitted-known      the instance at place i changed
--     admitted_new        an instance put in at place i; code 16 does nothing to an absent one, and a further one takes it
--     same_answer         the answers of codes 9 and 10, both by the instance that is left
use Prim.Native.Nat.{ℕ, ◌≤◌}
use mathlib.Core.Bool.{true, false}
use mathlib.Core.List.{List, [], ◌∷◌, ◌++◌, map}
use mathlib.Core.Option.{some}
use mathlib.Core.Path.{◌≡◌, refl, ap, subst}
use borrow.Author.Tests.{eq-eqb}
use lib.ListN.{length, get_or, take, drop, set}
use lib.Seq.{get_or_at, get_or-set_same, length-take-le, set_at, set-set}
use Rattle.model.specs.declared.Answer.{Answer}
use Rattle.model.specs.declared.Instance.{Instance}
use Rattle.model.specs.declared.InstanceCall.{InstanceCall}
use Rattle.model.specs.declared.InstanceCall.TheVariants.{ObserveAdmitted, NoteAdmitted, AcceptUnderExclusiveOwnership}
use Rattle.model.specs.declared.InstanceState.{InstanceState}
use Rattle.model.specs.declared.Sheet.{Sheet}
use Rattle.model.specs.Answers.{both}
use Rattle.model.specs.Guids.{num}
use Rattle.model.specs.Handles.{allocated}
use Rattle.model.specs.InstanceCalls.{Turned, with_instances, begins, samples_answer, info_answer, answer_of, instance_turn}
use Rattle.model.specs.Instances.{effect, rule, has_key, reaches, owned_from, ownership_tried, admitted_observed, admitted_noted, writer_noted, started}
use Rattle.model.specs.Joined.{sampled, admitted}
use Rattle.model.specs.State.{State, instance_key}
use Rattle.model.specs.Tables.{rising}
use Rattle.model.proofs.AdmitLaws.{first_taken, tried_again, admitted-state}
use Rattle.std.specs.Prelude.{Err}
use Rattle.tables.specs.Found.{found_in}
use Rattle.tables.specs.Places.{Only, Nowhere}
use Rattle.tables.proofs.Finds.{any-only, only-insert, only_set}
use Rattle.tables.proofs.Puts.{missing-nowhere, missing-le}
use Rattle.instance_reach.specs.Rules.{single}
use Rattle.instance_reach.specs.Turned.{with_state}
use Rattle.instance_reach.proofs.Turns.{turn_found, turn_none, turn-started}

-- the turn that leaves the instances ys
abbrev pub leaving : Answer → List Instance → ℕ → State → Turned
leaving a ys next st = record { answer = a; state = with_instances ys next st; list = [] }

-- the answers of codes 9 and 10, by the instance that they leave
abbrev pub answers_of : Instance → Answer
answers_of y = both (samples_answer (some y)) (info_answer (some y))

-- code 10 leaves the samples as they are
pub same_answer : (s : Sheet) (x : Instance) (z : InstanceState) →
    both (samples_answer (some (with_state x z))) (info_answer (some (with_state x (admitted_noted s z)))) ≡ answers_of (with_state x (admitted_noted s z))
unfolding admitted_noted writer_noted
same_answer s x z = refl

-- with a further code 16
admitted_whole : (s : Sheet) (st : State) →
    admitted s st
    ≡ record { answer = (sampled s st).answer; state = (instance_turn AcceptUnderExclusiveOwnership s (sampled s st).state).state; list = [] }
unfolding admitted
admitted_whole s st =
    ap (λ (z : State). record { answer = (sampled s st).answer; state = z; list = [] }) (admitted-state s st)

module _ (s : Sheet) (d : Instance) where
  -- one turn, on the instance x at place i
  turn_at : (c : InstanceCall) (st : State) (i : ℕ) (x : Instance) (z : InstanceState) → single (rule c).reach ≡ true → begins c s st ≡ false →
      Only (reaches c s) st.instances i d → get_or st.instances i d ≡ x → effect c s x.state ≡ some z →
      instance_turn c s st
      ≡ leaving (answer_of (rule c).says s (some x) (some (with_state x z))) (set st.instances i (with_state x z)) st.next_handle st
  turn_at c st i x z h old o is e =
      subst
      (λ (y : Instance). instance_turn c s st
      ≡ leaving (answer_of (rule c).says s (some y) (some (with_state y z))) (set st.instances i (with_state y z)) st.next_handle st) is
      (turn_found c s st old i d z h o (rw is e))

  module _ (st : State) (i : ℕ) where
    abbrev xs : List Instance
    xs = st.instances

    -- the key stands at place i
    pub admitted-known : (x : Instance) → Only (has_key s.key) xs i d → get_or xs i d ≡ x →
        admitted s st
        ≡ leaving (answers_of (with_state x (admitted_noted s (admitted_observed s (ownership_tried s x.state)))))
        (set xs i (with_state x (admitted_noted s (admitted_observed s (ownership_tried s x.state))))) st.next_handle st
    unfolding sampled
    admitted-known x o is =
        let k = has_key s.key in
        let here : k x ≡ true = rw is at o.here in
        let z1 : InstanceState = ownership_tried s x.state in
        let z2 : InstanceState = admitted_observed s z1 in
        let z3 : InstanceState = admitted_noted s z2 in
        let x1 : Instance = with_state x z1 in
        let x2 : Instance = with_state x z2 in
        let x3 : Instance = with_state x z3 in
        let o1 : Only k (set xs i x1) i d = only_set k xs x1 d i o here in
        let o2 : Only k (set (set xs i x1) i x2) i d = only_set k (set xs i x1) x2 d i o1 here in
        let e1 = turn_at AcceptUnderExclusiveOwnership st i x z1 refl refl o is refl in
        let e2 = turn_at ObserveAdmitted (with_instances (set xs i x1) st.next_handle st) i x1 z2 refl (rw (any-only k d (set xs i x1) i o1)) o1
        (get_or-set_same xs i x1 d o.within) refl in
        let e3 = turn_at NoteAdmitted (with_instances (set (set xs i x1) i x2) st.next_handle st) i x2 z3 refl refl o2
        (get_or-set_same (set xs i x1) i x2 d o1.within) refl in
        let o3 : Only k (set (set (set xs i x1) i x2) i x3) i d = only_set k (set (set xs i x1) i x2) x3 d i o2 here in
        let e4 = turn_at AcceptUnderExclusiveOwnership (with_instances (set (set (set xs i x1) i x2) i x3) st.next_handle st) i x3 z3 refl refl o3
        (get_or-set_same (set (set xs i x1) i x2) i x3 d o2.within) (ap some (tried_again s x.state)) in
        rw (admitted_whole s st, e1, e2, e3, e4, same_answer s x z2, set-set xs i x1 x2, set-set xs i x2 x3, set-set xs i x3 x3)

    -- the key is missing, and its instance goes in at place i
    module _ (r : rising instance_key xs ≡ true) (m : found_in (map instance_key xs) (num s.key) ≡ Err i) where
      pub admitted_new : (x : Instance) → x ≡ started s.key (allocated st.next_handle).handle.0 →
          admitted s st
          ≡ leaving (answers_of (with_state x (owned_from s (admitted_noted s (admitted_observed s x.state)))))
          (take i xs ++ with_state x (owned_from s (admitted_noted s (admitted_observed s x.state))) ∷ drop i xs) (allocated st.next_handle).counter st
      unfolding sampled started
      admitted_new x is =
          let k = has_key s.key in
          let g : Instance = started s.key (allocated st.next_handle).handle.0 in
          let n : Nowhere k xs d = missing-nowhere instance_key xs d r (num s.key) i m in
          let l : i ≤ length xs = missing-le instance_key xs d r (num s.key) i m in
          let z2 : InstanceState = admitted_observed s g.state in
          let z3 : InstanceState = admitted_noted s z2 in
          let x2 : Instance = with_state g z2 in
          let x3 : Instance = with_state g z3 in
          let own : k x2 ≡ true = eq-eqb (num s.key) (num s.key) refl in
          let t = length-take-le i xs l in
          let e1 = turn_none AcceptUnderExclusiveOwnership s st refl d refl n in
          let e2 = turn-started ObserveAdmitted s st i d r m refl z2 refl in
          let e3 = turn_at NoteAdmitted (with_instances (take i xs ++ x2 ∷ drop i xs) (allocated st.next_handle).counter st) i x2 z3 refl refl
          (only-insert k xs x2 d i l n own) (get_or_at (take i xs) x2 (drop i xs) d i t) refl in
          let e4 = turn_at AcceptUnderExclusiveOwnership (with_instances (take i xs ++ x3 ∷ drop i xs) (allocated st.next_handle).counter st) i x3
          (owned_from s z3) refl refl (only-insert k xs x3 d i l n own) (get_or_at (take i xs) x3 (drop i xs) d i t) (ap some (first_taken s)) in
          rw (
            is,
            admitted_whole s st,
            e1,
            e2,
            e3,
            set_at (take i xs) x2 (drop i xs) x3 i t,
            e4,
            same_answer s g z2,
            set_at (take i xs) x3 (drop i xs) (with_state g (owned_from s z3)) i t,
          )
