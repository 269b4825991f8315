-- A call on instances needs the instances and the next handle alone, and leaves the rest of the state as it is.
--     table_of          a state of which the instances and the next handle are kept, fresh otherwise
--     instance_graft   the call on a state is the call on its table, put back
--     admitted_graft, admit_graft      so is code 48
use Prim.Native.Nat.{ℕ}
use mathlib.Core.Bool.{Bool, true, false, not, ◌&&◌, cond}
use mathlib.Core.List.{[]}
use mathlib.Core.Option.{Option}
use mathlib.Core.Path.{◌≡◌, refl}
use lib.Dec.{eqb}
use Rattle.model.specs.declared.Instance.{Instance}
use Rattle.model.specs.declared.InstanceCall.{InstanceCall}
use Rattle.model.specs.declared.Sheet.{Sheet}
use Rattle.model.specs.Answers.{silent, stopping}
use Rattle.model.specs.InstanceCalls.{Turned, refused, unchanged, with_instances, at_limit, late_refusal, instance_turn, instance_call, begun, next_after, instances_after, known, full, spent, crowds, accepted}
use Rattle.model.specs.Instances.{rule, limited_by, has_key}
use Rattle.model.specs.Joined.{in_order, passes_filter, sampled, first_owned, admitted, admit_with, admit_call}
use Rattle.model.specs.State.{State, fresh_state}
use Rattle.model.specs.Tables.{find}

abbrev pub table_of : State → State
table_of st = with_instances st.instances st.next_handle fresh_state

-- what the call left of the table, put back into the state
abbrev pub graft : State → Turned → Turned
graft st t = record { answer = t.answer; state = with_instances t.state.instances t.state.next_handle st; list = t.list }

pub instance_graft : (places : ℕ) (c : InstanceCall) (s : Sheet) (st : State) →
    instance_call places c s st ≡ graft st (instance_call places c s (table_of st))
unfolding instance_call instance_turn late_refusal begun next_after instances_after
instance_graft places c s st = each (limited_by (rule c).reach && at_limit s st) (eqb (late_refusal places c s st) 0)
  where
    each : (a b : Bool) →
        cond a (unchanged silent st) (cond b (instance_turn c s st) (refused (late_refusal places c s st) st))
        ≡ graft st (cond a (unchanged silent (table_of st)) (cond b (instance_turn c s (table_of st)) (refused (late_refusal places c s st) (table_of st))))
    each true b = refl
    each false true = refl
    each false false = refl

-- ---- code 48

pub admitted_graft : (s : Sheet) (st : State) → admitted s st ≡ graft st (admitted s (table_of st))
unfolding admitted sampled first_owned instance_turn begun next_after instances_after
admitted_graft s st = each (known s st)
  where
    each : (b : Bool) →
        record { answer = (sampled s st).answer; state = cond b (sampled s st).state (first_owned s (sampled s st).state); list = [] }
        ≡ graft st
        record { answer = (sampled s (table_of st)).answer; state = cond b (sampled s (table_of st)).state (first_owned s (sampled s (table_of st)).state); list = [] }
    each true = refl
    each false = refl

pub admit_graft : (places : ℕ) (s : Sheet) (st : State) → admit_call places s st ≡ graft st (admit_call places s (table_of st))
unfolding admit_with
admit_graft places s st =
    each (not (in_order s x)) (not (passes_filter s x)) (at_limit s st) (not (known s st) && full places st) (not (known s st) && spent st) (crowds s x)
    (not (accepted s x))
  where
    x : Option Instance
    x = find (has_key s.key) st.instances

    each : (a b c d e f g : Bool) →
        cond a (unchanged (stopping 1) st) (cond b (unchanged (stopping 2) st) (cond c (unchanged (stopping 3) st) (cond d (refused 9 st) (cond e (refused 13 st)
        (cond f (refused 10 st) (cond g (unchanged (stopping 4) st) (admitted s st)))))))
        ≡ graft st
        (cond a (unchanged (stopping 1) (table_of st)) (cond b (unchanged (stopping 2) (table_of st)) (cond c (unchanged (stopping 3) (table_of st))
        (cond d (refused 9 (table_of st)) (cond e (refused 13 (table_of st)) (cond f (refused 10 (table_of st)) (cond g (unchanged (stopping 4) (table_of st)) (admitted s (table_of st)))))))))
    each true b c d e f g = refl
    each false true c d e f g = refl
    each false false true d e f g = refl
    each false false false true e f g = refl
    each false false false false true f g = refl
    each false false false false false true g = refl
    each false false false false false false true = refl
    each false false false false false false false = admitted_graft s st
