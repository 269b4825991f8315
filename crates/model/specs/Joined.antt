-- Section 5: the joined calls 48 to 51, composed of the calls of sections 3 and 4; and document 02, request 1: admit owns what
-- it starts.
use Rattle.std.specs.Prelude.{ℕ, ◌+◌, Bool, false, not, ◌&&◌, ◌||◌, cond, List, [], ◌∷◌, eqb, length}
use Rattle.std.proofs.Math.Option.{Option, none, some}
use Rattle.model.specs.declared.Guid.{Guid}
use Rattle.model.specs.declared.Instance.{Instance}
use Rattle.model.specs.declared.InstanceState.{InstanceState}
use Rattle.model.specs.declared.MaybeTime.{MaybeTime}
use Rattle.model.specs.declared.Sheet.{Sheet}
use Rattle.model.specs.Answers.{stopping, both, with_list}
use Rattle.model.specs.Calls.{JoinedCall, admit, lapse, part, depart, TrackerCall, unmatched, lost_with_participant, expire, accept_under_exclusive_ownership, observe_admitted, note_admitted}
use Rattle.model.specs.InstanceCalls.{Turned, refused, unchanged, with_instances, known, at_limit, full, spent, crowds, accepted, kept, handle_bytes, instance_turn}
use Rattle.model.specs.InstanceRecord.{bit}
use Rattle.model.specs.Instances.{has_key, writer_dropped, owned_from, owner_cleared, left_by, owns}
use Rattle.model.specs.State.{State}
use Rattle.model.specs.Tables.{find, pick, sift}
use Rattle.model.specs.Times.{no_time, if_present, filter_admits, order_admits}
use Rattle.model.specs.Writers.{movers, tracker_turn, tracker_late}

-- ---- code 48, admit

abbrev pub last_delivered : Option Instance → MaybeTime
last_delivered none = no_time
last_delivered (some x) = x.state.times.last_delivered

abbrev pub last_filter : Option Instance → MaybeTime
last_filter none = no_time
last_filter (some x) = x.state.times.last_filter

-- destination order by time 1, where the sheet asks for it by source
abbrev pub in_order : Sheet → Option Instance → Bool
in_order s x = not s.by_source || order_admits (last_delivered x) s.time_1

-- the filter by time 2, with A as separation
abbrev pub passes_filter : Sheet → Option Instance → Bool
passes_filter s x = filter_admits (last_filter x) s.time_2 s.a

-- code 16 with time 2 as now, then code 9, then code 10; outcome 0 carries the answers of 9 and 10
unfoldable pub sampled : Sheet → State → Turned
sampled s st =
    record {
      answer = both (instance_turn observe_admitted s (instance_turn accept_under_exclusive_ownership s st).state).answer
          (instance_turn note_admitted s (instance_turn observe_admitted s (instance_turn accept_under_exclusive_ownership s st).state).state).answer;
      state = (instance_turn note_admitted s (instance_turn observe_admitted s (instance_turn accept_under_exclusive_ownership s st).state).state).state;
      list = [];
    }

-- document 02, request 1: the instance of the key has writer and strength of the sheet as owner, and time 2 as owner_at
abbrev pub owning : Sheet → Instance → Option Instance
owning s x = cond (has_key s.key x) (kept x (some (owned_from s x.state))) (some x)

unfoldable pub first_owned : Sheet → State → State
first_owned s st = with_instances (sift (owning s) st.instances) st.next_handle st

-- an instance that this call started is so owned; one that was known has what code 16 left it
unfoldable pub admitted : Sheet → State → Turned
admitted s st =
    record {
      answer = (sampled s st).answer;
      state = cond (known s st) (sampled s st).state (first_owned s (sampled s st).state);
      list = [];
    }

-- in order: outcome 1, 2, 3, refusals 9, 13, 10, outcome 4, and outcome 0
unfoldable pub admit_with : ℕ → Sheet → State → Option Instance → Turned
admit_with places s st x =
    cond (not (in_order s x)) (unchanged (stopping 1) st)
    (cond (not (passes_filter s x)) (unchanged (stopping 2) st)
    (cond (at_limit s st) (unchanged (stopping 3) st)
    (cond (not (known s st) && full places st) (refused 9 st)
    (cond (not (known s st) && spent st) (refused 13 st)
    (cond (crowds s x) (refused 10 st)
    (cond (not (accepted s x)) (unchanged (stopping 4) st)
    (admitted s st)))))))

abbrev pub admit_call : ℕ → Sheet → State → Turned
admit_call places s st = admit_with places s st (find (has_key s.key) st.instances)

-- ---- codes 49, 50 and 51: a tracker call, then codes 7 and 18 for each writer gone

-- codes 7 and 18 for one writer after the other, on one instance
abbrev pub left_without : Guid → MaybeTime → InstanceState → InstanceState
left_without g at x = owner_cleared g (writer_dropped g at x)

unfoldable pub left_without_all : List Guid → MaybeTime → InstanceState → InstanceState
left_without_all [] at x = x
left_without_all (g ∷ gs) at x = left_without_all gs at (left_without g at x)

-- one of these codes 7 lists it
unfoldable pub left_by_one : List Guid → MaybeTime → InstanceState → Bool
left_by_one [] at x = false
left_by_one (g ∷ gs) at x = left_by g x || left_by_one gs at (left_without g at x)

-- how many of these codes 18 clear its owner
unfoldable pub clearings : List Guid → MaybeTime → InstanceState → ℕ
clearings [] at x = 0
clearings (g ∷ gs) at x = bit (owns g (writer_dropped g at x).owner) + clearings gs at (left_without g at x)

unfoldable pub clearings_in : List Guid → MaybeTime → List Instance → ℕ
clearings_in gs at [] = 0
clearings_in gs at (x ∷ xs) = clearings gs at x.state + clearings_in gs at xs

abbrev pub loses : List Guid → MaybeTime → Instance → Option Instance
loses gs at x = kept x (some (left_without_all gs at x.state))

abbrev pub left_writerless : List Guid → MaybeTime → Instance → Bool
left_writerless gs at x = left_by_one gs at x.state

-- Out lists the instances left writerless, in key order
unfoldable pub after_loss : List Guid → MaybeTime → Turned → Turned
after_loss gs at t =
    record {
      answer = with_list t.answer (clearings_in gs at t.state.instances) (length (pick (left_writerless gs at) t.state.instances));
      state = with_instances (sift (loses gs at) t.state.instances) t.state.next_handle t.state;
      list = handle_bytes (pick (left_writerless gs at) t.state.instances);
    }

-- code 7 has time 1 with its presence bit
unfoldable pub loss_call : TrackerCall → List Guid → Sheet → State → Turned
loss_call c gs s st =
    cond (eqb (tracker_late c s st) 0) (after_loss gs (if_present s.time_1) (tracker_turn c s st)) (refused (tracker_late c s st) st)

abbrev pub joined_call : ℕ → JoinedCall → Sheet → State → Turned
joined_call places admit s st = admit_call places s st
joined_call places lapse s st = loss_call expire (movers expire s st.writers) s st
joined_call places part s st = loss_call unmatched (s.guid ∷ []) s st
joined_call places depart s st = loss_call lost_with_participant (s.guid ∷ []) s st
