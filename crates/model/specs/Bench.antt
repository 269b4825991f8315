-- Section 10: the lettered bench lines and the three traps, and lines on document 02, as rows under one claim: what
-- the definitions give is what the documents say.
use Rattle.std.specs.Prelude.{ℕ, ◌+◌, ◌-◌, ◌^◌, Bool, true, false, ◌&&◌, List, [], ◌∷◌, ◌++◌, eqb, length, replicate}
use Rattle.std.proofs.Math.Option.{Option, none, some}
use Rattle.model.specs.declared.Guid.{Guid}
use Rattle.model.specs.declared.Instance.{Instance}
use Rattle.model.specs.declared.InstanceState.{InstanceState}
use Rattle.model.specs.declared.InstanceStateKind.TheVariants.{NotAliveDisposed, NotAliveNoWriters}
use Rattle.model.specs.declared.MaybeOwner.{MaybeOwner}
use Rattle.model.specs.declared.MaybeTime.{MaybeTime}
use Rattle.model.specs.declared.Sheet.{Sheet}
use Rattle.model.specs.declared.Writer.{Writer}
use Rattle.model.specs.Calls.{InstanceCall, register, ensure_registered_limited, unregister, observe_lifecycle, observe_admitted, accept_under_exclusive_ownership, autopurge, TrackerCall, matched, lost_with_participant, writer_asserted, expire}
use Rattle.model.specs.Guids.{num}
use Rattle.model.specs.Handles.{handle}
use Rattle.model.specs.InstanceCalls.{Turned, instance_call}
use Rattle.model.specs.InstanceRecord.{bit, kind_number, holder_places}
use Rattle.model.specs.Instances.{started_state, with_life, with_times, with_owner, with_set, with_kind, with_view, with_disposed_at, with_owner_at}
use Rattle.model.specs.Joined.{admit_call}
use Rattle.model.specs.Reads.{first_written}
use Rattle.model.specs.State.{State, figure_ok, small_places, large_places, fresh_state}
use Rattle.model.specs.Times.{billion, no_time, filter_admits, order_admits}
use Rattle.model.specs.WriterRecord.{state_number}
use Rattle.model.specs.Writers.{tracker_call}

pub record Row : Type 0 where
  pub got : ℕ
  pub said : ℕ

abbrev row : ℕ → ℕ → Row
row got said = record { got = got; said = said }

abbrev test : Bool → Bool → Row
test got said = row (bit got) (bit said)

abbrev pub agree : List Row → Bool
agree [] = true
agree (r ∷ rs) = eqb r.got r.said && agree rs

-- ---- what the rows are about

-- seconds below 0, by their bits
abbrev minus : ℕ → ℕ
minus n = 2 ^ 32 - n

abbrev time : ℕ → ℕ → MaybeTime
time sec nanosec = record { present = true; sec = sec; nanosec = nanosec }

abbrev guid : ℕ → Guid
guid n = record { hi = 0; lo = n }

-- a sheet with one key, GUID and handle; its numbers are time 2, A, B and those at 72 and 76, and kind
abbrev sheet : ℕ → ℕ → MaybeTime → ℕ → ℕ → ℕ → ℕ → ℕ → Sheet
sheet key writer at a b first second kind =
    record {
      key = guid key;
      guid = guid writer;
      handle = handle 1;
      time_1 = no_time;
      time_2 = at;
      a = a;
      b = b;
      first = first;
      second = second;
      deadline_present = true;
      lease_present = true;
      manual = false;
      by_source = true;
      kind = kind;
      code = 0;
      holder = record { present = false; len = 0; bytes = replicate holder_places 0 };
    }

abbrev instance_with : InstanceState → Instance
instance_with x = record { key = guid 1; handle = handle 1; state = x }

abbrev state_with : List Instance → State
state_with xs =
    record {
      instances = xs;
      next_handle = 2;
      writers = fresh_state.writers;
      lost = fresh_state.lost;
      acknowledged_alive = fresh_state.acknowledged_alive;
      acknowledged_not_alive = fresh_state.acknowledged_not_alive;
      last_writer = fresh_state.last_writer;
      changes = fresh_state.changes;
    }

-- the one instance after a call
abbrev only : List Instance → InstanceState
only [] = started_state
only (x ∷ xs) = x.state

abbrev after : InstanceCall → Sheet → InstanceState → InstanceState
after c s x = only (instance_call large_places c s (state_with (instance_with x ∷ []))).state.instances

-- ---- lines a, b, d and i; line c stands with request 7

abbrev filter_lines : List Row
filter_lines =
    test (filter_admits (time 5 0) (time 4 0) 1_000_000_000) true
    ∷ test (filter_admits (time 5 0) (time 5 999_999_999) 1_000_000_000) false
    ∷ test (filter_admits (time 5 0) (time 6 0) 1_000_000_000) true
    ∷ []

abbrev order_lines : List Row
order_lines =
    test (order_admits (time 5 0) (time 5 0)) false
    ∷ test (order_admits (time 5 0) (time 5 1)) true
    ∷ []

-- owned by GUID 1 with strength 9 since (-2, 0); GUID 2 has strength 1, now is (-1, 0)
abbrev owned_state : InstanceState
owned_state =
    with_times (with_owner_at (time (minus 2) 0) started_state.times)
    (with_owner record { present = true; guid = guid 1; strength = 9 } started_state)

abbrev deadline_sheet : ℕ → Sheet
deadline_sheet deadline = sheet 1 2 (time (minus 1) 0) 0 deadline 0 1 0

abbrev deadline_lines : List Row
deadline_lines =
    row (num (after accept_under_exclusive_ownership (deadline_sheet 1_000_000_000) owned_state).owner.guid) 2
    ∷ row (num (after accept_under_exclusive_ownership (deadline_sheet 1_000_000_001) owned_state).owner.guid) 1
    ∷ []

abbrev disposed_at : MaybeTime → InstanceState
disposed_at at =
    with_times (with_disposed_at at started_state.times) (with_life (with_kind NotAliveDisposed started_state.life) started_state)

abbrev disposed_state : InstanceState
disposed_state = disposed_at (time 0 10)

-- how many instances a purge takes out of a table with one that was disposed of then
abbrev purges : MaybeTime → MaybeTime → ℕ → ℕ
purges at now delay =
    (instance_call large_places autopurge (sheet 1 0 now delay 0 0 0 0) (state_with (instance_with (disposed_at at) ∷ []))).answer.count

abbrev purge_lines : List Row
purge_lines =
    row (purges (time 0 10) (time 0 14) 5) 0
    ∷ row (purges (time 0 10) (time 0 15) 5) 1
    ∷ row (purges (time 0 10) (time 0 3) 0) 1
    ∷ []

-- ---- line f: a call under a limit on a state that knows key 1

abbrev under_limit : ℕ → ℕ → Turned
under_limit key limit =
    instance_call large_places ensure_registered_limited (sheet key 0 no_time 0 0 limit 0 0) (state_with (instance_with started_state ∷ []))

abbrev limit_lines : List Row
limit_lines =
    test (under_limit 2 0).answer.present false
    ∷ row (length (under_limit 2 0).state.instances) 1
    ∷ row (under_limit 1 0).answer.handle.0 1
    ∷ row (under_limit 2 (minus 1)).answer.handle.0 2
    ∷ row (length (under_limit 2 (minus 1)).state.instances) 2
    ∷ []

-- ---- lines g and h: writer 5 by topic, lease 10, matched at 0 and asserted at 100

abbrev then : TrackerCall → ℕ → ℕ → State → State
then c clock kind st = (tracker_call c (sheet 0 5 no_time clock 10 0 0 kind) st).state

abbrev asserted_state : State
asserted_state = then writer_asserted 100 2 (then matched 0 2 fresh_state)

-- the number of the first writer's state, 9 where there is none
abbrev first_state : List Writer → ℕ
first_state [] = 9
first_state (w ∷ ws) = state_number w.liveliness.state

abbrev standing : State → ℕ
standing st = first_state st.writers

abbrev expire_at : ℕ → Turned
expire_at clock = tracker_call expire (sheet 0 5 no_time clock 10 0 0 2) asserted_state

abbrev lease_lines : List Row
lease_lines =
    test (expire_at 109).answer.yes false
    ∷ row (expire_at 109).answer.next_due.at 110
    ∷ test (expire_at 110).answer.yes true
    ∷ row (standing (then writer_asserted 101 2 (expire_at 110).state)) 1
    ∷ []

abbrev departed_state : State
departed_state = then lost_with_participant 0 0 asserted_state

abbrev departed_lines : List Row
departed_lines = row (standing (then matched 0 0 departed_state)) 2 ∷ row (standing (then matched 1 0 departed_state)) 1 ∷ []

-- ---- the traps, as what holds

-- an expired writer does not revive on its last assertion
abbrev revive_trap : List Row
revive_trap = row (standing (then writer_asserted 100 2 (expire_at 110).state)) 2 ∷ []

-- register revives and leaves the view as it was
abbrev seen_disposed : InstanceState
seen_disposed = with_life (with_view false disposed_state.life) disposed_state

abbrev register_trap : List Row
register_trap =
    row (kind_number (after register (sheet 1 0 no_time 0 0 0 0 0) seen_disposed).life.kind) 0
    ∷ test (after register (sheet 1 0 no_time 0 0 0 0 0) seen_disposed).life.view_new false
    ∷ []

-- unregister leaves the writer set as it was
abbrev unregister_trap : List Row
unregister_trap =
    row (after unregister (sheet 1 0 no_time 0 0 0 0 0) (with_set (guid 3 ∷ []) started_state)).writers.len 1
    ∷ row (kind_number (after unregister (sheet 1 0 no_time 0 0 0 0 0) (with_set (guid 3 ∷ []) started_state)).life.kind) 2
    ∷ []

-- ---- document 02, request 1: the writer of the sample by which admit starts an instance owns it

-- a sample for key 1: separation, writer and strength, time 1 at a second, and time 2 ten seconds later; no limit and no
-- deadline
abbrev sample_apart : ℕ → ℕ → ℕ → ℕ → Sheet
sample_apart separation writer strength second =
    record {
      key = guid 1;
      guid = guid writer;
      handle = handle 1;
      time_1 = time second 0;
      time_2 = time (second + 10) 0;
      a = separation;
      b = 0;
      first = minus 1;
      second = strength;
      deadline_present = false;
      lease_present = false;
      manual = false;
      by_source = true;
      kind = 0;
      code = 48;
      holder = record { present = false; len = 0; bytes = replicate holder_places 0 };
    }

-- with no separation
abbrev sample_at : ℕ → ℕ → ℕ → Sheet
sample_at = sample_apart 0

abbrev admits : ℕ → ℕ → ℕ → State → Turned
admits writer strength second st = admit_call large_places (sample_at writer strength second) st

-- the first sample, by writer 1 with a strength
abbrev admitted_first : ℕ → State
admitted_first strength = (admits 1 strength 20 fresh_state).state

abbrev owner_in : State → MaybeOwner
owner_in st = (only st.instances).owner

abbrev first_owner_lines : List Row
first_owner_lines =
    row (num (owner_in (admitted_first 5)).guid) 1
    ∷ row (owner_in (admitted_first 5)).strength 5
    ∷ row (only (admitted_first 5).instances).times.owner_at.sec 30
    ∷ row (admits 2 1 21 (admitted_first 5)).answer.outcome 4
    ∷ row (admits 2 6 21 (admitted_first 5)).answer.outcome 0
    ∷ row (admits 2 (minus 3) 21 (admitted_first (minus 2))).answer.outcome 4
    ∷ row (admits 2 (minus 1) 21 (admitted_first (minus 2))).answer.outcome 0
    ∷ []

-- a call by itself on the fresh state, with the sheet of that first sample
abbrev started_by : InstanceCall → Turned
started_by c = instance_call large_places c (sample_at 1 5 20) fresh_state

-- code 16 answers yes and stores nothing; codes 1, 2, 8 and 9 start without an owner, so a weak writer's sample is taken
abbrev unowned_lines : List Row
unowned_lines =
    test (started_by accept_under_exclusive_ownership).answer.yes true
    ∷ row (length (started_by accept_under_exclusive_ownership).state.instances) 0
    ∷ test (owner_in (started_by register).state).present false
    ∷ test (owner_in (started_by ensure_registered_limited).state).present false
    ∷ test (owner_in (started_by observe_lifecycle).state).present false
    ∷ test (owner_in (started_by observe_admitted).state).present false
    ∷ row (admits 2 1 21 (started_by observe_admitted).state).answer.outcome 0
    ∷ []

-- an instance owned by writer 1 with strength 9 is disposed of and purged: the key starts again, owned by its new first writer
abbrev purged_state : State
purged_state =
    (instance_call large_places autopurge (sheet 1 0 (time 0 15) 5 0 0 0 0)
    (state_with (instance_with (with_owner record { present = true; guid = guid 1; strength = 9 } disposed_state) ∷ []))).state

abbrev starts_again_lines : List Row
starts_again_lines =
    row (length purged_state.instances) 0
    ∷ row (num (owner_in (admits 2 1 20 purged_state).state).guid) 2
    ∷ row (admits 3 0 21 (admits 2 1 20 purged_state).state).answer.outcome 4
    ∷ []

-- ---- document 02, request 5: the two figures; a new key where a table has so many instances, with 32 places and with 128

abbrev figure_lines : List Row
figure_lines =
    test (figure_ok 32) true ∷ test (figure_ok 128) true
    ∷ test (figure_ok 0) false ∷ test (figure_ok 33) false ∷ test (figure_ok 64) false ∷ test (figure_ok 127) false ∷ []

abbrev new_key : InstanceCall → ℕ → ℕ → ℕ → ℕ
new_key c limit places n =
    (instance_call places c (sheet 2 0 no_time 0 0 limit 0 0) (state_with (replicate n (instance_with started_state)))).answer.number

-- none at a limit comes before 9
abbrev places_lines : List Row
places_lines =
    row (new_key register 0 small_places 31) 0
    ∷ row (new_key register 0 small_places 32) 9
    ∷ row (new_key register 0 large_places 32) 0
    ∷ row (new_key register 0 large_places 128) 9
    ∷ row (new_key ensure_registered_limited 33 small_places 32) 9
    ∷ row (new_key ensure_registered_limited 32 small_places 32) 0
    ∷ []

-- ---- document 02, request 6: the first alive instance in key order whose set has the GUID, by its handle; 0 for none

abbrev instance_of_set : ℕ → ℕ → List Guid → InstanceState → Instance
instance_of_set key h set x = record { key = guid key; handle = handle h; state = with_set set x }

abbrev writerless_state : InstanceState
writerless_state = with_life (with_kind NotAliveNoWriters started_state.life) started_state

abbrev written : List Instance
written =
    instance_of_set 1 2 (guid 7 ∷ guid 8 ∷ []) disposed_state
    ∷ instance_of_set 2 4 (guid 7 ∷ guid 8 ∷ []) writerless_state
    ∷ instance_of_set 3 9 (guid 6 ∷ []) (with_owner record { present = true; guid = guid 7; strength = 9 } started_state)
    ∷ instance_of_set 4 5 (guid 6 ∷ guid 7 ∷ []) started_state
    ∷ instance_of_set 5 3 (guid 7 ∷ []) started_state
    ∷ instance_of_set 6 6 (guid 7 ∷ []) started_state
    ∷ []

abbrev handle_of : Option Instance → ℕ
handle_of none = 0
handle_of (some x) = x.handle.0

-- of GUID 7 neither a dead one, nor one that it only owns, nor that of the lowest handle, nor the last; GUID 8 has dead ones
-- alone
abbrev lookup_lines : List Row
lookup_lines =
    row (handle_of (first_written (guid 7) written)) 5
    ∷ row (handle_of (first_written (guid 6) written)) 9
    ∷ row (handle_of (first_written (guid 8) written)) 0
    ∷ row (handle_of (first_written (guid 9) written)) 0
    ∷ []

-- ---- document 02, request 7: seconds below 0 count as they are

-- line a ten seconds earlier, and a nanosecond above the separation; across the epoch, where (-1, 999999999) is a nanosecond
-- before (0, 0); the largest gap
abbrev filter_below_lines : List Row
filter_below_lines =
    test (filter_admits (time (minus 5) 0) (time (minus 6) 0) billion) true
    ∷ test (filter_admits (time (minus 5) 0) (time (minus 5) 999_999_999) billion) false
    ∷ test (filter_admits (time (minus 5) 0) (time (minus 4) 0) billion) true
    ∷ test (filter_admits (time (minus 5) 0) (time (minus 4) 1) billion) true
    ∷ test (filter_admits (time (minus 1) 999_999_999) (time 0 0) 1) true
    ∷ test (filter_admits (time (minus 1) 999_999_999) (time 0 0) 2) false
    ∷ test (filter_admits (time (minus (2 ^ 31)) 0) (time (2 ^ 31 - 1) 999_999_999) 4_294_967_295_999_999_999) true
    ∷ test (filter_admits (time (minus (2 ^ 31)) 0) (time (2 ^ 31 - 1) 999_999_999) 4_294_967_296_000_000_000) false
    ∷ []

-- line c, which is a no now; then after (-3, 7) again, and across the epoch
abbrev order_below_lines : List Row
order_below_lines =
    test (order_admits (time (minus 3) 7) (time (minus 9) 8)) false
    ∷ test (order_admits (time (minus 3) 7) (time (minus 3) 7)) false
    ∷ test (order_admits (time (minus 3) 7) (time (minus 3) 8)) true
    ∷ test (order_admits (time (minus 3) 7) (time (minus 2) 0)) true
    ∷ test (order_admits (time (minus 1) 999_999_999) (time 0 0)) true
    ∷ test (order_admits (time 0 0) (time (minus 1) 999_999_999)) false
    ∷ []

-- line i three seconds earlier; a second; across the epoch; and with now earlier, where the gap counts as 0
abbrev purge_below_lines : List Row
purge_below_lines =
    row (purges (time (minus 3) 10) (time (minus 3) 14) 5) 0
    ∷ row (purges (time (minus 3) 10) (time (minus 3) 15) 5) 1
    ∷ row (purges (time (minus 5) 0) (time (minus 4) 0) billion) 1
    ∷ row (purges (time (minus 5) 0) (time (minus 4) 0) (billion + 1)) 0
    ∷ row (purges (time (minus 1) 999_999_999) (time 0 3) 5) 0
    ∷ row (purges (time (minus 1) 999_999_999) (time 0 4) 5) 1
    ∷ row (purges (time (minus 3) 10) (time (minus 4) 3) 0) 1
    ∷ row (purges (time (minus 3) 10) (time (minus 4) 3) 1) 0
    ∷ row (purges (time 0 10) (time (minus 4) 3) 0) 1
    ∷ row (purges (time 0 10) (time (minus 4) 3) 1) 0
    ∷ []

-- admit: a sample of second -30 with filter time -20, then one by the same writer
abbrev admitted_below : ℕ → ℕ → ℕ
admitted_below separation second = (admit_call large_places (sample_apart separation 1 5 second) (admits 1 5 (minus 30) fresh_state).state).answer.outcome

abbrev admit_below_lines : List Row
admit_below_lines =
    row (admitted_below 0 (minus 31)) 1
    ∷ row (admitted_below 0 (minus 30)) 1
    ∷ row (admitted_below 0 (minus 29)) 0
    ∷ row (admitted_below billion (minus 29)) 0
    ∷ row (admitted_below (billion + 1) (minus 29)) 2
    ∷ []

abbrev below_lines : List Row
below_lines = filter_below_lines ++ (order_below_lines ++ (purge_below_lines ++ admit_below_lines))

-- ---- the claim

abbrev pub bench_rows : List Row
bench_rows =
    filter_lines
    ++ (order_lines ++ (deadline_lines ++ (limit_lines ++ (lease_lines ++ (departed_lines ++ (purge_lines
    ++ (revive_trap ++ (register_trap ++ (unregister_trap ++ (first_owner_lines ++ (unowned_lines ++ (starts_again_lines ++ (figure_lines
    ++ (places_lines ++ (lookup_lines ++ below_lines)))))))))))))))
