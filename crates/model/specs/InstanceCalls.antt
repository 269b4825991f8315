-- Section 3, the calls on the table: how a call by key starts an instance, what it answers and lists, and where it is
-- refused late (section 8, numbers 9, 10 and 13).
use Rattle.std.specs.Prelude.{ℕ, ◌^◌, Bool, true, false, not, ◌&&◌, cond, List, [], ◌∷◌, ◌++◌, eqb, leb, length}
use Rattle.std.proofs.Math.Option.{Option, none, some}
use Rattle.octets.specs.Patch.{digits}
use Rattle.model.specs.declared.Answer.{Answer}
use Rattle.model.specs.declared.Instance.{Instance}
use Rattle.model.specs.declared.InstanceCall.{InstanceCall}
use Rattle.model.specs.declared.InstanceState.{InstanceState}
use Rattle.model.specs.declared.Sheet.{Sheet}
use Rattle.model.specs.Answers.{refused_with, silent, saying, counting, listing, handed, handed_samples, info_of, informed}
use Rattle.model.specs.Handles.{allocated}
use Rattle.model.specs.Instances.{Report, Unreported, Left, Owner, Prefix, Purge, Says, Nothing, Handle, Known, Samples, Info, Accepted, Released, effect, rule, reaches, starts_by, limited_by, on_every, has_key, started, writers_in, left_by, owns, owns_prefix, purged, takes_over}
use Rattle.model.specs.Sets.{set_places, has}
use Rattle.model.specs.State.{State, instance_key}
use Rattle.model.specs.Tables.{is_some, find, pick, any, put, sift}
use Rattle.model.specs.Times.{negative}

-- what a call leaves: its answer, the state, and the bytes of the list for the front of Out
pub record Turned : Type 0 where
  pub answer : Answer
  pub state : State
  pub list : List ℕ

abbrev pub refused : ℕ → State → Turned
refused n st = record { answer = refused_with n; state = st; list = [] }

-- an accepted call that changes nothing
abbrev pub unchanged : Answer → State → Turned
unchanged a st = record { answer = a; state = st; list = [] }

abbrev pub with_instances : List Instance → ℕ → State → State
with_instances xs next st =
    record {
      instances = xs;
      next_handle = next;
      writers = st.writers;
      lost = st.lost;
      acknowledged_alive = st.acknowledged_alive;
      acknowledged_not_alive = st.acknowledged_not_alive;
      last_writer = st.last_writer;
      changes = st.changes;
    }

-- ---- the turn of the table

abbrev pub known : Sheet → State → Bool
known s st = any (has_key s.key) st.instances

-- the call starts the instance of its key
abbrev pub begins : InstanceCall → Sheet → State → Bool
begins c s st = starts_by (rule c).reach && not (known s st)

-- the instances before the call acts: with the one that it starts, its handle from the counter
unfoldable pub begun : InstanceCall → Sheet → State → List Instance
begun c s st =
    cond (begins c s st) (put instance_key (started s.key (allocated st.next_handle).handle.0) st.instances) st.instances

unfoldable pub next_after : InstanceCall → Sheet → State → ℕ
next_after c s st = cond (begins c s st) (allocated st.next_handle).counter st.next_handle

-- key and handle stay as they are
abbrev pub kept : Instance → Option InstanceState → Option Instance
kept x none = none
kept x (some y) = some record { key = x.key; handle = x.handle; state = y }

abbrev pub acts : InstanceCall → Sheet → Instance → Option Instance
acts c s x = cond (reaches c s x) (kept x (effect c s x.state)) (some x)

unfoldable pub instances_after : InstanceCall → Sheet → State → List Instance
instances_after c s st = sift (acts c s) (begun c s st)

-- ---- the list: the handles of the instances left writerless, in key order, 8 bytes each

abbrev pub lists_left : Report → Bool
lists_left Unreported = false
lists_left Left = true
lists_left Owner = false
lists_left Prefix = false
lists_left Purge = false

-- the call lists the instances that it leaves writerless
abbrev pub lists : InstanceCall → Bool
lists c = on_every c && lists_left (rule c).reports

abbrev pub listed_by : InstanceCall → Sheet → Instance → Bool
listed_by c s x = lists c && left_by s.guid x.state

unfoldable pub handle_bytes : List Instance → List ℕ
handle_bytes [] = []
handle_bytes (x ∷ xs) = digits 8 x.handle.0 ++ handle_bytes xs

-- ---- the answer, from the instances before the call acts and after it

abbrev pub is_left : Sheet → Instance → Bool
is_left s x = left_by s.guid x.state

abbrev pub owned_by : Sheet → Instance → Bool
owned_by s x = owns s.guid x.state.owner

abbrev pub prefix_owned : Sheet → Instance → Bool
prefix_owned s x = owns_prefix s.guid x.state.owner

abbrev pub is_purged : Sheet → Instance → Bool
is_purged s x = purged s x.state

abbrev pub handle_answer : Option Instance → Answer
handle_answer none = silent
handle_answer (some x) = handed x.handle

abbrev pub samples_answer : Option Instance → Answer
samples_answer none = silent
samples_answer (some x) = handed_samples x.handle x.state.life.samples

abbrev pub info_answer : Option Instance → Answer
info_answer none = silent
info_answer (some x) = informed (info_of x.state)

-- code 16: an unknown instance yes
abbrev pub accepted : Sheet → Option Instance → Bool
accepted s none = true
accepted s (some x) = takes_over s x.state

abbrev pub released : Sheet → Option Instance → Bool
released s none = false
released s (some x) = owned_by s x

abbrev pub reached : InstanceCall → Sheet → List Instance → Option Instance
reached c s xs = find (reaches c s) xs

-- of the one instance, none where there is none
abbrev pub answer_of : Says → Sheet → Option Instance → Option Instance → Answer
answer_of Nothing s before after = silent
answer_of Handle s before after = handle_answer before
answer_of Known s before after = saying (is_some before)
answer_of Samples s before after = samples_answer after
answer_of Info s before after = info_answer after
answer_of Accepted s before after = saying (accepted s before)
answer_of Released s before after = saying (released s before)

-- of every instance: how many are listed or counted
abbrev pub reported : Report → Sheet → List Instance → Answer
reported Unreported s before = silent
reported Left s before = listing (length (pick (is_left s) before))
reported Owner s before = counting (length (pick (owned_by s) before))
reported Prefix s before = counting (length (pick (prefix_owned s) before))
reported Purge s before = counting (length (pick (is_purged s) before))

abbrev pub told : InstanceCall → Sheet → List Instance → List Instance → Answer
told c s before after =
    cond (on_every c) (reported (rule c).reports s before) (answer_of (rule c).says s (reached c s before) (reached c s after))

-- ---- limits and late refusals

-- a negative limit is none; a known key never meets it
abbrev pub at_limit : Sheet → State → Bool
at_limit s st = not (known s st) && (not (negative s.first) && leb s.first (length st.instances))

-- 9: new instance, every place taken
abbrev pub full : ℕ → State → Bool
full places st = leb places (length st.instances)

-- 13: new instance, next handle 2^63
abbrev pub spent : State → Bool
spent st = leb (2 ^ 63) st.next_handle

-- 10: new writer, 16 in the set of the instance
abbrev pub crowds : Sheet → Option Instance → Bool
crowds s none = false
crowds s (some x) = not (has s.guid (writers_in x.state)) && leb set_places (length (writers_in x.state))

-- the number of the late refusal, 0 for none
unfoldable pub late_refusal : ℕ → InstanceCall → Sheet → State → ℕ
late_refusal places c s st =
    cond (begins c s st && full places st) 9
    (cond (begins c s st && spent st) 13
    (cond ((rule c).adds_writer && crowds s (reached c s st.instances)) 10 0))

-- ---- the call

unfoldable pub instance_turn : InstanceCall → Sheet → State → Turned
instance_turn c s st =
    record {
      answer = told c s (begun c s st) (instances_after c s st);
      state = with_instances (instances_after c s st) (next_after c s st) st;
      list = handle_bytes (pick (listed_by c s) (begun c s st));
    }

-- in codes 2 and 9 the answer none at the limit comes before refusals 9 and 13
unfoldable pub instance_call : ℕ → InstanceCall → Sheet → State → Turned
instance_call places c s st =
    cond (limited_by (rule c).reach && at_limit s st) (unchanged silent st)
    (cond (eqb (late_refusal places c s st) 0) (instance_turn c s st) (refused (late_refusal places c s st) st))
