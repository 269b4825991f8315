-- What a call on one instance asks of the lent table, and what it leaves.
--     LeavesTable, Turned      what comes back and what the table then holds is what model's call leaves
--     start_refusal      what refuses a new instance
--     Acted             what a call leaves of an instance
--     Reached, Absent, Starts
--                       the instance that a call reaches stands at a place; it reaches none; it starts one there
use Rattle.std.specs.Prelude.{ℕ, ◌<◌, true, false, not, ◌&&◌, cond, List, [], map, ◌≡◌, leb, length, Err}
use Rattle.std.proofs.Math.Option.{some}
use Rattle.model.specs.declared.Instance.{Instance}
use Rattle.model.specs.declared.InstanceCall.{InstanceCall}
use Rattle.model.specs.declared.InstanceState.{InstanceState}
use Rattle.model.specs.declared.Sheet.{Sheet}
use Rattle.model.specs.Guids.{num}
use Rattle.model.specs.InstanceCalls.{instance_call}
use Rattle.model.specs.InstanceCalls as calls
use Rattle.model.specs.InstanceRecord.{instance_of}
use Rattle.model.specs.Instances.{effect, rule, has_key, reaches, starts_by}
use Rattle.model.specs.State.{instance_key}
use Rattle.model.specs.Tables.{any}
use Rattle.tables.specs.Found.{found_in}
use Rattle.tables.specs.Places.{Only, Nowhere}
use Rattle.instance_table.specs.declared.TableCall.{TableCall}
use Rattle.instance_table.specs.Laid.{Laid}
use Rattle.instance_table.specs.TableCalls.{state_with}
use Rattle.instance_reach.specs.Rules.{single}

-- r, and the table t, are what is left of the turn T, which lists nothing
pub record LeavesTable (places : ℕ) (T : calls.Turned) (r : TableCall) (t : List ℕ) : Type 0 where
  pub answer : r.answer ≡ T.answer
  pub count : r.count ≡ length T.state.instances
  pub next : r.next_handle.0 ≡ T.state.next_handle
  pub laid : Laid places T.state.instances t
  pub quiet : T.list ≡ []

-- r and t are what the call leaves of the instances xs
abbrev pub Turned : ℕ → InstanceCall → Sheet → List Instance → ℕ → TableCall → List ℕ → Type 0
Turned places c s xs next r t = LeavesTable places (instance_call places c s (state_with xs next)) r t

-- what refuses a new instance, else 0
abbrev pub start_refusal : ℕ → ℕ → ℕ → ℕ
start_refusal places count next = cond (leb places count) 9 (cond (leb 9_223_372_036_854_775_808 next) 13 0)

-- what stands in for an instance that is not there
abbrev pub blank : Instance
blank = instance_of []

-- the instance with another state
abbrev pub with_state : Instance → InstanceState → Instance
with_state x z = record { key = x.key; handle = x.handle; state = z }

-- y is what the call leaves of x
pub record Acted (c : InstanceCall) (s : Sheet) (x y : Instance) : Type 0 where
  pub left : effect c s x.state ≡ some y.state
  pub same : y ≡ with_state x y.state
  pub few : y.state.writers.len < 32

-- the call reaches one instance, that at place i, and starts none
pub record Reached (c : InstanceCall) (s : Sheet) (xs : List Instance) (i : ℕ) : Type 0 where
  pub one : single (rule c).reach ≡ true
  pub old : (starts_by (rule c).reach && not (any (has_key s.key) xs)) ≡ false
  pub only : Only (reaches c s) xs i blank

-- it reaches none, and starts none
pub record Absent (c : InstanceCall) (s : Sheet) (xs : List Instance) : Type 0 where
  pub one : single (rule c).reach ≡ true
  pub idle : starts_by (rule c).reach ≡ false
  pub nowhere : Nowhere (reaches c s) xs blank

-- it starts the instance of its key, which goes in at place i
pub record Starts (c : InstanceCall) (s : Sheet) (xs : List Instance) (i : ℕ) : Type 0 where
  pub starts : starts_by (rule c).reach ≡ true
  pub missing : found_in (map instance_key xs) (num s.key) ≡ Err i
