-- A call on the instance table: what it may rely on, and what it leaves by value.
--     TableFormed         the table is well formed
--     left          what a call leaves by value
--     state_with     the state of which the table is all
use Rattle.std.specs.Prelude.{◌≡◌, ℕ, ◌*◌, ◌≤◌, true, List, length}
use Rattle.model.specs.declared.Answer.{Answer}
use Rattle.model.specs.declared.Instance.{Instance}
use Rattle.model.specs.declared.InstanceHandle.{InstanceHandle}
use Rattle.model.specs.InstanceCalls.{with_instances}
use Rattle.model.specs.State.{State, fresh_state}
use Rattle.model.specs.WellFormed.{instance_table_ok}
use Rattle.instance_table.specs.declared.TableCall.{TableCall}

-- the table is well formed, with so many instances and that next handle
pub record TableFormed (places count next : ℕ) (t : List ℕ) : Type 0 where
  pub few : places ≤ 128
  pub size : length t ≡ places * 512
  pub formed : instance_table_ok places count next t ≡ true

-- what a call leaves by value
abbrev pub left : Answer → ℕ → InstanceHandle → TableCall
left a count next = record { answer = a; count = count; next_handle = next }

-- the state of which these instances and the next handle are all
abbrev pub state_with : List Instance → ℕ → State
state_with xs next = with_instances xs next fresh_state
