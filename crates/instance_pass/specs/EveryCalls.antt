-- What a call on every instance leaves.
--     answer_as      the answer, from what was reported of the instances
--     LeavesTableAndOut          what comes back, the table and Out are what is left of a turn
use Rattle.std.specs.Prelude.{ℕ, List, ◌≡◌, length}
use Rattle.model.specs.declared.Answer.{Answer}
use Rattle.model.specs.Answers.{silent, counting, listing}
use Rattle.model.specs.Call.{list_in}
use Rattle.model.specs.InstanceCalls.{Turned}
use Rattle.instance_table.specs.declared.TableCall.{TableCall}
use Rattle.instance_table.specs.Laid.{Laid}
use Rattle.model.specs.declared.Report.{Report}
use Rattle.model.specs.declared.Report.TheVariants.{Nothing, Left as IsLeft, Owner, Prefix, Purge}

-- how many are listed, or counted
abbrev pub answer_as : Report → ℕ → ℕ → Answer
answer_as Nothing listed counted = silent
answer_as IsLeft listed counted = listing listed
answer_as Owner listed counted = counting counted
answer_as Prefix listed counted = counting counted
answer_as Purge listed counted = counting counted

-- r, the table t and out are what is left of the turn T, which was lent this Out
pub record LeavesTableAndOut (places : ℕ) (T : Turned) (lent : List ℕ) (r : TableCall) (t out : List ℕ) : Type 0 where
  pub answer : r.answer ≡ T.answer
  pub count : r.count ≡ length T.state.instances
  pub next : r.next_handle.0 ≡ T.state.next_handle
  pub laid : Laid places T.state.instances t
  pub list : out ≡ list_in T.list lent
