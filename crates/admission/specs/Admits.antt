-- What code 48 asks of the lent table on its way, and what it leaves.
--     Admits            what comes back and what the table then holds is what model's admit leaves
--     Known, Timely     the instance of the key stands at a place; its sample passes order and filter
--     Sampled           what an admitted sample leaves of an instance
--     limited           the limit of instances, for a new key
use Rattle.std.specs.Prelude.{ℕ, ◌<◌, Bool, true, not, ◌&&◌, List, ◌≡◌, leb, get_or}
use Rattle.std.proofs.Math.Option.{some}
use Rattle.model.specs.declared.Instance.{Instance}
use Rattle.model.specs.declared.Sheet.{Sheet}
use Rattle.model.specs.Instances.{has_key, owned_from, admitted_observed, admitted_noted}
use Rattle.model.specs.Joined.{admit_call, in_order, passes_filter}
use Rattle.model.specs.Times.{negative}
use Rattle.tables.specs.Places.{Only}
use Rattle.instance_table.specs.declared.TableCall.{TableCall}
use Rattle.instance_table.specs.TableCalls.{state_with}
use Rattle.instance_reach.specs.Turned.{LeavesTable, blank, with_state}

-- r and t are what admit leaves of the instances xs
abbrev pub Admits : ℕ → Sheet → List Instance → ℕ → TableCall → List ℕ → Type 0
Admits places s xs next r t = LeavesTable places (admit_call places s (state_with xs next)) r t

-- x, at place i, is the instance of the sheet's key
pub record Known (s : Sheet) (xs : List Instance) (i : ℕ) (x : Instance) : Type 0 where
  pub only : Only (has_key s.key) xs i blank
  pub is : x ≡ get_or xs i blank

-- neither outcome 1 nor outcome 2
pub record Timely (s : Sheet) (x : Instance) : Type 0 where
  pub order : in_order s (some x) ≡ true
  pub filter : passes_filter s (some x) ≡ true

-- y is x after codes 9 and 10, owned by the sample's writer
pub record Sampled (s : Sheet) (x y : Instance) : Type 0 where
  pub left : y ≡ with_state x (owned_from s (admitted_noted s (admitted_observed s x.state)))
  pub few : y.state.writers.len < 32

-- outcome 3 for a key that is not known
abbrev pub limited : Sheet → ℕ → Bool
limited s count = not (negative s.first) && leb s.first count
