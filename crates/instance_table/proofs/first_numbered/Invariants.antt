-- `first_numbered` meets its contract: none that was passed has the number.
use Rattle.std.proofs.Common.{ℕ, ◌<◌, ◌≢◌}
use Rattle.instance_table.specs.Laid.{handle_at}
use Rattle.instance_table.proofs.first_numbered.Given as goal

abbrev pub invariant-loop-i : goal.invariant-loop-i
invariant-loop-i l = (j : ℕ) → j < l.i → handle_at l.t j ≢ l.number
