-- `note` meets its contract: after i turns, i handles.
use Rattle.std.proofs.Common.{◌≡◌, ℕ, ◌<◌, get_or}
use Rattle.instance_table.specs.Laid.{handle_at}
use Rattle.instance_table.proofs.note.Given as goal

abbrev pub invariant-loop-i : goal.invariant-loop-i
invariant-loop-i l = (j : ℕ) → j < l.i → get_or l.hs j 0 ≡ handle_at l.t j
