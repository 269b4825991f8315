-- None that was passed is g.
use Prim.Native.Nat.{ℕ, ◌*◌, ◌<◌}
use mathlib.Core.Bool.{false}
use mathlib.Core.Path.{◌≡◌}
use Rattle.model.specs.Guids.{same, guid_at}
use Rattle.writer_set_bytes.proofs.place_of.Given as goal

abbrev pub invariant-loop-i : goal.invariant-loop-i
invariant-loop-i l = (j : ℕ) → j < l.i → same (guid_at l.set (j * 16)) l.g ≡ false
