-- `store` meets its contract: with i bytes left, writing them from x gives what was to be written.
use mathlib.Core.Path.{◌≡◌}
use Rattle.octets.specs.Octets.{put}
use Rattle.octets.proofs.store.Given as goal

abbrev pub invariant-loop-i : goal.invariant-loop-i
invariant-loop-i l = put l.i l.s l.at l.x ≡ put l.k l.initial.s l.at l.v
