-- `get` meets its contract: after i turns r is the number of the first i bytes.
use Rattle.std.proofs.Common.{◌≡◌, ◌^◌, ◌<◌}
use Rattle.octets.specs.Octets.{be}
use Rattle.octets.proofs.get.Given as goal

abbrev pub invariant-loop-i : goal.invariant-loop-i
invariant-loop-i l = (l.r ≡ be l.i l.s l.at) × (l.r < 256 ^ l.i)
