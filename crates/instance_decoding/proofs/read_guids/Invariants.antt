-- `read_guids` meets its contract: the GUIDs passed are read.
use Rattle.std.proofs.Common.{◌≡◌, ℕ, ◌+◌, ◌*◌, ◌<◌, length, get_or}
use Rattle.model.specs.Guids.{nil, guid_at}
use Rattle.instance_decoding.proofs.read_guids.Given as goal

abbrev pub invariant-loop-i : goal.invariant-loop-i
invariant-loop-i l = (length l.guids ≡ 16) × ((k : ℕ) → k < l.i → get_or l.guids k nil ≡ guid_at l.s (256 + k * 16))
