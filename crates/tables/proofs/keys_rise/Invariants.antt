-- `keys_rise` meets its contract: the first i keys rise, and the last of them is at hand.
use Prim.Native.Nat.{◌-◌, ◌*◌}
use mathlib.Core.Path.{◌≡◌}
use mathlib.Core.Bool.{true}
use Rattle.model.specs.Guids.{guid_at}
use Rattle.tables.specs.Keys.{keys, rising}
use Rattle.tables.proofs.keys_rise.Given as goal

abbrev pub invariant-loop-i : goal.invariant-loop-i
invariant-loop-i l = (l.last ≡ guid_at l.t ((l.i - 1) * l.size)) × (rising (keys l.size l.i l.t) ≡ true)
