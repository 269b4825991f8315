-- `open_gap` meets its contract.
use Prim.Native.Nat.{◌+◌, ◌-◌, ◌*◌}
use mathlib.Core.Path.{◌≡◌}
use native.Mathlib.Omega.{arith}
use Rattle.tables.proofs.GapLaws.{place_rest}
use Rattle.tables.proofs.open_gap.Goals as goal

rest : (s : goal.After-move_up-arg-1) → s.args.at * s.args.size + (s.args.count - s.args.at) * s.args.size ≡ s.args.count * s.args.size
rest s = place_rest s.args.size s.args.at s.args.count s.requires.0

pub overflow_mul-at : goal.overflow_mul-at
overflow_mul-at c = omega (arith, rest c)

pub overflow_add-at : goal.overflow_add-at
overflow_add-at c = omega (arith, rest c)

pub overflow_mul-at-2 : goal.overflow_mul-at-2
overflow_mul-at-2 c = omega (arith, rest c)

pub overflow_mul-count : goal.overflow_mul-count
overflow_mul-count c = omega (arith, rest c)

pub move_up-requires : goal.move_up-requires
move_up-requires c = omega (arith, rest c)
