-- `close_gap` meets its contract.
use Prim.Native.Nat.{◌+◌, ◌-◌, ◌*◌}
use mathlib.Core.Path.{◌≡◌, sym}
use native.Mathlib.Omega.{arith}
use Rattle.tables.proofs.GapLaws.{place_next, place_rest}
use Rattle.tables.proofs.close_gap.Goals as goal

rest : (s : goal.After-move_down-arg-1)
    → s.args.at * s.args.size + s.args.size + (s.args.count - (s.args.at + 1)) * s.args.size ≡ s.args.count * s.args.size
rest s = omega (arith, place_next s.args.size s.args.at, place_rest s.args.size (s.args.at + 1) s.args.count (omega arith))

end : (s : goal.After-clear-arg-1) → (s.args.count - 1) * s.args.size + s.args.size ≡ s.args.count * s.args.size
end s =
    let e : s.args.count - 1 + 1 ≡ s.args.count = omega arith in
    rw e at (sym (place_next s.args.size (s.args.count - 1)))

pub overflow_mul-at : goal.overflow_mul-at
overflow_mul-at c = omega (arith, rest c)

pub overflow_mul-at-2 : goal.overflow_mul-at-2
overflow_mul-at-2 c = omega (arith, rest c)

pub overflow_add-at : goal.overflow_add-at
overflow_add-at c = omega (arith, rest c)

pub overflow_mul-count : goal.overflow_mul-count
overflow_mul-count c = omega (arith, rest c)

pub move_down-requires : goal.move_down-requires
move_down-requires c = omega (arith, rest c)

pub overflow_mul-count-2 : goal.overflow_mul-count-2
overflow_mul-count-2 c = omega (arith, end c)

pub clear-requires : goal.clear-requires
clear-requires c = omega (arith, end c)
