use Rattle.std.proofs.Common.{rules, arith, ℕ, ◌≡◌, ◌+◌, ◌*◌, ◌<◌, ◌≤◌, ◌^◌, slice_index_or}
use Rattle.octets.specs.Octets.{be}
use Rattle.octets.proofs.Laws.{be-step, be-room, room_8}
use Rattle.octets.proofs.get.Goals as goal

-- the number with a byte more stays below 2 ^ 64
fits : (k i r b : ℕ) → i < k → k ≤ 8 → r < 256 ^ i → b < 256 → r * 256 + b < 2 ^ 64
fits k i r b h l p q = omega (arith, be-room i r b p q, room_8 {k = i + 1} (omega arith))

-- the byte that a turn reads
small : (c : goal.After-from) → c.from.result < 256
small c = omega (arith, c.from.ensures, c.type_inv.s (c.args.at + c.loop-i.i))

pub loop-i-init : goal.loop-i-init
unfolding be
loop-i-init c = search rules

pub overflow_mul-r : goal.overflow_mul-r
overflow_mul-r c =
    let l = c.loop-i in
    omega (arith, fits c.args.k l.i l.r 0 (omega arith) (omega arith) (omega arith) (omega arith))

pub overflow_add-r : goal.overflow_add-r
overflow_add-r c =
    let l = c.loop-i in
    omega (arith, fits c.args.k l.i l.r c.from.result (omega arith) (omega arith) (omega arith) (small c))

pub loop-i-preserved : goal.loop-i-preserved
loop-i-preserved c =
    let l = c.loop-i in
    (omega (arith, c.from.ensures, be-step l.i c.args.s.now c.args.at), be-room l.i l.r c.from.result (omega arith) (small c))
