use native.Mathlib.Omega.{arith}
use Rattle.octets.proofs.Moves.{move_down_turn}
use Rattle.octets.proofs.move_down.Goals as goal

pub loop-i-preserved : goal.loop-i-preserved
loop-i-preserved c =
    let a = c.args in
    let l = c.loop-i in
    rw l.invariant (move_down_turn a.b.now a.to a.from l.i (omega arith) (omega arith))
