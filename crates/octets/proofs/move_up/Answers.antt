use Prim.Native.Nat.{◌+◌, ◌-◌}
use mathlib.Core.Path.{◌≡◌}
use native.Mathlib.Nat.{add-zero}
use native.Mathlib.Omega.{arith}
use lib.ListN.{drop}
use lib.Seq.{paste-zero}
use Rattle.octets.proofs.Moves.{move_up_turn}
use Rattle.octets.proofs.move_up.Goals as goal

pub loop-i-init : goal.loop-i-init
loop-i-init c =
    let a = c.args in
    let e : a.n - a.n ≡ 0 = omega arith in
    rw e (paste-zero a.b.now (a.to + a.n) (drop (a.from + a.n) a.b.now))

pub loop-i-preserved : goal.loop-i-preserved
loop-i-preserved c =
    let a = c.args in
    let l = c.loop-i in
    rw l.invariant (move_up_turn a.b.now a.to a.from a.n l.i (omega arith) (omega arith) (omega arith) (omega arith))

pub returns : goal.returns
returns c =
    let a = c.args in
    let e : c.loop-i.i ≡ 0 = omega arith in
    let whole : a.n - 0 ≡ a.n = omega arith in
    rw (e, add-zero a.to, add-zero a.from, whole) at c.loop-i.invariant
