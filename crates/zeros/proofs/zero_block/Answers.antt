use Prim.Native.Nat.{◌*◌}
use mathlib.Core.Path.{◌≡◌, refl, ◌∙◌, ap}
use native.Mathlib.Omega.{arith}
use Rattle.octets.specs.Zeros.{all_zero}
use Rattle.zeros.proofs.Words.{zeros, words_turn}
use Rattle.zeros.proofs.zero_block.Goals as goal

pub loop-i-init : goal.loop-i-init
unfolding all_zero
loop-i-init g c = refl

pub loop-i-preserved : goal.loop-i-preserved
loop-i-preserved g c =
    let a = c.args in
    let l = c.loop-i in
    words_turn a.s.now l.i a.at l.any c.get_u64-any.result (omega arith) l.invariant c.get_u64-any.ensures

pub returns : goal.returns
returns g c =
    let a = c.args in
    let l = c.loop-i in
    let e : l.i * 8 ≡ g.row.N = omega arith in
    l.invariant ∙ ap (λ n. zeros a.s.now n a.at) e
