use Prim.Native.Nat.{◌+◌, ◌-◌}
use mathlib.Core.Path.{◌≡◌, sym, ◌∙◌}
use native.Mathlib.Omega.{arith}
use Rattle.octets.specs.Octets.{put}
use Rattle.octets.proofs.Laws.{put_step}
use Rattle.octets.proofs.store.Goals as goal

pub loop-i-preserved : goal.loop-i-preserved
loop-i-preserved c =
    let a = c.args in
    let l = c.loop-i in
    let e : (l.i - 1) + 1 ≡ l.i = omega arith in
    let h : put ((l.i - 1) + 1) l.s a.at l.x ≡ put a.k a.s.now a.at a.v = rw e l.invariant in
    sym (put_step (l.i - 1) l.s a.at l.x) ∙ h

pub returns : goal.returns
unfolding put
returns c =
    let e : c.loop-i.i ≡ 0 = omega arith in
    rw e at c.loop-i.invariant
