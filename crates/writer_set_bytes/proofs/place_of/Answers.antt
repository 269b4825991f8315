use mathlib.Core.Path.{sym, ◌∙◌}
use native.Mathlib.Omega.{arith}
use Rattle.writer_set_bytes.proofs.OneOut.{guid_place}
use Rattle.writer_set_bytes.proofs.place_of.Goals as goal

pub returns-then-is_at : goal.returns-then-is_at
returns-then-is_at c =
    let a = c.args in
    let l = c.loop-i in
    guid_place a.n a.set.now a.g l.i (omega arith) l.invariant (λ m. sym c.is_at.ensures ∙ c.if-is_at.true)

pub returns : goal.returns
returns c =
    let a = c.args in
    guid_place a.n a.set.now a.g a.n (omega arith) (λ j m. c.loop-i.invariant j (omega arith)) (λ m. absurd (omega arith))
