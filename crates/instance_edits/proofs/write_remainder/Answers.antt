-- `write_remainder` meets its contract.
use mathlib.Core.Logic.{⊎_elim}
use native.Mathlib.Omega.{arith}
use Rattle.instance_edits.proofs.RecordEdits.{settled-left, settled-less, settled_same}
use Rattle.instance_edits.proofs.write_remainder.Goals as goal

pub returns-then-k-n : goal.returns-then-k-n
returns-then-k-n c = let a = c.args in settled_same a.n a.k a.at a.s.now a.s.now 0 c.if-k-n.true

pub returns-then-f-lt16384 : goal.returns-then-f-lt16384
returns-then-f-lt16384 c =
    let a = c.args in
    settled-left a.n a.k a.at a.s.now c.leave_writerless.new.s c.get_u16-f.result
    (omega arith) (omega arith) c.get_u16-f.ensures (omega arith) c.leave_writerless.ensures

pub returns : goal.returns
returns c =
    let a = c.args in
    settled-less a.n a.k a.at a.s.now c.put_u16.new.s c.get_u16-f.result
    (omega arith) c.get_u16-f.ensures
    (λ z. ⊎_elim (λ b. b.1) (λ n. absurd (n z)) c.else-k-eq0.either)
    c.put_u16.ensures
