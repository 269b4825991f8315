-- The lower halves, then the upper ones.
use Prim.Native.Nat.{◌+◌, ◌*◌}
use mathlib.Core.Path.{◌≡◌, ◌∙◌}
use native.Mathlib.Omega.{arith}
use borrow.Author.Tests.{ne_eqb}
use Rattle.octets.specs.Octets.{be}
use Rattle.octets.proofs.BoundLaws.{be-lt}
use Rattle.model.specs.Guids.{guid_at}
use Rattle.writer_set_bytes.proofs.OneOut.{halves_differ, halves_same}
use borrow.Author.Rules.{rules}
use Rattle.writer_set_bytes.proofs.is_at.Goals as goal

pub returns-then-get_u64-g : goal.returns-then-get_u64-g
returns-then-get_u64-g c =
    let a = c.args in
    rw c.get_u64-then-get_u64-g.ensures (halves_same (guid_at a.set.now (a.i * 16)) a.g (omega arith))

pub returns-else-get_u64-g : goal.returns-else-get_u64-g
returns-else-get_u64-g c =
    let a = c.args in
    let differ = λ (e : be 8 a.set.now (a.i * 16 + 8) ≡ a.g.lo). c.if-get_u64-g.false (c.get_u64.ensures ∙ e) in
    rw (ne_eqb _ _ c.if-get_u64-g.false)
    (halves_differ (guid_at a.set.now (a.i * 16)) a.g (be-lt 8 a.set.now (a.i * 16 + 8) (λ j. (c.type_inv.set j).fits)) (search rules) differ)
