-- A GUID goes to its place, where it may stand already.
use Prim.Native.Nat.{◌*◌}
use mathlib.Core.Path.{◌∙◌}
use native.Mathlib.Omega.{arith}
use Rattle.guid.proofs.Laws.{guid-patch}
use Rattle.writer_set_bytes.proofs.WalkLaws.{stay_stood}
use Rattle.writer_set_bytes.proofs.stay.Goals as goal

pub returns-then-k-i : goal.returns-then-k-i
returns-then-k-i c =
    let a = c.args in
    c.put_guid.ensures ∙ guid-patch a.set.now (a.k * 16) a.g (omega arith)

pub returns-else-k-i : goal.returns-else-k-i
returns-else-k-i c =
    let a = c.args in
    stay_stood a.set.now a.i a.k a.g (λ j. (c.type_inv.set j).fits) (omega arith) c.requires.1 c.requires.2
