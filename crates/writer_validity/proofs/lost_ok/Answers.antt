-- `lost_ok` meets its contract.
use mathlib.Core.Path.{refl, sym}
use borrow.Author.Tests.{le-leb, lt-leb}
use Rattle.writer_validity.proofs.Heads.{lost_by_lem}
use Rattle.writer_validity.proofs.lost_ok.Goals as goal

pub returns-then-count-le256 : goal.returns-then-count-le256
returns-then-count-le256 c =
    let a = c.args in lost_by_lem a.count a.lost.now (le-leb _ _ c.if-count-le256.true) (sym c.zero_from.ensures)

pub returns-else-count-le256 : goal.returns-else-count-le256
returns-else-count-le256 c =
    let a = c.args in
    rw (lt-leb _ _ c.if-count-le256.false) (lost_by_lem a.count a.lost.now (lt-leb _ _ c.if-count-le256.false) refl)
