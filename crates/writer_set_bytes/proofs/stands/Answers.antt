-- Where a GUID of the list stands.
use native.Mathlib.Omega.{arith}
use Rattle.writer_set_bytes.proofs.WalkLaws.{stands-end, stands_at, stand_same, stand_before, stand_behind}
use Rattle.std.specs.declared.cmp.Ordering.TheVariants.{Less, Equal, Greater}
use Rattle.writer_set_bytes.proofs.stands.Goals as goal

pub returns-then-gone-j : goal.returns-then-gone-j
returns-then-gone-j c = let a = c.args in stands-end a.gone.now a.j a.g (omega arith)

pub returns-then-is_same : goal.returns-then-is_same
returns-then-is_same c =
    let a = c.args in
    let x = c.guid_at-there in
    stands_at a.gone.now a.j a.g x.result Equal (omega arith) x.ensures (stand_same x.result a.g _ c.is_same.ensures c.if-is_same.true)

pub returns-then-is_less : goal.returns-then-is_less
returns-then-is_less c =
    let a = c.args in
    let x = c.guid_at-there in
    stands_at a.gone.now a.j a.g x.result Less (omega arith) x.ensures
    (stand_before x.result a.g _ _ c.is_same.ensures c.if-is_same.false c.is_less.ensures c.if-is_less.true)

pub returns : goal.returns
returns c =
    let a = c.args in
    let x = c.guid_at-there in
    stands_at a.gone.now a.j a.g x.result Greater (omega arith) x.ensures
    (stand_behind x.result a.g _ _ c.is_same.ensures c.if-is_same.false c.is_less.ensures c.if-is_less.false)
