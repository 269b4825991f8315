-- `find` meets its contract: the key stands at its lower bound or nowhere.
use Prim.Native.Nat.{◌+◌, ◌*◌, ◌≤◌}
use mathlib.Core.Path.{sym, ◌∙◌}
use native.Mathlib.Omega.{arith}
use lib.ListN.{length}
use Rattle.tables.proofs.Search.{record_le, find_at, find_other, find-end}
use Rattle.tables.proofs.find.Goals as goal

-- the record at the place is within the table
room : (c : goal.Then-place-count)
    → (let a = c.args in c.lower_bound-place.result * a.size + a.size ≤ length a.t.now)
room c = omega (arith, record_le c.args.size c.if-place-count.true)

pub overflow_mul-place : goal.overflow_mul-place
overflow_mul-place c = omega (arith, room c)

pub guid_at-requires : goal.guid_at-requires
guid_at-requires c = omega (arith, room c)

pub returns-then-is_same : goal.returns-then-is_same
returns-then-is_same c =
    let a = c.args in
    let b = c.lower_bound-place in
    let k = c.guid_at in
    find_at a.size a.count a.t.now a.key b.result b.ensures k.result k.ensures (omega arith)
    (sym c.is_same.ensures ∙ c.if-is_same.true)

pub returns-else-is_same : goal.returns-else-is_same
returns-else-is_same c =
    let a = c.args in
    let b = c.lower_bound-place in
    let k = c.guid_at in
    find_other a.size a.count a.t.now a.key b.result b.ensures k.result k.ensures (omega arith)
    (sym c.is_same.ensures ∙ c.if-is_same.false)

pub returns-else-place-count : goal.returns-else-place-count
returns-else-place-count c =
    let a = c.args in
    find-end a.size a.count a.t.now a.key c.lower_bound-place.result c.lower_bound-place.ensures (omega arith)
