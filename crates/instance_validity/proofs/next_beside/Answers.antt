-- `next_beside` meets its contract: the high halves decide where they differ, else the low ones.
use mathlib.Core.Path.{◌∙◌}
use native.Mathlib.Omega.{arith}
use borrow.Author.Tests.{lt-ltb, le-ltb}
use Rattle.instance_validity.proofs.Rise.{next_high, next_low}
use Rattle.instance_validity.proofs.next_beside.Goals as goal

pub returns-then-b-a : goal.returns-then-b-a
returns-then-b-a c =
    let g = c.get_u64-a in
    let h = c.get_u64-b in
    let a = c.args in
    next_high a.s.now (λ i. omega (arith, c.type_inv.s i)) a.at g.result h.result g.ensures h.ensures c.if-a-b.true ∙ le-ltb g.result h.result (omega arith)

pub returns-then-a-b : goal.returns-then-a-b
returns-then-a-b c =
    let g = c.get_u64-a in
    let h = c.get_u64-b in
    let n = c.if-a-b.true in
    let a = c.args in
    (next_high a.s.now (λ i. omega (arith, c.type_inv.s i)) a.at g.result h.result g.ensures h.ensures n ∙ lt-ltb g.result h.result (omega (arith, n)), c.get_u64.ensures)

pub returns-then-next-low : goal.returns-then-next-low
returns-then-next-low c =
    let g = c.get_u64-a in
    let h = c.get_u64-b in
    let m = c.get_u64-next in
    let a = c.args in
    next_low a.s.now a.at g.result h.result a.low m.result g.ensures h.ensures c.if-a-b.false c.requires.1 m.ensures ∙ le-ltb a.low m.result (omega arith)

pub returns : goal.returns
returns c =
    let g = c.get_u64-a in
    let h = c.get_u64-b in
    let m = c.get_u64-next in
    let a = c.args in
    (next_low a.s.now a.at g.result h.result a.low m.result g.ensures h.ensures c.if-a-b.false c.requires.1 m.ensures ∙ lt-ltb a.low m.result (omega arith), m.ensures)
