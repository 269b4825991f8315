use Rattle.std.proofs.Common.{◌≡◌, ltb, leb, sym, ◌∙◌, arith, leb-true}
use Rattle.model.proofs.Tests.{both}
use Rattle.instance_table.proofs.Handles.{met_start, met_tells, met_turn, met_end, low_end, high_end, used-end}
use Rattle.instance_table.proofs.handles_ok.Goals as goal
use Rattle.instance_table.proofs.handles_ok.Goals.{then-met-r+else-scanned-count+else-not-is_unused, else-met-r}

pub loop-i-init : goal.loop-i-init
loop-i-init c = met_start c.args.t.now c.args.next

pub returns-then-h-eq0 : goal.returns-then-h-eq0
returns-then-h-eq0 c =
    let a = c.args in
    let l = c.loop-i in
    low_end a.t.now a.next a.count l.i (omega arith) (sym c.number_at-h.ensures ∙ c.if-h-eq0.true)

pub returns-then-next-h : goal.returns-then-next-h
returns-then-next-h c =
    let a = c.args in
    let l = c.loop-i in
    high_end a.t.now a.next a.count l.i (omega arith) (omega (arith, c.number_at-h.ensures))

pub ordered_ok-requires : goal.ordered_ok-requires
ordered_ok-requires c =
    let a = c.args in
    let l = c.loop-i in
    (leb-true a.count 128 (both (ltb 1280 l.scanned) (leb a.count 128) c.if-scanned-count.true).1, omega arith)

pub returns-then-scanned-count : goal.returns-then-scanned-count
returns-then-scanned-count c = c.ordered_ok.ensures

pub returns-then-not-is_unused : goal.returns-then-not-is_unused
returns-then-not-is_unused c =
    let a = c.args in
    let l = c.loop-i in
    used-end a.t.now a.next a.count l.i (omega arith)
    (rw (← c.number_at-h.ensures) (sym c.is_unused.ensures ∙ c.if-not-is_unused.true))

pub loop-i-preserved : goal.loop-i-preserved
loop-i-preserved c =
    let l = c.loop-i in
    let n = c.number_at-h in
    met_turn l.invariant n.result n.ensures c.if-h-eq0.false c.if-next-h.false
    (elim c.if-met-r.branch [
      | then-met-r+else-scanned-count+else-not-is_unused w ↦ sym w.is_unused.ensures ∙ w.if-not-is_unused.false
      | else-met-r w ↦ met_tells l.invariant n.result w.if-met-r.false
    ])

pub returns : goal.returns
returns c =
    let a = c.args in
    let l = c.loop-i in
    let e : l.i ≡ a.count = omega arith in
    met_end a.t.now a.next a.count l.met (rw e at l.invariant)
