use Prim.Native.Nat.{◌+◌, ◌-◌, ◌*◌, ◌/◌}
use mathlib.Core.Path.{◌≡◌, sym, ap, ◌∙◌}
use native.Mathlib.Nat.{add-mul, one-mul, zero-mul}
use native.Mathlib.Omega.{arith}
use lib.ListN.{take, drop, length}
use Rattle.zeros.proofs.Words.{zeros, tail_turn, tail_stop, tail_end, tail_short, whole_blocks, block_turn}
use Rattle.zeros.proofs.zero_by.Goals as goal

pub returns-then-not-zero_block : goal.returns-then-not-zero_block
returns-then-not-zero_block g c =
    let a = c.args in
    sym (tail_short a.s.now g.row.N a.end a.from (omega arith) (omega arith) (sym c.zero_block.ensures ∙ c.if-not-zero_block.true))

pub loop-block-init : goal.loop-block-init
loop-block-init g c =
    let a = c.args in
    let e : a.from + 0 * g.row.N ≡ a.from = omega (arith, zero-mul g.row.N) in
    ap (λ n. zeros a.s.now (a.end - n) n) (sym e)

pub returns-then-not-zero_block-2 : goal.returns-then-not-zero_block-2
returns-then-not-zero_block-2 g c =
    let a = c.args in
    let i = c.loop-block.block-index in
    let n = g.row.N in
    let b = c.block-item in
    let k = c.as_chunks in
    let t = block_turn a.s.now a.from (a.end - a.from) n (omega arith) (omega arith) k.result.0.now i b.result b.result k.ensures.front_len k.ensures.front c.loop-block-test.true b.is in
    sym (c.loop-block.invariant ∙ tail_stop a.s.now n a.end (a.from + i * n) (omega (arith, t.0)) (sym t.1 ∙ sym c.zero_block-in-loop-block.ensures ∙ c.if-not-zero_block-2.true))

pub loop-block-preserved : goal.loop-block-preserved
loop-block-preserved g c =
    let a = c.args in
    let i = c.loop-block.block-index in
    let n = g.row.N in
    let b = c.block-item in
    let k = c.as_chunks in
    let t = block_turn a.s.now a.from (a.end - a.from) n (omega arith) (omega arith) k.result.0.now i b.result b.result k.ensures.front_len k.ensures.front c.loop-block-test.true b.is in
    let at = a.from + i * n in
    let e : at + n ≡ a.from + (i + 1) * n = omega (arith, add-mul i 1 n, one-mul n) in
    c.loop-block.invariant ∙ tail_turn a.s.now n a.end at (omega (arith, t.0)) (sym t.1 ∙ sym c.zero_block-in-loop-block.ensures ∙ c.if-not-zero_block-2.false)
    ∙ ap (λ m. zeros a.s.now (a.end - m) m) e

pub returns : goal.returns
returns g c =
    let a = c.args in
    let i = c.loop-block.block-index in
    let n = g.row.N in
    let l : i ≡ length (take (a.end - a.from) (drop a.from a.s.now)) / n = omega (arith, c.loop-block-test.false, c.loop-block.auto, c.as_chunks.ensures.front_len) in
    let q = whole_blocks a.s.now a.from (a.end - a.from) n (omega arith) (omega arith) i l in
    let at = a.from + i * n in
    sym (c.loop-block.invariant ∙ tail_end a.s.now n a.end at (omega arith) (omega (arith, q)) (omega (arith, q)) (sym c.zero_block.ensures ∙ c.if-not-zero_block.false))
