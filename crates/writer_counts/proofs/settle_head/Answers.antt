-- `writer_counts::settle_head` meets its contract.
use borrow.Author.Rules.{rules}
use Prim.Native.Nat.{ℕ, ◌+◌, ◌%◌, ◌^◌}
use mathlib.Core.Path.{ap}
use mir.Syntax.{w32}
use mir.Val.{SFits}
use Rattle.writer_counts.proofs.Laws.{changed, settled}
use Rattle.writer_counts.proofs.settle_head.Goals as goal

pub returns : goal.returns
returns c =
    let h = c.args.head in
    let t = c.args.tally in
    let f : SFits w32 h.alive_change = search rules in
    let g : SFits w32 h.not_alive_change = search rules in
    settled h c.args.writer_count c.args.lost_count t _ _ _
    (changed h.alive t.counts.alive h.alive_change c.change_after.result f c.requires.alive c.requires.ack_alive c.change_after.ensures)
    (changed h.not_alive t.counts.not_alive h.not_alive_change c.change_after-2.result g c.requires.not_alive c.requires.ack_not_alive c.change_after-2.ensures)
    (ap (λ (n : ℕ). (h.changes + n) % 2 ^ 64) c.from.ensures)
