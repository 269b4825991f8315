-- `writer_counts::gone` meets its contract.
use mathlib.Core.Path.{sym, ◌∙◌}
use native.Mathlib.Omega.{arith}
use Rattle.writer_counts.proofs.gone.Goals as goal

pub overflow_sub-head : goal.overflow_sub-head
overflow_sub-head c = omega (arith, c.requires.0 (sym c.counts_alive.ensures ∙ c.if-counts_alive.true))

pub returns-then-counts_alive : goal.returns-then-counts_alive
returns-then-counts_alive c = rw (← c.counts_alive.ensures, c.if-counts_alive.true) c.shifted.ensures

pub overflow_sub-head-then-counts_not_alive : goal.overflow_sub-head-then-counts_not_alive
overflow_sub-head-then-counts_not_alive c =
    omega (arith, c.requires.1 (sym c.counts_not_alive.ensures ∙ c.if-counts_not_alive.true))

pub returns-then-counts_not_alive : goal.returns-then-counts_not_alive
returns-then-counts_not_alive c =
    rw
    (← c.counts_alive.ensures, c.if-counts_alive.false, ← c.counts_not_alive.ensures, c.if-counts_not_alive.true)
    c.shifted-then-counts_not_alive.ensures

pub returns : goal.returns
returns c =
    rw
    (← c.counts_alive.ensures, c.if-counts_alive.false, ← c.counts_not_alive.ensures, c.if-counts_not_alive.false)
    c.still.ensures
