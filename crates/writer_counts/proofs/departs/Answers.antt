-- `writer_counts::departs` meets its contract.
use mathlib.Core.Path.{sym, ◌∙◌}
use native.Mathlib.Omega.{arith}
use Rattle.writer_counts.proofs.departs.Goals as goal

pub overflow_sub-head : goal.overflow_sub-head
overflow_sub-head c = omega (arith, c.requires.0 (sym c.counts_alive.ensures ∙ c.if-counts_alive.true))

pub returns-then-counts_alive : goal.returns-then-counts_alive
returns-then-counts_alive c = rw (← c.counts_alive.ensures, c.if-counts_alive.true) c.shifted.ensures

pub returns : goal.returns
returns c = rw (← c.counts_alive.ensures, c.if-counts_alive.false) c.still.ensures
