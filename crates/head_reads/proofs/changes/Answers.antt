-- `changes` meets its contract.
use mathlib.Core.Path.{sym, ◌∙◌}
use Rattle.model.specs.Reads.{changes_read}
use Rattle.head_reads.proofs.changes.Goals as goal

pub returns-then-not-head_alone : goal.returns-then-not-head_alone
unfolding changes_read
returns-then-not-head_alone c = rw (sym c.head_alone.ensures ∙ c.if-not-head_alone.true)

pub returns : goal.returns
unfolding changes_read
returns c = rw (sym c.head_alone.ensures ∙ c.if-not-head_alone.false)
