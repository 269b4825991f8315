-- `status` meets its contract.
use mathlib.Core.Path.{sym, ap, ◌∙◌}
use Rattle.model.specs.declared.StatusRead.TheVariants.{Is}
use Rattle.model.specs.Reads.{status_read}
use Rattle.head_reads.proofs.status.Goals as goal

pub returns-then-not-head_alone : goal.returns-then-not-head_alone
unfolding status_read
returns-then-not-head_alone c = rw (sym c.head_alone.ensures ∙ c.if-not-head_alone.true)

pub returns : goal.returns
unfolding status_read
returns c =
    rw (sym c.head_alone.ensures ∙ c.if-not-head_alone.false) (ap Is c.head_status.ensures)
