-- `writer_pass::raise` meets its contract.
use mathlib.Core.Path.{sym, ◌∙◌}
use Rattle.writer_pass.proofs.raise.Goals as goal

pub one_less-requires : goal.one_less-requires
one_less-requires c = λ e. c.requires.2 (sym c.counts_not_alive-was_not.ensures ∙ e)

pub returns : goal.returns
returns c =
    rw (c.requires.3, c.one_less.ensures, c.counts_not_alive-was_not.ensures)
