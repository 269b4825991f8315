-- `head_alone` meets its contract.
use mathlib.Core.Path.{refl, sym, ◌∙◌}
use Rattle.head_reads.proofs.Heads.{alone_by}
use Rattle.head_reads.proofs.head_alone.Goals as goal

pub returns-then-not-figure_ok : goal.returns-then-not-figure_ok
returns-then-not-figure_ok c = alone_by c.args.h (sym c.figure_ok.ensures ∙ c.if-not-figure_ok.true) refl refl

pub returns-then-not-head_ok : goal.returns-then-not-head_ok
returns-then-not-head_ok c =
    alone_by c.args.h (sym c.figure_ok.ensures ∙ c.if-not-figure_ok.false)
    (sym c.head_ok.ensures ∙ c.if-not-head_ok.true) refl

pub returns : goal.returns
returns c =
    alone_by c.args.h (sym c.figure_ok.ensures ∙ c.if-not-figure_ok.false)
    (sym c.head_ok.ensures ∙ c.if-not-head_ok.false) (sym c.sizes_ok.ensures)
