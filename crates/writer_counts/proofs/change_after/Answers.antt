-- `writer_counts::change_after` meets its contract.
use mathlib.Core.Path.{ap, ◌∙◌}
use lib.IntN.{ℤ, pos, ◌-ℤ◌}
use Rattle.numbers.proofs.Signed.{back, fits_as}
use Rattle.numbers.proofs.Signs.{change_fits}
use Rattle.writer_counts.proofs.Laws.{acknowledged_read}
use Rattle.writer_counts.proofs.change_after.Goals as goal

pub change_of-requires : goal.change_of-requires
change_of-requires c =
    let a = c.args in
    fits_as
    (ap (λ (z : ℤ). pos a.after -ℤ z) (acknowledged_read a.count a.change c.acknowledged.result c.ranges.count.fits c.ranges.change c.acknowledged.ensures))
    (change_fits a.after _ c.requires.0 c.requires.1)

pub returns : goal.returns
returns c =
    let a = c.args in
    back
    (c.change_of.ensures ∙ ap (λ (z : ℤ). pos a.after -ℤ z) (acknowledged_read a.count a.change c.acknowledged.result c.ranges.count.fits c.ranges.change c.acknowledged.ensures))
    (change_fits a.after _ c.requires.0 c.requires.1)
