-- `acknowledged_ok` meets its contract.
use mathlib.Core.Path.{ap, ◌∙◌}
use lib.IntN.{ℤ, pos, ◌-ℤ◌}
use mir.Facts.{to_z-of_z}
use Rattle.model.specs.WellFormed.{within}
use Rattle.numbers.proofs.Signed.{back}
use Rattle.numbers.proofs.Signs.{difference_fits}
use Rattle.writer_validity.proofs.acknowledged_ok.Goals as goal

pub returns : goal.returns
returns c =
    c.within_bound.ensures
    ∙ ap within
    (back (c.acknowledged.ensures ∙ ap (λ (z : ℤ). pos c.args.count -ℤ z) (to_z-of_z c.ranges.change))
    (difference_fits c.args.count c.args.change c.ranges.count.fits c.ranges.change))
