-- `writer_status::change_less` meets its contract.
use mathlib.Core.Path.{ap, ◌∙◌}
use lib.IntN.{ℤ, pos, ◌-ℤ◌}
use Rattle.numbers.proofs.Signed.{back, fits_as}
use Rattle.numbers.proofs.Signs.{change_fits}
use Rattle.writer_status.proofs.Idle.{after_read}
use Rattle.writer_status.proofs.change_less.Goals as goal

pub change_of-requires : goal.change_of-requires
change_of-requires c =
    fits_as
    (ap (λ (z : ℤ). pos c.args.count -ℤ z) (after_read c.args.count c.args.change c.args.part c.ranges.change c.ranges.part c.requires.1 c.acknowledged_after.result c.acknowledged_after.ensures))
    (change_fits c.args.count _ c.requires.0 c.requires.2)

pub returns : goal.returns
returns c =
    back
    (c.change_of.ensures ∙ ap (λ (z : ℤ). pos c.args.count -ℤ z) (after_read c.args.count c.args.change c.args.part c.ranges.change c.ranges.part c.requires.1 c.acknowledged_after.result c.acknowledged_after.ensures))
    (change_fits c.args.count _ c.requires.0 c.requires.2)
