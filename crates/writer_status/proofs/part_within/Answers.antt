-- `writer_status::part_within` meets its contract.
use mathlib.Core.Path.{ap, ◌∙◌}
use Rattle.model.specs.WellFormed.{within}
use Rattle.writer_status.proofs.Idle.{after_read}
use Rattle.writer_status.proofs.part_within.Goals as goal

pub returns : goal.returns
returns c =
    c.within_bound.ensures ∙ ap within
    (after_read c.args.count c.args.change c.args.part c.ranges.change c.ranges.part c.requires c.acknowledged_after.result c.acknowledged_after.ensures)
