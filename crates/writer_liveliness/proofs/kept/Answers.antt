-- `writer_liveliness::kept` meets its contract.
use mathlib.Core.Path.{ap, ◌∙◌}
use Rattle.writer_counts.specs.Turns.{called_by}
use Rattle.writer_liveliness.proofs.kept.Goals as goal

pub called-requires : goal.called-requires
called-requires c = rw c.still.ensures c.requires

pub returns : goal.returns
returns c = c.called.ensures ∙ ap (called_by c.args.head c.args.head.writer_count) c.still.ensures
