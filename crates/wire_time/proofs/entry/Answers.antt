-- `wire_time::entry` meets its contract: the table's rule, at its entry m.
use Rattle.wire_time.proofs.WireLaws.{rule}
use Rattle.wire_time.proofs.entry.Goals as goal

pub returns : goal.returns
returns c = rw c.fractions-entries.ensures (rule c.args.m c.requires)
