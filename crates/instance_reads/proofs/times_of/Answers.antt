-- `times_of` meets its contract: the instance at the key's place is the one that model finds.
use mathlib.Core.Path.{sym, ap, ◌∙◌}
use mathlib.Core.Option.{some}
use Rattle.instance_reads.proofs.Table.{found_room, found_here, found_none}
use Rattle.instance_reads.proofs.Answers.{times-here, times_none}
use Rattle.instance_reads.proofs.times_of.Goals as goal

pub instance_at-x-requires : goal.instance_at-x-requires
instance_at-x-requires c =
    found_room _ _ c.requires.1 _ _ _ c.locate.ensures c.in-Ok.is

pub returns-in-Ok : goal.returns-in-Ok
returns-in-Ok c =
    times-here _ c.instance_at-x.result
    (found_here _ _ c.requires.1 _ _ _ c.locate.ensures c.in-Ok.is ∙ ap some (sym c.instance_at-x.ensures))

pub returns-in-Err : goal.returns-in-Err
returns-in-Err c =
    times_none _ _ c.no_time-n.ensures (found_none _ _ c.requires.1 _ _ _ c.locate.ensures c.in-Err.is)
