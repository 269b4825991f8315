-- `holder_in_force` meets its contract: what is stored is a part of the table.
use native.Mathlib.Omega.{arith}
use borrow.Author.Rules.{rules}
use Rattle.instance_reads.proofs.Stored.{offered_there, part-there, part_room}
use Rattle.instance_reads.proofs.holder_in_force.Goals as goal

pub returns-then-not-stored : goal.returns-then-not-stored
returns-then-not-stored c = offered_there _ _ _ _ c.holder_place-p.ensures.place (c.if-not-stored.true) _

pub overflow_add-end : goal.overflow_add-end
overflow_add-end c = search (rules, part_room _ _ _ _ c.holder_place-p.ensures.place)

pub slice_bounds-result-end : goal.slice_bounds-result-end
slice_bounds-result-end c = omega (arith, part_room _ _ _ _ c.holder_place-p.ensures.place)

pub returns : goal.returns
returns c = part-there _ _ _ _ c.holder_place-p.ensures.place (c.if-not-stored.false) _
