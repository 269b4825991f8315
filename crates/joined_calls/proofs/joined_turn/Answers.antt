-- `joined_calls::joined_turn` meets its contract: the law of each call, with what it asks of the state.
use Rattle.model.specs.Call.{lent_of}
use Rattle.joined_calls.proofs.Entering.{entered_parts, entered_held, entered_losable}
use Rattle.joined_calls.proofs.joined_turn.Goals as goal

pub admit-requires : goal.admit-requires
admit-requires c =
    let a = c.args in
    let p = entered_parts a.head.places (lent_of a.head a.pens.now a.writers.now a.lost.now a.out.now) c.requires.1 in
    record { few = c.requires.0; size = c.requires.1.pens; formed = p.pens }

pub lapse-requires : goal.lapse-requires
lapse-requires c =
    let a = c.args in
    let l = lent_of a.head a.pens.now a.writers.now a.lost.now a.out.now in (
      entered_held a.head.places l c.requires.1,
      entered_losable a.head.places l c.requires.1 c.requires.0,
      c.requires.1.lost,
      (entered_parts a.head.places l c.requires.1).lost,
    )

pub leave-requires : goal.leave-requires
leave-requires c =
    let a = c.args in
    let l = lent_of a.head a.pens.now a.writers.now a.lost.now a.out.now in
    (entered_held a.head.places l c.requires.1, entered_losable a.head.places l c.requires.1 c.requires.0)

pub leave-requires-in-Depart : goal.leave-requires-in-Depart
leave-requires-in-Depart c =
    let a = c.args in
    let l = lent_of a.head a.pens.now a.writers.now a.lost.now a.out.now in
    (entered_held a.head.places l c.requires.1, entered_losable a.head.places l c.requires.1 c.requires.0)

pub returns-in-Admit : goal.returns-in-Admit
returns-in-Admit c =
    let a = c.args in
    rw c.in-Admit.is (c.admit.ensures a.writers.now a.lost.now a.out.now c.requires.1)

pub returns-in-Lapse : goal.returns-in-Lapse
returns-in-Lapse c =
    let a = c.args in
    rw c.in-Lapse.is (c.lapse.ensures a.head.places c.requires.1)

pub returns-in-Part : goal.returns-in-Part
returns-in-Part c =
    let a = c.args in
    rw c.in-Part.is (c.leave.ensures a.head.places a.lost.now c.requires.1)

pub returns-in-Depart : goal.returns-in-Depart
returns-in-Depart c =
    let a = c.args in
    rw c.in-Depart.is (c.leave-in-Depart.ensures a.head.places a.lost.now c.requires.1)
