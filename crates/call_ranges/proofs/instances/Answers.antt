-- `instances` meets its contract: refused as 3, else the call on the instances.
use borrow.Author.Rules.{rules}
use Rattle.model.specs.Calls.{instances}
use Rattle.call_ranges.proofs.Ranges.{formed_parts, entered, refused-3, by_code}
use Rattle.call_ranges.proofs.instances.Goals as goal

pub instance_call-c-requires : goal.instance_call-c-requires
instance_call-c-requires c = (c.requires.1, c.requires.2)

pub state_ok-requires : goal.state_ok-requires
state_ok-requires c = (c.requires.0.pens, c.requires.0.writers, c.requires.0.lost)

pub returns-then-not-state_ok : goal.returns-then-not-state_ok
returns-then-not-state_ok c =
    let g = c.args in
    refused-3 g.head g.pens.now g.writers.now g.lost.now g.out.now g.s c.state_ok.result (c.state_ok.ensures g.out.now)
    (instances c.instance_call-c.result) c.instance_call-c.ensures c.if-not-state_ok.true c.refused.result c.refused.ensures

pub instance_turn-requires : goal.instance_turn-requires
instance_turn-requires c =
    let g = c.args in
    (c.requires.0.few, c.requires.0.pens, c.requires.0.out, (formed_parts g.head g.pens.now g.writers.now g.lost.now g.out.now g.s c.state_ok.result (c.state_ok.ensures g.out.now) c.if-not-state_ok.false).pens)

pub returns : goal.returns
returns c =
    let g = c.args in
    by_code g.head g.pens.now g.writers.now g.lost.now g.out.now g.s c.state_ok.result (c.state_ok.ensures g.out.now)
    (instances c.instance_call-c.result) c.instance_call-c.ensures c.if-not-state_ok.false _
    (c.instance_turn.ensures g.writers.now g.lost.now (entered g.head g.pens.now g.writers.now g.lost.now g.out.now g.s c.state_ok.result (c.state_ok.ensures g.out.now)
    c.if-not-state_ok.false c.requires.0
    (search rules) (search rules)
    (search rules)))
