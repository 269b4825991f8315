-- `tracker` meets its contract: refused as 3, else the call on the writers.
use borrow.Author.Rules.{rules}
use Rattle.model.specs.Calls.{tracker}
use Rattle.call_ranges.proofs.Ranges.{formed_parts, entered, refused-3, by_code}
use Rattle.call_ranges.proofs.tracker.Goals as goal

pub tracker_call-c-requires : goal.tracker_call-c-requires
tracker_call-c-requires c = (c.requires.1, c.requires.2)

pub state_ok-requires : goal.state_ok-requires
state_ok-requires c = (c.requires.0.pens, c.requires.0.writers, c.requires.0.lost)

pub returns-then-not-state_ok : goal.returns-then-not-state_ok
returns-then-not-state_ok c =
    let g = c.args in
    refused-3 g.head g.pens.now g.writers.now g.lost.now g.out.now g.s c.state_ok.result (c.state_ok.ensures g.out.now)
    (tracker c.tracker_call-c.result) c.tracker_call-c.ensures c.if-not-state_ok.true c.refused.result c.refused.ensures

pub tracker_turn-requires : goal.tracker_turn-requires
tracker_turn-requires c =
    let g = c.args in
    let p = formed_parts g.head g.pens.now g.writers.now g.lost.now g.out.now g.s c.state_ok.result (c.state_ok.ensures g.out.now) c.if-not-state_ok.false in
    (record { long = c.requires.0.writers; head_formed = p.head; table = p.writers; counted = p.counts }, c.requires.0.lost, p.lost, c.requires.0.out)

pub returns : goal.returns
returns c =
    let g = c.args in
    by_code g.head g.pens.now g.writers.now g.lost.now g.out.now g.s c.state_ok.result (c.state_ok.ensures g.out.now)
    (tracker c.tracker_call-c.result) c.tracker_call-c.ensures c.if-not-state_ok.false _
    (c.tracker_turn.ensures g.head.places g.pens.now (entered g.head g.pens.now g.writers.now g.lost.now g.out.now g.s c.state_ok.result (c.state_ok.ensures g.out.now)
    c.if-not-state_ok.false c.requires.0
    (search rules) (search rules)
    (search rules)))
