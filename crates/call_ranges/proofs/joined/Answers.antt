-- `joined` meets its contract: refused as 3, else the joined call.
use borrow.Author.Rules.{rules}
use Rattle.model.specs.Calls.{joined}
use Rattle.call_ranges.proofs.Ranges.{entered, refused-3, by_code}
use Rattle.call_ranges.proofs.joined.Goals as goal

pub joined_call-c-requires : goal.joined_call-c-requires
joined_call-c-requires c = (c.requires.1, c.requires.2)

pub state_ok-requires : goal.state_ok-requires
state_ok-requires c = (c.requires.0.pens, c.requires.0.writers, c.requires.0.lost)

pub returns-then-not-state_ok : goal.returns-then-not-state_ok
returns-then-not-state_ok c =
    let g = c.args in
    refused-3 g.head g.pens.now g.writers.now g.lost.now g.out.now g.s c.state_ok.result (c.state_ok.ensures g.out.now)
    (joined c.joined_call-c.result) c.joined_call-c.ensures c.if-not-state_ok.true c.refused.result c.refused.ensures

pub joined_turn-requires : goal.joined_turn-requires
joined_turn-requires c =
    let g = c.args in (
      c.requires.0.few,
      entered g.head g.pens.now g.writers.now g.lost.now g.out.now g.s c.state_ok.result (c.state_ok.ensures g.out.now)
          c.if-not-state_ok.false c.requires.0
          (search rules) (search rules)
          (search rules),
    )

pub returns : goal.returns
returns c =
    let g = c.args in
    by_code g.head g.pens.now g.writers.now g.lost.now g.out.now g.s c.state_ok.result (c.state_ok.ensures g.out.now)
    (joined c.joined_call-c.result) c.joined_call-c.ensures c.if-not-state_ok.false _
    c.joined_turn.ensures
