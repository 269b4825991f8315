-- `ordered_ok` meets its contract: the handles noted are those of the table.
use Rattle.std.proofs.Common.{◌≡◌, length, arith}
use Rattle.std.proofs.lemmas.Grind.{common_steps}
use Rattle.model.proofs.Tests.{clash}
use Rattle.instance_table.proofs.Handles.{noted_outside, noted_by}
use Rattle.instance_table.proofs.ordered_ok.Goals as goal

pub returns-then-not-within : goal.returns-then-not-within
returns-then-not-within c =
    let a = c.args in
    let n = c.note in
    let size : length n.new.hs ≡ a.count = grind (arith, common_steps) in
    noted_outside a.t.now n.new.hs a.next a.count size n.ensures (λ w. clash _ (c.within.ensures.1 w) c.if-not-within.true)

pub returns : goal.returns
returns c =
    let a = c.args in
    let n = c.note in
    let size : length n.new.hs ≡ a.count = grind (arith, common_steps) in
    noted_by a.t.now n.new.hs a.next a.count size n.ensures c.distinct.result
    (c.within.ensures.0 c.if-not-within.false) c.distinct.ensures.0 c.distinct.ensures.1
