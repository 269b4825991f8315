-- `boundary::write_answer` meets its contract.
use Rattle.std.proofs.Common.{rules, ◌≡◌, length}
use Rattle.boundary.proofs.Written.{answer-put}
use Rattle.boundary.proofs.write_answer.Goals as goal

pub returns : goal.returns
returns c =
    let long : length c.in-Some.b.now ≡ 72 = search rules in
    answer-put c.args.a c.in-Some.b.now _ _ _ _ _ long
    c.write_bits.ensures c.write_kind.ensures c.write_counts.ensures c.write_status.ensures c.write_due.ensures
