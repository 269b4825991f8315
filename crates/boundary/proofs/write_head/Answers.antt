-- `boundary::write_head` meets its contract.
use Rattle.std.proofs.Common.{rules, ◌≡◌, length}
use Rattle.boundary.proofs.Written.{head-put}
use Rattle.boundary.proofs.write_head.Goals as goal

pub returns : goal.returns
returns c =
    let long : length c.in-Some.b.now ≡ 64 = search rules in
    head-put c.args.h c.in-Some.b.now _ _ _ long
    c.write_head_counts.ensures c.write_head_changes.ensures c.write_head_last.ensures
