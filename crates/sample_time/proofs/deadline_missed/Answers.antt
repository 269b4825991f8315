-- `sample_time::deadline_missed` meets its contract: 64 bits hold the gap.
use borrow.Author.Rules.{rules}
use Rattle.sample_time.proofs.Values.{gap_asked}
use Rattle.sample_time.proofs.deadline_missed.Goals as goal

pub gap-requires : goal.gap-requires
gap-requires c =
    let a = c.args in
    gap_asked a.owner_at a.now (search rules) (search rules) (search rules) (search rules) c.nanos.ensures c.nanos-then-owner_at.ensures
