-- `sample_time::purge_due` meets its contract: 64 bits hold the gap.
use borrow.Author.Rules.{rules}
use Rattle.sample_time.proofs.Values.{gap_asked}
use Rattle.sample_time.proofs.purge_due.Goals as goal

pub gap-requires : goal.gap-requires
gap-requires c =
    let a = c.args in
    gap_asked a.since a.now (search rules) (search rules) (search rules) (search rules) c.nanos.ensures c.nanos-then-delay-ne18446744073709551615.ensures
