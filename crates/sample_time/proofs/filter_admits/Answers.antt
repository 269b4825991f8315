-- `sample_time::filter_admits` meets its contract: 64 bits hold the gap.
use borrow.Author.Rules.{rules}
use Rattle.sample_time.proofs.Values.{gap_asked}
use Rattle.sample_time.proofs.filter_admits.Goals as goal

pub gap_passes-requires : goal.gap_passes-requires
gap_passes-requires c =
    let a = c.args in
    gap_asked a.last a.candidate (search rules) (search rules) (search rules) (search rules) c.nanos.ensures c.nanos-else-not-last.ensures
