-- What an admitted sample leaves of an instance.
use Rattle.admission.proofs.Effects.{observed_asked, sampled_of}
use Rattle.admission.proofs.sampled.Goals as goal

pub admitted_noted-noted-requires : goal.admitted_noted-noted-requires
admitted_noted-noted-requires c =
    observed_asked c.args.s c.args.x.state c.admitted_observed-observed.result c.admitted_observed-observed.ensures c.requires.0 c.requires.1

pub returns : goal.returns
returns c =
    sampled_of c.args.s c.args.x c.admitted_observed-observed.result c.admitted_noted-noted.result c.owned_from-owned.result
    c.admitted_observed-observed.ensures c.admitted_noted-noted.ensures c.owned_from-owned.ensures
    (observed_asked c.args.s c.args.x.state c.admitted_observed-observed.result c.admitted_observed-observed.ensures c.requires.0 c.requires.1).1
