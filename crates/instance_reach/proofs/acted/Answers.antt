-- What the effect leaves, with the key and the handle that were there.
use Rattle.model.specs.Instances.{rule}
use Rattle.instance_reach.proofs.Acting.{acted_of}
use Rattle.instance_reach.proofs.Turns.{one_only}
use Rattle.instance_reach.proofs.acted.Goals as goal

pub take_effect-after-requires : goal.take_effect-after-requires
take_effect-after-requires c = (one_only (rule c.args.c).reach c.requires.0, c.requires.1, c.requires.2)

pub returns : goal.returns
returns c =
    acted_of c.args.c c.args.s c.args.x c.take_effect-after.result c.requires.1 c.requires.2 c.take_effect-after.ensures
