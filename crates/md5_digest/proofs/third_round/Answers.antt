-- `md5::third_round` meets its contract: its operations are those of round 3.
use Rattle.md5_digest.specs.Md5.{sines, order, shifts, before, step, steps}
use Rattle.md5_digest.proofs.third_round.Goals as goal

pub returns : goal.returns
unfolding steps step order shifts sines before
returns c = cc
