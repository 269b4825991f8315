-- `md5::added` meets its contract.
use Rattle.md5_digest.specs.Md5.{added}
use Rattle.md5_digest.proofs.added.Goals as goal

pub returns : goal.returns
unfolding added
returns c = cc
