-- `md5::block` meets its contract.
use Rattle.md5_digest.specs.Md5.{block}
use Rattle.md5_digest.proofs.block.Goals as goal

pub returns : goal.returns
unfolding block
returns c = cc
