-- `md5::initial` meets its contract.
use Rattle.std.proofs.Common.{refl}
use Rattle.md5_digest.specs.Md5.{initial}
use Rattle.md5_digest.proofs.initial.Goals as goal

pub returns : goal.returns
unfolding initial
returns c = refl
