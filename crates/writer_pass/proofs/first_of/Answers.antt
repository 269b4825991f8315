-- `writer_pass::first_of` meets its contract.
use Rattle.writer_pass.proofs.Prefixes.{first-num}
use Rattle.writer_pass.proofs.first_of.Goals as goal

pub returns : goal.returns
returns c = first-num c.args.g
