-- A set is empty where its length is 0.
use Rattle.writer_set.proofs.PlaceLaws.{empty_members}
use Rattle.writer_set.proofs.is_empty.Goals as goal

pub returns : goal.returns
returns c = empty_members c.args.w c.requires
