-- `md5::digest` meets its contract: four words, written end to end.
use Rattle.std.proofs.Common.{◌∙◌}
use Rattle.md5_digest.proofs.Writing.{digest-copied}
use Rattle.md5_digest.proofs.digest.Goals as goal

pub returns : goal.returns
returns c =
    digest-copied c.args.r _ _ _ _
    (c.copy_from_slice.ensures.after ∙ c.to_le_bytes.ensures)
    (c.copy_from_slice-2.ensures.after ∙ c.to_le_bytes-2.ensures)
    (c.copy_from_slice-3.ensures.after ∙ c.to_le_bytes-3.ensures)
    (c.copy_from_slice-4.ensures.after ∙ c.to_le_bytes-4.ensures)
