-- `md5_digest::md5` meets its contract.
use Rattle.std.proofs.Common.{◌∙◌}
use Rattle.md5_digest.proofs.Tails.{digested}
use Rattle.md5_digest.proofs.md5.Goals as goal

pub returns : goal.returns
returns c =
    let m = c.args.message.now in
    c.digest.ensures
    ∙ rw (c.blocks-2.ensures, c.tail_blocks.ensures, c.tail-end.ensures, c.blocks-whole.ensures, c.initial.ensures) (digested m)
