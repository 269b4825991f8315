-- `md5::tail` meets its contract.
use Rattle.std.proofs.Common.{◌+◌, ◌-◌, ◌*◌, ◌%◌, length, set, refl, ◌∙◌, arith}
use Rattle.octets.proofs.Bytes.{mid-patch}
use Rattle.md5_digest.proofs.Tails.{tail_built}
use Rattle.md5_digest.proofs.Writing.{low_first-is}
use Rattle.md5_digest.proofs.tail.Goals as goal

pub returns : goal.returns
returns c =
    let m = c.args.message.now in
    let bytes = c.copy_from_slice.ensures.after ∙ c.to_le_bytes.ensures ∙ low_first-is 8 c.bit_length.result in
    let end = c.tail_blocks.result * 64 - 8 in
    mid-patch 8 end (end + 8 - end) (set c.copy.new.dst (length m % 64) 0x80) c.copy_from_slice.new.self (omega arith)
    ∙ rw (bytes, c.copy.ensures, c.tail_blocks.ensures, c.bit_length.ensures) (tail_built m _ _ refl refl)
