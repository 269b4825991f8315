-- `get_u32` meets its contract: std's number of the bytes that were read.
use mathlib.Core.Path.{◌∙◌}
use Rattle.octets.proofs.Bytes.{read_32}
use Rattle.octets.proofs.get_u32.Goals as goal

pub returns : goal.returns
returns c = let a = c.args in c.from_be_bytes.ensures ∙ read_32 a.s.now c.bytes_at.result a.at c.bytes_at.ensures
