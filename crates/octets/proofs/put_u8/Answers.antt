-- `put_u8` meets its contract: it writes one byte.
use mathlib.Core.Path.{sym}
use native.Mathlib.Omega.{arith}
use Rattle.octets.proofs.Laws.{put_one}
use Rattle.octets.proofs.put_u8.Goals as goal

pub returns : goal.returns
returns c = let a = c.args in sym (put_one a.s.now a.at a.v (omega arith))
