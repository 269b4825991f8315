-- `put_u16` meets its contract: what std gives is written.
use mathlib.Core.Path.{◌∙◌}
use Prim.Native.Nat.{◌+◌, ◌-◌}
use native.Mathlib.Omega.{arith}
use Rattle.octets.proofs.Bytes.{write}
use Rattle.octets.proofs.put_u16.Goals as goal

pub returns : goal.returns
returns c =
    let a = c.args in
    write 2 a.s.now c.copy_from_slice.new.self a.at (a.at + 2 - a.at) a.v (omega arith) (omega arith) (c.copy_from_slice.ensures.after ∙ c.to_be_bytes.ensures)
