-- The gap is closed from the place up.
use Prim.Native.Nat.{◌-◌}
use native.Mathlib.Omega.{arith}
use Rattle.writer_set.proofs.PlaceLaws.{gap_closed}
use Rattle.writer_set.proofs.removed_at.Goals as goal

pub returns : goal.returns
returns c =
    let a = c.args in
    rw c.nil.ensures
    (gap_closed a.items a.p (omega arith) (omega arith) (16 - a.p) c.rotate_left.new.self (omega arith) c.rotate_left.ensures.after)
