-- Room is made from the place up, and the GUID put in.
use Prim.Native.Nat.{◌-◌}
use native.Mathlib.Omega.{arith}
use lib.ListN.{length, take, drop, length-take, length-drop}
use Rattle.model.specs.declared.Guid.{Guid}
use Rattle.writer_set.proofs.PlaceLaws.{room_made}
use Rattle.writer_set.proofs.inserted_at.Goals as goal

pub returns : goal.returns
returns c =
    let a = c.args in
    room_made a.items a.p (omega arith) (omega arith) (16 - a.p) (length (take (16 - a.p) (drop a.p a.items)) - 1) a.g c.rotate_right.new.self (omega arith)
    c.rotate_right.ensures.after (omega (arith, length-take {A = Guid}, length-drop {A = Guid}))
