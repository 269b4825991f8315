-- `key_hash::padded` meets its contract.
use mathlib.Core.Path.{refl, ◌∙◌}
use Prim.Native.Nat.{◌-◌}
use native.Mathlib.Omega.{arith}
use lib.ListN.{length}
use Rattle.md5_digest.proofs.Writing.{over_zeros}
use Rattle.key_hash.proofs.padded.Goals as goal

pub returns : goal.returns
returns c =
    let key = c.args.key.now in
    c.copy.ensures ∙ over_zeros 16 key (length key) (16 - length key) refl (omega arith)
