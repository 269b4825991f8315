-- `call_sheet::padded` meets its contract: what is left of the zeros stands behind the bytes.
use Prim.Native.Nat.{ℕ}
use mathlib.Core.List.{List, ◌++◌}
use mathlib.Core.Path.{ap}
use lib.ListN.{length}
use Rattle.std.proofs.lemmas.List.{drop-replicate}
use Rattle.call_sheet.proofs.padded.Goals as goal

pub returns : goal.returns
returns c =
    let b : List ℕ = c.args.bytes.now in
    rw c.copy_from_slice.ensures.after (ap (λ (z : List ℕ). b ++ z) (drop-replicate {X = ℕ} (length b) 144 0))
