-- `joined_calls::lose_writer` meets its contract: two stores leave the GUID's bytes.
use Prim.Native.Nat.{ℕ}
use mathlib.Core.List.{List}
use mathlib.Core.Path.{◌≡◌, ap, ◌∙◌}
use lib.ListN.{replicate}
use native.Mathlib.Omega.{arith}
use Rattle.octets.specs.Octets.{put}
use Rattle.model.proofs.Fits.{FitsGuid}
use Rattle.instance_pass.proofs.LossLaws.{one-gone, one-listed}
use Rattle.joined_calls.proofs.lose_writer.Goals as goal

pub lose-requires : goal.lose-requires
lose-requires c =
    let a = c.args in
    let g = a.s.guid in
    let first = c.put_u64 in
    let second = c.put_u64-2 in
    let stored : second.new.s ≡ put 8 (put 8 (replicate 16 0) 0 g.hi) 8 g.lo = second.ensures ∙ ap (λ (b : List ℕ). put 8 b 8 g.lo) first.ensures in
    let fits : FitsGuid g = record { high = omega (arith, c.well_formed.1); low = omega (arith, c.well_formed.1) } in
    (c.requires, one-listed g second.new.s (omega arith) (one-gone g second.new.s fits stored))

pub returns : goal.returns
returns c =
    let a = c.args in
    let g = a.s.guid in
    let first = c.put_u64 in
    let second = c.put_u64-2 in
    let stored : second.new.s ≡ put 8 (put 8 (replicate 16 0) 0 g.hi) 8 g.lo = second.ensures ∙ ap (λ (b : List ℕ). put 8 b 8 g.lo) first.ensures in
    let fits : FitsGuid g = record { high = omega (arith, c.well_formed.1); low = omega (arith, c.well_formed.1) } in
    rw (one-gone g second.new.s fits stored) at c.lose.ensures
