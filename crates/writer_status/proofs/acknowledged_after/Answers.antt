-- `writer_status::acknowledged_after` meets its contract.
use Prim.Native.Nat.{ℕ, ◌<◌, ◌^◌}
use mathlib.Core.Path.{◌≡◌, ap, ◌∙◌}
use lib.IntN.{ℤ, pos, ◌+ℤ◌, ◌-ℤ◌}
use mir.Facts.{sfits_to_z}
use mir.Syntax.{w32, w64}
use mir.Val.{Fits, SFits, of_z, to_z}
use Rattle.numbers.proofs.Signed.{back, fits_as}
use Rattle.writer_counts.proofs.Laws.{acknowledged_read}
use Rattle.writer_status.proofs.Idle.{after_fits}
use Rattle.writer_status.proofs.acknowledged_after.Goals as goal

-- the sum of what was acknowledged and of the part, each read back from its bits
sum : (count part : ℕ) (change a b : ℤ) → count < 2 ^ 32 → SFits w32 change → Fits w32 part → a ≡ pos count -ℤ to_z w32 (of_z w32 change) → b ≡ to_z w32 part →
    to_z w64 (of_z w64 a) +ℤ to_z w32 (of_z w32 b) ≡ (pos count -ℤ change) +ℤ to_z w32 part
sum count part change a b h f g e k =
    ap (λ (z : ℤ). z +ℤ to_z w32 (of_z w32 b)) (acknowledged_read count change a h f e)
    ∙ ap (λ (z : ℤ). (pos count -ℤ change) +ℤ z) (back k (sfits_to_z g))

pub add_i64-requires : goal.add_i64-requires
add_i64-requires c =
    let a = c.args in
    fits_as
    (sum a.count a.part a.change c.acknowledged-before.result c.of_bits-more.result c.ranges.count.fits c.ranges.change c.ranges.part c.acknowledged-before.ensures c.of_bits-more.ensures)
    (after_fits a.count a.change a.part c.ranges.change c.ranges.part c.requires)

pub returns : goal.returns
returns c =
    let a = c.args in
    back
    (c.add_i64.ensures
    ∙ sum a.count a.part a.change c.acknowledged-before.result c.of_bits-more.result c.ranges.count.fits c.ranges.change c.ranges.part c.acknowledged-before.ensures c.of_bits-more.ensures)
    (after_fits a.count a.change a.part c.ranges.change c.ranges.part c.requires)
