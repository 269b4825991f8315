-- `md5::operation` meets its contract: std's rotation is the RFC's.
use Rattle.std.proofs.Common.{◌≡◌, ℕ, ◌-◌, ◌%◌, ◌<◌, ◌∙◌, arith, w32}
use Rattle.std.specs.Int.{rotate_left}
use Rattle.md5_digest.specs.Md5.{rotated, operation}
use Rattle.md5_digest.proofs.operation.Goals as goal

rotated-is : (x s : ℕ) → 0 < s → s < 32 → rotate_left w32 x s ≡ rotated x s
unfolding rotated
rotated-is x s h k =
    let e : s % 32 ≡ s = omega arith in
    let f : (32 - s) % 32 ≡ 32 - s = omega arith in
    rw (e, f)

pub returns : goal.returns
unfolding operation
returns c =
    let turned = c.rotate_left.ensures ∙ rotated-is _ c.args.s (omega arith) (omega arith) in
    rw (turned, c.mixed-f.ensures)
