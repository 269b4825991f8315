use Rattle.std.proofs.Common.{refl, ap, ◌∙◌, add-one}
use Rattle.md5_digest.specs.Md5.{block, blocks}
use Rattle.md5_digest.proofs.blocks.Goals as goal

pub loop-i-init : goal.loop-i-init
unfolding blocks
loop-i-init c = refl

pub loop-i-preserved : goal.loop-i-preserved
unfolding blocks
loop-i-preserved c = rw add-one (c.block-q.ensures ∙ ap (block _) c.loop-i.invariant)
