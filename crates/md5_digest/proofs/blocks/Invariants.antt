-- `md5::blocks` meets its contract: after i turns, i blocks.
use Rattle.std.proofs.Common.{◌≡◌}
use Rattle.md5_digest.specs.Md5.{blocks}
use Rattle.md5_digest.proofs.blocks.Given as goal

abbrev pub invariant-loop-i : goal.invariant-loop-i
invariant-loop-i l = l.q ≡ blocks l.bytes l.i l.initial.q
