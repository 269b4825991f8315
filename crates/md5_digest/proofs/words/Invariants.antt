-- `md5::words` meets its contract: after j turns, j words.
use Rattle.std.proofs.Common.{◌≡◌, length, take}
use Rattle.md5_digest.specs.Md5.{words}
use Rattle.md5_digest.proofs.words.Given as goal

abbrev pub invariant-loop-j : goal.invariant-loop-j
invariant-loop-j l = (length l.x ≡ 16) × (take l.j l.x ≡ words l.j l.bytes l.at)
