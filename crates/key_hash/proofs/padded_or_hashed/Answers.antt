-- `key_hash::padded_or_hashed` meets its contract.
use native.Mathlib.Omega.{arith}
use borrow.Author.Tests.{le-leb, lt-leb}
use Rattle.key_hash.specs.KeyHash.{padded_or_hashed}
use Rattle.key_hash.proofs.padded_or_hashed.Goals as goal

pub returns-then-largest-le16 : goal.returns-then-largest-le16
unfolding padded_or_hashed
returns-then-largest-le16 c = rw (le-leb c.args.largest 16 (omega arith)) c.padded.ensures

pub returns : goal.returns
unfolding padded_or_hashed
returns c = rw (lt-leb c.args.largest 16 (omega arith)) c.md5.ensures
