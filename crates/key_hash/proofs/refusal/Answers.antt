-- `key_hash::refusal` meets its contract.
use native.Mathlib.Omega.{arith}
use borrow.Author.Tests.{lt-ltb, le-ltb}
use lib.ListN.{length}
use Rattle.key_hash.specs.KeyHash.{largest_stated, refusal}
use Rattle.key_hash.proofs.refusal.Goals as goal

pub returns-then-largest-gt4096 : goal.returns-then-largest-gt4096
unfolding refusal
returns-then-largest-gt4096 c = let a = c.args in rw (lt-ltb largest_stated a.largest (omega arith))

pub returns-then-largest-len : goal.returns-then-largest-len
unfolding refusal
returns-then-largest-len c =
    let a = c.args in
    rw (le-ltb largest_stated a.largest (omega arith), lt-ltb a.largest (length a.key.now) (omega arith))

pub returns : goal.returns
unfolding refusal
returns c =
    let a = c.args in
    rw (le-ltb largest_stated a.largest (omega arith), le-ltb a.largest (length a.key.now) (omega arith))
