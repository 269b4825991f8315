-- The places, then the handles. The numbers that are compared are named, so that a wrong test fails at numbers.
use native.Mathlib.Omega.{arith}
use borrow.Author.Tests.{le-leb, lt-leb}
use Rattle.instance_reach.proofs.start_refusal.Goals as goal

pub returns-then-places-count : goal.returns-then-places-count
returns-then-places-count c =
    let a = c.args in
    rw (le-leb a.places a.count (omega (arith, c.if-places-count.true)))

pub returns-then-next-ge9223372036854775808 : goal.returns-then-next-ge9223372036854775808
returns-then-next-ge9223372036854775808 c =
    let a = c.args in
    rw (lt-leb a.places a.count (omega (arith, c.if-places-count.false)), le-leb 9_223_372_036_854_775_808 a.next.0 (omega (arith, c.if-next-ge9223372036854775808.true)))

pub returns : goal.returns
returns c =
    let a = c.args in
    rw (lt-leb a.places a.count (omega (arith, c.if-places-count.false)), lt-leb 9_223_372_036_854_775_808 a.next.0 (omega (arith, c.if-next-ge9223372036854775808.false)))
