-- `writer_pass::dues_with` meets its contract.
use Prim.Native.Nat.{◌<◌}
use borrow.Author.Tests.{le-leb, lt-leb}
use native.Mathlib.Omega.{arith}
use Rattle.writer_pass.proofs.dues_with.Goals as goal

pub returns-then-due-clock : goal.returns-then-due-clock
returns-then-due-clock c = rw (le-leb _ _ c.if-due-clock.true)

pub returns : goal.returns
returns c =
    let a = c.args in
    let h : a.clock < a.due = omega (arith, c.if-due-clock.false) in
    rw (lt-leb a.due a.clock h, c.sooner_of-sooner.ensures)
