-- `head_ok` meets its contract: the first part of the test that fails makes the whole fail.
use Prim.Native.Nat.{◌≤◌, ◌<◌}
use mathlib.Core.Path.{refl, ◌∙◌}
use native.Mathlib.Omega.{arith}
use borrow.Author.Rules.{rules}
use borrow.Author.Tests.{le-leb, lt-leb}
use Rattle.writer_validity.proofs.Heads.{head_by, acknowledged_as}
use Rattle.writer_validity.proofs.head_ok.Goals as goal

pub returns-then-next-eq0 : goal.returns-then-next-eq0
returns-then-next-eq0 c =
    let h = c.args.h in
    let z : h.next_handle.0 < 1 = omega arith in
    head_by h (lt-leb 1 h.next_handle.0 z) refl refl refl

pub returns-then-next-gt9223372036854775808 : goal.returns-then-next-gt9223372036854775808
returns-then-next-gt9223372036854775808 c =
    let h = c.args.h in
    let z : 1 ≤ h.next_handle.0 = omega arith in
    head_by h (le-leb 1 h.next_handle.0 z) (lt-leb _ _ c.if-next-gt9223372036854775808.true) refl refl

pub returns-then-acknowledged_ok : goal.returns-then-acknowledged_ok
returns-then-acknowledged_ok c =
    let h = c.args.h in
    let z : 1 ≤ h.next_handle.0 = omega arith in
    head_by h (le-leb 1 h.next_handle.0 z) (le-leb _ _ c.if-next-gt9223372036854775808.false)
    (acknowledged_as h.alive h.alive_change (search rules) c.acknowledged_ok.ensures ∙ c.if-acknowledged_ok.true)
    (acknowledged_as h.not_alive h.not_alive_change (search rules) c.acknowledged_ok-then-acknowledged_ok.ensures)

pub returns-else-acknowledged_ok : goal.returns-else-acknowledged_ok
returns-else-acknowledged_ok c =
    let h = c.args.h in
    let z : 1 ≤ h.next_handle.0 = omega arith in
    c.if-acknowledged_ok.false
    ∙ head_by h (le-leb 1 h.next_handle.0 z) (le-leb _ _ c.if-next-gt9223372036854775808.false)
    (acknowledged_as h.alive h.alive_change (search rules) c.acknowledged_ok.ensures ∙ c.if-acknowledged_ok.false) refl
