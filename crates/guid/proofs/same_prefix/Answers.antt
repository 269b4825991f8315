-- `same_prefix` meets its contract: a prefix is the high half and 4 bytes of the low one.
use Prim.Native.Nat.{◌/◌, ◌^◌}
use mathlib.Core.Path.{sym, ◌∙◌}
use native.Mathlib.Omega.{arith}
use Rattle.guid.proofs.Digits.{eqb_high, eqb_low}
use Rattle.guid.proofs.Laws.{prefix-digits}
use borrow.Author.Tests.{ne_eqb}
use borrow.Author.Rules.{rules}
use Rattle.guid.proofs.same_prefix.Goals as goal

pub returns-then-a-b : goal.returns-then-a-b
returns-then-a-b c =
    let a = c.args in
    rw (prefix-digits a.a, prefix-digits a.b)
    (sym (eqb_low (2 ^ 32) a.a.hi a.b.hi (a.a.lo / 2 ^ 32) (a.b.lo / 2 ^ 32) (omega arith)))

pub returns-else-a-b : goal.returns-else-a-b
returns-else-a-b c =
    let a = c.args in
    rw (prefix-digits a.a, prefix-digits a.b)
    (ne_eqb a.a.hi a.b.hi c.if-a-b.false
    ∙ sym (eqb_high (2 ^ 32) a.a.hi a.b.hi (a.a.lo / 2 ^ 32) (a.b.lo / 2 ^ 32) (search rules) (search rules) c.if-a-b.false))
