-- `is_less` meets its contract: the high halves decide, and where they agree the low ones.
use Prim.Native.Nat.{◌^◌}
use mathlib.Core.Path.{◌∙◌}
use borrow.Author.Rules.{rules}
use Rattle.model.specs.Guids.{num}
use Rattle.guid.proofs.Digits.{ltb-digits}
use Rattle.guid.proofs.is_less.Goals as goal

pub returns : goal.returns
unfolding num
returns c =
    let a = c.args in
    c.lt.ensures ∙ ltb-digits (2 ^ 64) a.a.hi a.b.hi a.a.lo a.b.lo (search rules) (search rules)
