-- `is_same` meets its contract: equal numbers have equal halves.
use Prim.Native.Nat.{◌^◌}
use mathlib.Core.Path.{◌∙◌}
use borrow.Author.Rules.{rules}
use Rattle.model.specs.Guids.{num}
use Rattle.guid.proofs.Digits.{eqb-digits}
use Rattle.guid.proofs.is_same.Goals as goal

pub returns : goal.returns
unfolding num
returns c =
    let a = c.args in
    c.eq.ensures ∙ eqb-digits (2 ^ 64) a.a.hi a.b.hi a.a.lo a.b.lo (search rules) (search rules)
