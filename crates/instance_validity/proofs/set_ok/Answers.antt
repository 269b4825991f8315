-- `set_ok` meets its contract: the test of the length decides what is asked.
use Prim.Native.Nat.{◌%◌}
use mathlib.Core.Path.{sym, ◌∙◌}
use borrow.Author.Rules.{rules}
use lib.ListN.{drop}
use borrow.Author.Tests.{lt-leb, le-leb}
use Rattle.model.specs.Guids.{guid_of}
use Rattle.model.specs.WellFormed.{set_ok}
use Rattle.model.proofs.RowLaws.{take_read}
use Rattle.instance_validity.proofs.Nil.{set_tail}
use Rattle.instance_validity.proofs.set_ok.Goals as goal

pub returns-then-n-gt16 : goal.returns-then-n-gt16
unfolding set_ok
returns-then-n-gt16 c = rw (lt-leb _ _ c.if-n-gt16.true)

pub returns-then-not-set_rises : goal.returns-then-not-set_rises
unfolding set_ok
returns-then-not-set_rises c =
    let a = c.args in
    let few = c.if-n-gt16.false in
    rw (le-leb _ _ few, take_read guid_of 16 (a.f % 32) 16 (drop 256 a.s.now) few, sym c.set_rises.ensures ∙ c.if-not-set_rises.true)

pub returns : goal.returns
unfolding set_ok
returns c =
    let a = c.args in
    let few = c.if-n-gt16.false in
    rw (
      le-leb _ _ few,
      take_read guid_of 16 (a.f % 32) 16 (drop 256 a.s.now) few,
      set_tail a.s.now (a.f % 32) (search rules) few,
      sym c.set_rises.ensures ∙ c.if-not-set_rises.false,
      c.zero_from.ensures,
    )
