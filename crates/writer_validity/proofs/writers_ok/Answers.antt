-- `writers_ok` meets its contract: the first part of the test that fails makes the whole fail.
use mathlib.Core.Bool.{false}
use mathlib.Core.Path.{◌≡◌, refl, sym, ◌∙◌}
use borrow.Author.Tests.{le-leb, lt-leb}
use lib.Dec.{leb}
use Rattle.writer_validity.proofs.Pass.{table_agrees}
use Rattle.writer_validity.proofs.writers_ok.Goals as goal
use Rattle.writer_validity.proofs.writers_ok.Goals.{then-count-le128, else-count-le128}

pub returns-then-zero_from : goal.returns-then-zero_from
returns-then-zero_from c =
    let a = c.args in
    elim c.if-count-le128.branch [
      | then-count-le128 w ↦
          table_agrees a.h a.count a.writers.now (le-leb _ _ w.if-count-le128.true)
          (sym w.zero_from.ensures ∙ (sym w.value-is ∙ c.if-zero_from.true)) (sym c.records_ok.ensures)
      | else-count-le128 w ↦ let e : leb a.count 128 ≡ false = lt-leb _ _ w.if-count-le128.false in cc
    ]

pub returns-else-zero_from : goal.returns-else-zero_from
returns-else-zero_from c =
    let a = c.args in
    elim c.if-count-le128.branch [
      | then-count-le128 w ↦
          c.if-zero_from.false
          ∙ table_agrees a.h a.count a.writers.now (le-leb _ _ w.if-count-le128.true)
          (sym w.zero_from.ensures ∙ (sym w.value-is ∙ c.if-zero_from.false)) refl
      | else-count-le128 w ↦
          c.if-zero_from.false ∙ table_agrees a.h a.count a.writers.now (lt-leb _ _ w.if-count-le128.false) refl refl
    ]
