-- `state_ok` meets its contract: the first part of the test that fails makes the whole fail.
use mathlib.Core.Path.{refl, sym, ◌∙◌}
use Rattle.lent_state.proofs.Formed.{formed_by}
use Rattle.lent_state.proofs.state_ok.Goals as goal

pub returns-then-not-head_ok : goal.returns-then-not-head_ok
returns-then-not-head_ok c =
    let a = c.args in
    λ out. formed_by a.head.places a.head a.pens.now a.writers.now a.lost.now out refl
    (sym c.head_ok.ensures ∙ c.if-not-head_ok.true) refl refl refl

pub returns-then-not-table_ok : goal.returns-then-not-table_ok
returns-then-not-table_ok c =
    let a = c.args in
    λ out. formed_by a.head.places a.head a.pens.now a.writers.now a.lost.now out refl
    (sym c.head_ok.ensures ∙ c.if-not-head_ok.false) (sym c.table_ok.ensures ∙ c.if-not-table_ok.true) refl refl

pub returns-then-not-writers_ok : goal.returns-then-not-writers_ok
returns-then-not-writers_ok c =
    let a = c.args in
    λ out. formed_by a.head.places a.head a.pens.now a.writers.now a.lost.now out refl
    (sym c.head_ok.ensures ∙ c.if-not-head_ok.false) (sym c.table_ok.ensures ∙ c.if-not-table_ok.false)
    (sym c.writers_ok.ensures ∙ c.if-not-writers_ok.true) refl

pub returns : goal.returns
returns c =
    let a = c.args in
    λ out. formed_by a.head.places a.head a.pens.now a.writers.now a.lost.now out refl (sym c.head_ok.ensures ∙ c.if-not-head_ok.false)
    (sym c.table_ok.ensures ∙ c.if-not-table_ok.false)
    (sym c.writers_ok.ensures ∙ c.if-not-writers_ok.false) (sym c.lost_ok.ensures)
