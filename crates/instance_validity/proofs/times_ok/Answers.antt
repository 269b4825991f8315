-- `times_ok` meets its contract: the first time that is not valid makes the whole fail.
use mathlib.Core.Path.{refl, sym, ◌∙◌}
use Rattle.instance_validity.proofs.Valid.{times_by}
use Rattle.instance_validity.proofs.times_ok.Goals as goal

pub returns-then-not-time_ok : goal.returns-then-not-time_ok
returns-then-not-time_ok c =
    let a = c.args in
    times_by a.s.now a.f
    (sym c.time_ok.ensures ∙ c.if-not-time_ok.true)
    refl
    refl
    refl
    refl
    refl

pub returns-then-not-time_ok-2 : goal.returns-then-not-time_ok-2
returns-then-not-time_ok-2 c =
    let a = c.args in
    times_by a.s.now a.f
    (sym c.time_ok.ensures ∙ c.if-not-time_ok.false)
    (sym c.time_ok-2.ensures ∙ c.if-not-time_ok-2.true)
    refl
    refl
    refl
    refl

pub returns-then-not-time_ok-3 : goal.returns-then-not-time_ok-3
returns-then-not-time_ok-3 c =
    let a = c.args in
    times_by a.s.now a.f
    (sym c.time_ok.ensures ∙ c.if-not-time_ok.false)
    (sym c.time_ok-2.ensures ∙ c.if-not-time_ok-2.false)
    (sym c.time_ok-3.ensures ∙ c.if-not-time_ok-3.true)
    refl
    refl
    refl

pub returns-then-not-time_ok-4 : goal.returns-then-not-time_ok-4
returns-then-not-time_ok-4 c =
    let a = c.args in
    times_by a.s.now a.f
    (sym c.time_ok.ensures ∙ c.if-not-time_ok.false)
    (sym c.time_ok-2.ensures ∙ c.if-not-time_ok-2.false)
    (sym c.time_ok-3.ensures ∙ c.if-not-time_ok-3.false)
    (sym c.time_ok-4.ensures ∙ c.if-not-time_ok-4.true)
    refl
    refl

pub returns-then-not-time_ok-5 : goal.returns-then-not-time_ok-5
returns-then-not-time_ok-5 c =
    let a = c.args in
    times_by a.s.now a.f
    (sym c.time_ok.ensures ∙ c.if-not-time_ok.false)
    (sym c.time_ok-2.ensures ∙ c.if-not-time_ok-2.false)
    (sym c.time_ok-3.ensures ∙ c.if-not-time_ok-3.false)
    (sym c.time_ok-4.ensures ∙ c.if-not-time_ok-4.false)
    (sym c.time_ok-5.ensures ∙ c.if-not-time_ok-5.true)
    refl

pub returns : goal.returns
returns c =
    let a = c.args in
    times_by a.s.now a.f
    (sym c.time_ok.ensures ∙ c.if-not-time_ok.false)
    (sym c.time_ok-2.ensures ∙ c.if-not-time_ok-2.false)
    (sym c.time_ok-3.ensures ∙ c.if-not-time_ok-3.false)
    (sym c.time_ok-4.ensures ∙ c.if-not-time_ok-4.false)
    (sym c.time_ok-5.ensures ∙ c.if-not-time_ok-5.false)
    (sym c.time_ok-6.ensures)
