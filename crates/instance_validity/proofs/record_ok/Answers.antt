-- `record_ok` meets its contract: the first part that is not well formed makes the whole fail.
use mathlib.Core.Path.{refl, sym, ◌∙◌}
use Rattle.instance_validity.proofs.Valid.{record_by}
use Rattle.instance_validity.proofs.record_ok.Goals as goal

pub returns-then-not-life_ok : goal.returns-then-not-life_ok
returns-then-not-life_ok c =
    record_by c.args.s.now c.get_u16-f.result c.get_u16-f.ensures
    (sym c.life_ok.ensures ∙ c.if-not-life_ok.true)
    refl
    refl
    refl
    refl

pub returns-then-not-times_ok : goal.returns-then-not-times_ok
returns-then-not-times_ok c =
    record_by c.args.s.now c.get_u16-f.result c.get_u16-f.ensures
    (sym c.life_ok.ensures ∙ c.if-not-life_ok.false)
    (sym c.times_ok.ensures ∙ c.if-not-times_ok.true)
    refl
    refl
    refl

pub returns-then-not-owner_ok : goal.returns-then-not-owner_ok
returns-then-not-owner_ok c =
    record_by c.args.s.now c.get_u16-f.result c.get_u16-f.ensures
    (sym c.life_ok.ensures ∙ c.if-not-life_ok.false)
    (sym c.times_ok.ensures ∙ c.if-not-times_ok.false)
    (sym c.owner_ok.ensures ∙ c.if-not-owner_ok.true)
    refl
    refl

pub returns-then-not-holder_ok : goal.returns-then-not-holder_ok
returns-then-not-holder_ok c =
    record_by c.args.s.now c.get_u16-f.result c.get_u16-f.ensures
    (sym c.life_ok.ensures ∙ c.if-not-life_ok.false)
    (sym c.times_ok.ensures ∙ c.if-not-times_ok.false)
    (sym c.owner_ok.ensures ∙ c.if-not-owner_ok.false)
    (sym c.holder_ok.ensures ∙ c.if-not-holder_ok.true)
    refl

pub returns : goal.returns
returns c =
    record_by c.args.s.now c.get_u16-f.result c.get_u16-f.ensures
    (sym c.life_ok.ensures ∙ c.if-not-life_ok.false)
    (sym c.times_ok.ensures ∙ c.if-not-times_ok.false)
    (sym c.owner_ok.ensures ∙ c.if-not-owner_ok.false)
    (sym c.holder_ok.ensures ∙ c.if-not-holder_ok.false)
    (sym c.set_ok.ensures)
