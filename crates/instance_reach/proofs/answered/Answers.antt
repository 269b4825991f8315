-- The answer, form by form.
use Rattle.model.specs.Answers.{saying, informed}
use Rattle.model.specs.declared.Rule.{Rule}
use mathlib.Core.Path.{sym, ap, ◌∙◌}
use Rattle.instance_reach.proofs.answered.Goals as goal

pub returns-in-Nothing : goal.returns-in-Nothing
returns-in-Nothing c = rw (ap (λ (r : Rule). r.says) (sym c.rule_of.ensures) ∙ c.in-Nothing.is) c.silent.ensures

pub returns-in-Handle : goal.returns-in-Handle
returns-in-Handle c = rw (ap (λ (r : Rule). r.says) (sym c.rule_of.ensures) ∙ c.in-Handle.is) c.handed.ensures

pub returns-in-Known : goal.returns-in-Known
returns-in-Known c = rw (ap (λ (r : Rule). r.says) (sym c.rule_of.ensures) ∙ c.in-Known.is) c.saying.ensures

pub returns-in-Samples : goal.returns-in-Samples
returns-in-Samples c = rw (ap (λ (r : Rule). r.says) (sym c.rule_of.ensures) ∙ c.in-Samples.is) c.samples_of.ensures

pub returns-in-Info : goal.returns-in-Info
returns-in-Info c =
    rw (ap (λ (r : Rule). r.says) (sym c.rule_of.ensures) ∙ c.in-Info.is)
    (c.informed.ensures ∙ ap informed c.info_of.ensures)

pub returns-in-Accepted : goal.returns-in-Accepted
returns-in-Accepted c =
    rw (ap (λ (r : Rule). r.says) (sym c.rule_of.ensures) ∙ c.in-Accepted.is)
    (c.saying-in-Accepted.ensures ∙ ap saying c.takes_over.ensures)

pub returns-in-Released : goal.returns-in-Released
returns-in-Released c =
    rw (ap (λ (r : Rule). r.says) (sym c.rule_of.ensures) ∙ c.in-Released.is)
    (c.saying-in-Released.ensures ∙ ap saying c.owns.ensures)
