-- `refusal_of` meets its contract, by its two tests.
use mathlib.Core.Path.{sym, ◌∙◌}
use Rattle.instance_reads.proofs.Table.{wrong_length, wrong_form, no_refusal}
use Rattle.instance_reads.proofs.refusal_of.Goals as goal

pub returns-then-pens-places : goal.returns-then-pens-places
returns-then-pens-places c = wrong_length _ _ c.if-pens-places.true

pub returns-then-lone_table_ok : goal.returns-then-lone_table_ok
returns-then-lone_table_ok c = no_refusal _ _ c.if-pens-places.false (sym c.lone_table_ok.ensures ∙ c.if-lone_table_ok.true)

pub returns-else-lone_table_ok : goal.returns-else-lone_table_ok
returns-else-lone_table_ok c = wrong_form _ _ c.if-pens-places.false (sym c.lone_table_ok.ensures ∙ c.if-lone_table_ok.false)
