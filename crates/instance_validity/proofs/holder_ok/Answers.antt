-- `holder_ok` meets its contract: each test on the way decides.
use mathlib.Core.Path.{sym, ◌∙◌}
use borrow.Author.Tests.{le-leb, lt-leb, eq-eqb, ne_eqb}
use Rattle.model.specs.WellFormed.{holder_ok}
use Rattle.instance_decoding.proofs.Rows.{holder_tail}
use Rattle.instance_validity.proofs.holder_ok.Goals as goal

pub returns-then-n-gt144 : goal.returns-then-n-gt144
unfolding holder_ok
returns-then-n-gt144 c = rw (← c.get_u16-n.ensures, eq-eqb _ 1 c.if-f-eq1.true, lt-leb _ _ c.if-n-gt144.true)

pub returns-then-f-eq1 : goal.returns-then-f-eq1
unfolding holder_ok
returns-then-f-eq1 c =
    rw (← c.get_u16-n.ensures, eq-eqb _ 1 c.if-f-eq1.true, le-leb _ _ c.if-n-gt144.false)
    (c.zero_tail.ensures ∙ sym (holder_tail c.args.s.now c.get_u16-n.result))

pub returns-then-n-ne0 : goal.returns-then-n-ne0
unfolding holder_ok
returns-then-n-ne0 c = rw (← c.get_u16-n.ensures, ne_eqb _ 1 c.if-f-eq1.false, ne_eqb _ 0 c.if-n-ne0.true)

pub returns : goal.returns
unfolding holder_ok
returns c = rw (← c.get_u16-n.ensures, ne_eqb _ 1 c.if-f-eq1.false, eq-eqb _ 0 c.if-n-ne0.false) c.zero_tail-2.ensures
