-- `call` meets its contract: another figure is refused as 3, then a wrong length as 1, else the sheet is read and the call made by
-- its code.
use mathlib.Core.Bool.{true, false}
use mathlib.Core.Path.{refl, sym, ◌∙◌}
use borrow.Author.Tests.{eq-eqb, ne_eqb}
use lib.ListN.{length}
use Rattle.model.specs.Call.{lent_of}
use Rattle.model.proofs.Figures.{figure-few}
use Rattle.dcps.proofs.Beginnings.{rooms}
use Rattle.dcps.proofs.Coding.{lengths_by, called-3, called-1, called-coded}
use Rattle.dcps.proofs.call.Goals as goal

pub returns-then-not-figure_ok : goal.returns-then-not-figure_ok
returns-then-not-figure_ok c =
    let a = c.args in
    called-3 a.sheet.now _ a.head a.pens.now a.writers.now a.lost.now a.out.now c.refused.ensures
    (sym c.figure_ok.ensures ∙ c.if-not-figure_ok.true)

pub returns-then-sheet-ne256 : goal.returns-then-sheet-ne256
returns-then-sheet-ne256 c =
    let a = c.args in
    let l = lent_of a.head a.pens.now a.writers.now a.lost.now a.out.now in
    called-1 a.head.places (sym c.figure_ok.ensures ∙ c.if-not-figure_ok.false)
    a.sheet.now _ a.head a.pens.now a.writers.now a.lost.now a.out.now refl c.refused-then-sheet-ne256.ensures
    (lengths_by a.head.places a.sheet.now l false _ _ (ne_eqb _ _ c.if-sheet-ne256.true) refl refl)

pub room_ok-requires : goal.room_ok-requires
room_ok-requires c =
    figure-few _ (sym c.figure_ok.ensures ∙ c.if-not-figure_ok.false)

pub returns-then-not-room_ok : goal.returns-then-not-room_ok
returns-then-not-room_ok c =
    let a = c.args in
    let l = lent_of a.head a.pens.now a.writers.now a.lost.now a.out.now in
    called-1 a.head.places (sym c.figure_ok.ensures ∙ c.if-not-figure_ok.false)
    a.sheet.now _ a.head a.pens.now a.writers.now a.lost.now a.out.now refl c.refused-then-not-room_ok.ensures
    (lengths_by a.head.places a.sheet.now l true false _ (eq-eqb _ _ c.if-sheet-ne256.false)
    (sym c.room_ok.ensures ∙ c.if-not-room_ok.true) refl)

pub returns-then-out-ne4096 : goal.returns-then-out-ne4096
returns-then-out-ne4096 c =
    let a = c.args in
    let l = lent_of a.head a.pens.now a.writers.now a.lost.now a.out.now in
    called-1 a.head.places (sym c.figure_ok.ensures ∙ c.if-not-figure_ok.false)
    a.sheet.now _ a.head a.pens.now a.writers.now a.lost.now a.out.now refl c.refused-then-out-ne4096.ensures
    (lengths_by a.head.places a.sheet.now l true true false (eq-eqb _ _ c.if-sheet-ne256.false)
    (sym c.room_ok.ensures ∙ c.if-not-room_ok.false) (ne_eqb _ _ c.if-out-ne4096.true))

pub coded-requires : goal.coded-requires
coded-requires c =
    let a = c.args in
    let n = rooms a.head.places (length a.pens.now) (length a.writers.now) (length a.lost.now)
    (sym c.room_ok.ensures ∙ c.if-not-room_ok.false) in
    record { few = figure-few _ (sym c.figure_ok.ensures ∙ c.if-not-figure_ok.false); pens = n.pens; writers = n.writers; lost = n.lost; out = c.if-out-ne4096.false }

pub returns : goal.returns
returns c =
    let a = c.args in
    let l = lent_of a.head a.pens.now a.writers.now a.lost.now a.out.now in
    called-coded a.head.places (sym c.figure_ok.ensures ∙ c.if-not-figure_ok.false)
    a.sheet.now _ l _ refl c.read_sheet-s.ensures
    (lengths_by a.head.places a.sheet.now l true true true (eq-eqb _ _ c.if-sheet-ne256.false)
    (sym c.room_ok.ensures ∙ c.if-not-room_ok.false) (eq-eqb _ _ c.if-out-ne4096.false))
    c.coded.ensures
