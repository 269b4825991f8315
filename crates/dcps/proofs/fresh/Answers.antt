-- `fresh` meets its contract: a wrong length is refused, else the three buffers are cleared.
use Prim.Native.Nat.{◌*◌}
use mathlib.Core.Path.{sym, ap, ◌∙◌}
use native.Mathlib.Omega.{arith}
use lib.ListN.{length}
use Rattle.model.specs.Answers.{refused_with}
use Rattle.call_laws.specs.Heads.{called}
use Rattle.dcps.proofs.Beginnings.{cleared, room-is, rooms, fresh-refused, fresh-left}
use Rattle.dcps.proofs.fresh.Goals as goal

pub returns-then-not-room_ok : goal.returns-then-not-room_ok
returns-then-not-room_ok c =
    let a = c.args in
    fresh-refused c.places_in-places.result a.pens.now a.writers.now a.lost.now c.places_in-places.ensures.places _
    (room-is c.places_in-places.result a.pens.now a.writers.now a.lost.now _
    (sym c.room_ok.ensures ∙ c.if-not-room_ok.true))
    (c.refused.ensures ∙ ap (called (refused_with 1)) c.fresh_head-head.ensures)

pub clear-requires : goal.clear-requires
clear-requires c =
    let a = c.args in
    omega (
      arith,
      (rooms c.places_in-places.result (length a.pens.now) (length a.writers.now) (length a.lost.now)
          (sym c.room_ok.ensures ∙ c.if-not-room_ok.false)).pens,
    )

pub clear-requires-2 : goal.clear-requires-2
clear-requires-2 c =
    let a = c.args in
    omega (
      arith,
      (rooms c.places_in-places.result (length a.pens.now) (length a.writers.now) (length a.lost.now)
          (sym c.room_ok.ensures ∙ c.if-not-room_ok.false)).writers,
    )

pub clear-requires-3 : goal.clear-requires-3
clear-requires-3 c =
    let a = c.args in
    omega (
      arith,
      (rooms c.places_in-places.result (length a.pens.now) (length a.writers.now) (length a.lost.now)
          (sym c.room_ok.ensures ∙ c.if-not-room_ok.false)).lost,
    )

pub returns : goal.returns
returns c =
    let places = c.places_in-places.result in
    let a = c.args in
    let n = rooms places (length a.pens.now) (length a.writers.now) (length a.lost.now) (sym c.room_ok.ensures ∙ c.if-not-room_ok.false) in
    fresh-left places a.pens.now a.writers.now a.lost.now c.places_in-places.ensures.places _ _ _ _
    (room-is places a.pens.now a.writers.now a.lost.now _ (sym c.room_ok.ensures ∙ c.if-not-room_ok.false))
    (c.refused-2.ensures ∙ ap (called (refused_with 0)) c.fresh_head-head.ensures)
    (cleared (places * 512) a.pens.now _ n.pens c.clear.ensures)
    (cleared 5120 a.writers.now _ n.writers c.clear-2.ensures)
    (cleared 4096 a.lost.now _ n.lost c.clear-3.ensures)
