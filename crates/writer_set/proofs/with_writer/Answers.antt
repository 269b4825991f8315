-- A GUID put in its place, or there already.
use Prim.Native.Nat.{◌<◌}
use mathlib.Core.Path.{◌≡◌, sym, ◌∙◌}
use mathlib.Core.Bool.{false}
use native.Mathlib.Omega.{arith}
use lib.ListN.{get_or}
use Rattle.model.specs.Guids.{same, nil}
use Rattle.model.specs.Sets.{members}
use Rattle.writer_set.proofs.PlaceLaws.{not_less, passed-is, with_old, with_new, with_room, place_few}
use Rattle.writer_set.proofs.SetLaws.{sound-size}
use Rattle.writer_set.proofs.with_writer.Goals as goal
use Rattle.writer_set.proofs.with_writer.Goals.{else-p-w-via-then-p-w+else-is_same, else-p-w-via-else-p-w}

pub returns-then-is_same : goal.returns-then-is_same
returns-then-is_same c =
    let p = c.place-p in
    let place = p.ensures ∙ passed-is (not_less c.args.g) (members c.args.w) in
    with_old c.args.w c.args.g p.result (sound-size c.args.w c.requires.0) c.requires.0 place (omega arith)
    (sym c.is_same.ensures ∙ c.if-is_same.true)

pub inserted_at-requires : goal.inserted_at-requires
inserted_at-requires c =
    let set = c.args.w in
    let p = c.place-p in
    let place = p.ensures ∙ passed-is (not_less c.args.g) (members c.args.w) in
    let size = sound-size set c.requires.0 in
    let other : p.result < set.len → same (get_or set.items p.result nil) c.args.g ≡ false =
    elim c.else-p-w.branch [ else-p-w-via-then-p-w+else-is_same w ↦ λ h. sym w.is_same.ensures ∙ w.if-is_same.false | else-p-w-via-else-p-w w ↦ λ h. absurd (omega arith) ] in
    omega
    (arith, place_few set c.args.g p.result size c.requires.0 place, with_room set c.args.g p.result size c.requires.0 place other c.requires.1)

pub returns : goal.returns
returns c =
    let set = c.args.w in
    let p = c.place-p in
    let place = p.ensures ∙ passed-is (not_less c.args.g) (members c.args.w) in
    let other : p.result < set.len → same (get_or set.items p.result nil) c.args.g ≡ false =
    elim c.else-p-w.branch [ else-p-w-via-then-p-w+else-is_same w ↦ λ h. sym w.is_same.ensures ∙ w.if-is_same.false | else-p-w-via-else-p-w w ↦ λ h. absurd (omega arith) ] in
    with_new set c.args.g p.result (sound-size set c.requires.0) c.requires.0 place other c.inserted_at.result
    c.inserted_at.ensures c.requires.1
