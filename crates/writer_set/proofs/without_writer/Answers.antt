-- A GUID taken out, where there is one.
use mathlib.Core.Path.{refl}
use native.Mathlib.Omega.{arith}
use lib.ListN.{take}
use Rattle.std.proofs.Common.{rules, tests}
use Rattle.std.proofs.lemmas.Iterator.{YieldsList-from_slice}
use Rattle.std.proofs.lemmas.Iterator.Search.{position_from_yields_List}
use Rattle.model.specs.Sets.{members}
use Rattle.writer_set.proofs.PlaceLaws.{is, found_at, found_nowhere, length-members, without_none, without_found}
use Rattle.writer_set.proofs.SetLaws.{sound-size}
use Rattle.writer_set.proofs.without_writer.Goals as goal

pub returns-in-Some : goal.returns-in-Some
returns-in-Some c =
    let a = c.args in
    let size = sound-size a.w c.requires in
    let scan = position_from_yields_List (is a.g) _ _ c.position.result c.position.ensures.ran (YieldsList-from_slice (take a.w.len a.w.items) cc) (λ x b q k. search (rules, tests)) in
    let found = found_at (is a.g) (members a.w) c.position.result scan c.in-Some.p c.in-Some.is in
    without_found a.w a.g c.in-Some.p size c.requires found.0 c.removed_at.result (omega (arith, found.1, length-members a.w size c.requires.few)) c.removed_at.ensures

pub returns-in-None : goal.returns-in-None
returns-in-None c =
    let a = c.args in
    let size = sound-size a.w c.requires in
    let scan = position_from_yields_List (is a.g) _ _ c.position.result c.position.ensures.ran (YieldsList-from_slice (take a.w.len a.w.items) cc) (λ x b q k. search (rules, tests)) in
    without_none a.w a.g _ size c.requires refl
    (omega (arith, length-members a.w size c.requires.few, found_nowhere (is a.g) (members a.w) c.position.result scan c.in-None.is))
