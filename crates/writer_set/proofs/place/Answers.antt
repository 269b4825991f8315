-- The scan ends at the first that is not less, or else at the end.
use mathlib.Core.Path.{sym, ◌∙◌}
use native.Mathlib.Omega.{arith}
use lib.ListN.{take}
use Rattle.std.proofs.Common.{rules, tests}
use Rattle.std.proofs.lemmas.Iterator.{YieldsList-from_slice}
use Rattle.std.proofs.lemmas.Iterator.Search.{position_from_yields_List}
use Rattle.writer_set.proofs.PlaceLaws.{not_less, place_is, length-members}
use Rattle.writer_set.proofs.place.Goals as goal

pub returns : goal.returns
returns c =
    let a = c.args in
    let s = take a.w.len a.w.items in
    c.unwrap_or.ensures
    ∙ place_is (not_less a.g) s c.position.result
    (position_from_yields_List (not_less a.g) _ _ c.position.result c.position.ensures.ran (YieldsList-from_slice s cc) (λ x b q k. search (rules, tests)))
    a.w.len (sym (length-members a.w (omega arith) c.requires))
