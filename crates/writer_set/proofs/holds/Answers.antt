-- A GUID is a member where a scan for it finds it.
use mathlib.Core.Path.{◌∙◌}
use lib.ListN.{take}
use Rattle.std.proofs.Common.{rules, tests}
use Rattle.std.proofs.lemmas.Iterator.{YieldsList-from_slice}
use Rattle.std.proofs.lemmas.Iterator.Search.{any_from_yields_List}
use Rattle.writer_set.proofs.PlaceLaws.{is, has_any}
use Rattle.writer_set.proofs.holds.Goals as goal

pub returns : goal.returns
returns c =
    let a = c.args in
    any_from_yields_List (is a.g) _ _ _ c.any.ensures.ran (YieldsList-from_slice (take a.w.len a.w.items) cc) (λ x b q k. search (rules, tests))
    ∙ has_any a.g (take a.w.len a.w.items)
