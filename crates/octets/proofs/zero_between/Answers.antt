use mathlib.Core.Path.{◌∙◌}
use Rattle.octets.proofs.Scan.{scan_turn, scan_end}
use Rattle.octets.proofs.zero_between.Goals as goal

pub loop-x-preserved : goal.loop-x-preserved
loop-x-preserved c =
    let l = c.loop-x in
    scan_turn _ l.acc l.x-index c.loop-x-test.true ∙ l.invariant

pub returns : goal.returns
returns c = let l = c.loop-x in scan_end _ l.acc l.x-index c.loop-x-test.false ∙ l.invariant
