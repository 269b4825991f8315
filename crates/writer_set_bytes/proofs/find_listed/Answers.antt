-- Its guess, or the search.
use mathlib.Core.Path.{sym, ◌∙◌}
use native.Mathlib.Omega.{arith}
use Rattle.writer_set_bytes.proofs.Guesses.{guess_found}
use Rattle.writer_set_bytes.proofs.Starts.{keys_rise_lem}
use Rattle.writer_set_bytes.proofs.find_listed.Goals as goal

pub returns-then-is_same : goal.returns-then-is_same
returns-then-is_same c =
    let a = c.args in
    let k = c.guid_at-there in
    guess_found a.gone.now c.requires a.g _ (omega arith) k.result k.ensures (sym c.is_same.ensures ∙ c.if-is_same.true)

pub find-requires : goal.find-requires
find-requires c =
    (omega arith, omega (arith, c.requires.few), omega arith, keys_rise_lem c.args.gone.now c.requires)
