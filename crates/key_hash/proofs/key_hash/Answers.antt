-- `key_hash::key_hash` meets its contract.
use mathlib.Core.Path.{sym, ◌∙◌}
use Rattle.key_hash.proofs.Refusals.{unrefused, turned_away_lem, taken_in}
use Rattle.key_hash.proofs.key_hash.Goals as goal

pub returns-then-number-ne0 : goal.returns-then-number-ne0
returns-then-number-ne0 c = turned_away_lem _ _ _ c.refusal-number.ensures c.if-number-ne0.true

pub padded_or_hashed-hash-requires : goal.padded_or_hashed-hash-requires
padded_or_hashed-hash-requires c = unrefused _ _ (sym c.refusal-number.ensures ∙ c.if-number-ne0.false)

pub returns : goal.returns
returns c = taken_in _ _ _ c.refusal-number.ensures _ c.if-number-ne0.false c.padded_or_hashed-hash.ensures
