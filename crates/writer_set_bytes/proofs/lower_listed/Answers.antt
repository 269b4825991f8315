-- The place of what is found.
use mathlib.Core.Path.{◌≡◌, ap, ◌∙◌}
use Prim.Native.Nat.{ℕ}
use Rattle.std.proofs.Common.{rules}
use Rattle.std.specs.Prelude.{Result, Ok, Err, MatchResult}
use Rattle.tables.proofs.FoundLaws.{told_place, told_lower}
use Rattle.writer_set_bytes.proofs.lower_listed.Goals as goal

either : (r : Result ℕ ℕ) (n : ℕ) (P : ℕ → Type 0) → ((i : ℕ) → P i → n ≡ i) → MatchResult r (λ i. n ≡ i) P → n ≡ told_place r
either (Ok i) n P f h = h
either (Err i) n P f h = f i h

pub returns : goal.returns
returns c =
    either c.find_listed.result c.unwrap_or_else.result _ (λ i h. search (rules, h)) c.unwrap_or_else.ensures ∙ ap told_place c.find_listed.ensures ∙ told_lower _ _
