-- Padding keeps keys of one length apart.
use mathlib.Core.List.{List}
use mathlib.Core.Path.{◌≡◌, refl, sym, ap, ◌∙◌}
use Prim.Native.Nat.{ℕ}
use lib.ListN.{length, take}
use lib.Seq.{take_at}
use Rattle.key_hash.specs.KeyHash.{padded_key}

pub padded_apart : (a b : List ℕ) → length a ≡ length b → padded_key a ≡ padded_key b → a ≡ b
padded_apart a b l e = sym (take_at a _ (length a) refl) ∙ ap (take (length a)) e ∙ take_at b _ (length a) (sym l)
