-- The answer of `key_hash` as it crosses the C boundary: 24 bytes, 0 the number, 8 to 23 the KeyHash, the others 0.
use Rattle.std.specs.Prelude.{List, [], ◌∷◌, ◌++◌, ℕ}
use Rattle.octets.specs.Patch.{fields}
use Rattle.key_hash.specs.declared.KeyHashed.{KeyHashed}
use Rattle.boundary_reads.specs.ReadAnswers.{AnswerTold, told_bytes}

unfoldable pub key_hash_bytes : KeyHashed → List ℕ
key_hash_bytes k = fields (1 ∷ 7 ∷ []) (k.number ∷ 0 ∷ []) ++ k.hash

unfoldable pub told_key_hash : KeyHashed → List ℕ → AnswerTold
told_key_hash k answer = told_bytes k.number (key_hash_bytes k) answer
