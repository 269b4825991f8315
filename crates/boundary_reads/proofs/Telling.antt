-- The answer of a read, written, over plain variables.
--     told_short      an answer of another length keeps its bytes
--     told_whole      the two parts make the answer's bytes
--     hash_short, hash_put, hash_whole     the same of a KeyHash
use Prim.Native.Nat.{ℕ}
use mathlib.Core.Path.{◌≡◌, ap, ◌∙◌}
use mathlib.Core.List.{List, [], ◌∷◌, ◌++◌, append_assoc}
use native.Mathlib.Omega.{arith}
use borrow.Author.Tests.{eq-eqb, ne_eqb}
use lib.ListN.{length, take, drop}
use lib.Seq.{take_all, paste}
use Rattle.octets.specs.Fields.{puts}
use Rattle.octets.specs.Octets.{put}
use Rattle.octets.specs.Patch.{patch, fields}
use Rattle.octets.proofs.PatchLaws.{length_fields, puts-patch, patch-patch}
use Rattle.boundary.proofs.Written.{whole}
use Rattle.key_hash.specs.declared.KeyHashed.{KeyHashed}
use Rattle.read_answers.specs.declared.ReadAnswer.{ReadAnswer}
use Rattle.boundary_reads.specs.ReadAnswers.{read_widths, read_values, read_bytes, bit_widths, bit_values, value_widths, value_values, told_of, told_bytes, told}
use Rattle.boundary_reads.specs.KeyHashes.{key_hash_bytes, told_key_hash}

pub told_short : (a : ReadAnswer) (b : List ℕ) → (length b ≡ 24 → ⊥) → told_of 1 b ≡ told a b
unfolding told told_bytes
told_short a b h = rw (ne_eqb (length b) 24 h)

pub read_put : (a : ReadAnswer) (s t1 t2 : List ℕ) → length s ≡ 24 → t1 ≡ puts bit_widths (bit_values a) s 0 0 →
    t2 ≡ puts value_widths (value_values a) t1 0 4 → t2 ≡ read_bytes a
unfolding read_bytes
read_put a s t1 t2 n e1 e2 = rw (e2, e1) (puts-patch read_widths (read_values a) s 0 0 (omega arith) tt ∙ whole 24 s (read_bytes a) n)

pub told_whole : (a : ReadAnswer) (s t1 t2 : List ℕ) → length s ≡ 24 → t1 ≡ puts bit_widths (bit_values a) s 0 0 →
    t2 ≡ puts value_widths (value_values a) t1 0 4 → told_of a.number t2 ≡ told a s
unfolding told told_bytes
told_whole a s t1 t2 n e1 e2 = rw (eq-eqb (length s) 24 n, read_put a s t1 t2 n e1 e2)

-- ---- a KeyHash

pub hash_short : (k : KeyHashed) (b : List ℕ) → (length b ≡ 24 → ⊥) → told_of 1 b ≡ told_key_hash k b
unfolding told_key_hash told_bytes
hash_short k b h = rw (ne_eqb (length b) 24 h)

pub hash_put : (k : KeyHashed) (s : List ℕ) → length s ≡ 24 → length k.hash ≡ 16
    → paste (put 7 (put 1 s 0 k.number) 1 0) 8 k.hash 16 ≡ key_hash_bytes k
unfolding key_hash_bytes
hash_put k s n m =
    let front : List ℕ = fields (1 ∷ 7 ∷ []) (k.number ∷ 0 ∷ []) in
    let d : List ℕ = patch s 0 8 front in
    let headed : put 7 (put 1 s 0 k.number) 1 0 ≡ d = puts-patch (1 ∷ 7 ∷ []) (k.number ∷ 0 ∷ []) s 0 0 (omega arith) tt in
    rw (headed, take_all 16 k.hash (omega arith))
    (append_assoc (take 8 d) k.hash (drop 24 d)
    ∙ patch-patch s 0 8 16 front k.hash (omega arith) (length_fields (1 ∷ 7 ∷ []) (k.number ∷ 0 ∷ []) tt)
    ∙ whole 24 s (front ++ k.hash) n)

pub hash_whole : (k : KeyHashed) (s t : List ℕ) → length s ≡ 24 → t ≡ key_hash_bytes k → told_of k.number t ≡ told_key_hash k s
unfolding told_key_hash told_bytes
hash_whole k s t n e = rw (eq-eqb (length s) 24 n) (ap (told_of k.number) e)
