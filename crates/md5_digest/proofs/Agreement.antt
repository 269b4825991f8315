-- A block is worked on alike wherever it stands: its words are those of its 64 bytes.
--     blocks-agree      of two lists that begin alike
--     blocks_split      of a list that begins like one and goes on like another
use Rattle.std.proofs.Common.{◌≡◌, ℕ, zero, suc, ◌+◌, ◌*◌, ◌<◌, ◌≤◌, List, get_or, refl, ap, ◌∙◌, add-zero, add_assoc, add-suc, zero-add, arith}
use Rattle.md5_digest.specs.declared.Registers.{Registers}
use Rattle.md5_digest.specs.Md5.{word, words, block, blocks}

-- the n bytes of s from at are those of t from o
abbrev pub Alike : List ℕ → ℕ → List ℕ → ℕ → ℕ → Type 0
Alike s at t o n = (i : ℕ) → i < n → get_or s (at + i) 0 ≡ get_or t (o + i) 0

module _ (s : List ℕ) (at : ℕ) (t : List ℕ) (o : ℕ) (same : Alike s at t o 64) where
  word-agree : (k : ℕ) → k + 4 ≤ 64 → word s (at + k) ≡ word t (o + k)
  unfolding word
  word-agree k h =
      rw (
        add_assoc at k 1,
        add_assoc at k 2,
        add_assoc at k 3,
        add_assoc o k 1,
        add_assoc o k 2,
        add_assoc o k 3,
        same k (omega arith),
        same (k + 1) (omega arith),
        same (k + 2) (omega arith),
        same (k + 3) (omega arith),
      )

  words-agree : (n : ℕ) → n ≤ 16 → words n s at ≡ words n t o
  unfolding words
  words-agree zero h = refl
  words-agree (suc n) h = rw (words-agree n (omega arith), word-agree (n * 4) (omega arith))

  block-agree : (r : Registers) → block (words 16 s at) r ≡ block (words 16 t o) r
  block-agree r = ap (λ (x : List ℕ). block x r) (words-agree 16 (omega arith))

pub blocks-agree : (s t : List ℕ) (n : ℕ) (r : Registers) → Alike s 0 t 0 (n * 64) → blocks s n r ≡ blocks t n r
unfolding blocks
blocks-agree s t zero r same = refl
blocks-agree s t (suc n) r same =
    ap (block (words 16 s (n * 64))) (blocks-agree s t n r (λ i h. same i (omega arith)))
    ∙ block-agree s (n * 64) t (n * 64) (λ i h. rw (← zero-add (n * 64 + i)) (same (n * 64 + i) (omega arith))) (blocks t n r)

pub blocks_split : (p m t : List ℕ) (q k : ℕ) (r : Registers) → Alike p 0 m 0 (q * 64) → Alike p (q * 64) t 0 (k * 64)
    → blocks p (q + k) r ≡ blocks t k (blocks m q r)
unfolding blocks
blocks_split p m t q zero r front back = rw (add-zero q) (blocks-agree p m q r front)
blocks_split p m t q (suc k) r front back =
    let e : (q + k) * 64 ≡ q * 64 + k * 64 = omega arith in
    rw (add-suc q k)
    (ap (block (words 16 p ((q + k) * 64))) (blocks_split p m t q k r front (λ i h. back i (omega arith)))
    ∙ rw e
    (block-agree p (q * 64 + k * 64) t (k * 64)
    (λ i h. rw (add_assoc (q * 64) (k * 64) i) (back (k * 64 + i) (omega arith) ∙ rw (zero-add (k * 64 + i))))
    (blocks t k (blocks m q r))))
