-- Zeros in bytes and in numbers, and the scan of a tail in the code's own form.
--     zero-sum                              a number of two digits is 0 where both are
--     be-zero                               a number is 0 where its bytes are
--     zeros-add                             a part in two
--     words_turn                            a word more
--     tail_turn, tail_stop                  k bytes more
--     tail_end, tail_short                  the last k bytes, which are seen first
--     whole_blocks, block_turn              the blocks of a part: how far they go; the block of a turn
use Prim.Native.Nat.{ℕ, zero, suc, ◌+◌, ◌-◌, ◌*◌, ◌/◌, ◌≤◌, ◌<◌}
use mathlib.Core.Bool.{Bool, true, false, ◌&&◌, and-true, and-false}
use mathlib.Core.Path.{◌≡◌, refl, sym, ap, ◌∙◌}
use mathlib.Core.List.{List, [], ◌∷◌}
use native.Mathlib.Nat.{suc-mul, zero-mul, mul-le-mul_right}
use native.Mathlib.Omega.{arith}
use lib.Dec.{eqb, eqb-suc-zero}
use lib.ListN.{length, take, drop, get_or, length-drop}
use lib.Seq.{take-suc, take-add, get_or-drop, drop-drop, take-take, length-take-le}
use borrow.Author.Tests.{ne_eqb}
use Rattle.std.specs.Simd.{first_chunks}
use Rattle.std.proofs.lemmas.Nat.{div-add-mod', mod_below}
use Rattle.std.proofs.lemmas.List.{drop-take}
use Rattle.octets.specs.Octets.{be}
use Rattle.octets.specs.Zeros.{all_zero}
use lib.Bits.{bit_or}
use Rattle.octets.proofs.Scan.{or-is-zero}
use Rattle.octets.proofs.ZeroLaws.{all_zero-append}

pub zero-sum : (m a b : ℕ) → 0 < m → eqb (a * m + b) 0 ≡ (eqb a 0 && eqb b 0)
zero-sum m zero b h = let e : zero * m + b ≡ b = omega arith in ap (λ (n : ℕ). eqb n 0) e
zero-sum m (suc a) b h = ne_eqb (suc a * m + b) 0 (λ e. omega (arith, suc-mul a m)) ∙ rw (eqb-suc-zero a)

pub be-zero : (k : ℕ) (s : List ℕ) (at : ℕ) → at + k ≤ length s → eqb (be k s at) 0 ≡ all_zero (take k (drop at s))
unfolding be all_zero
be-zero zero s at h = refl
be-zero (suc k) s at h =
    let b : ℕ = get_or s (at + k) 0 in
    zero-sum 256 (be k s at) b (omega arith)
    ∙ rw (
      be-zero k s at (omega arith),
      take-suc (drop at s) k 0 (rw (length-drop at s) (omega arith)),
      get_or-drop at s k 0,
      all_zero-append (take k (drop at s)) (b ∷ []),
      and-true (eqb b 0),
    )

second : (a b : Bool) → (a && b) ≡ true → b ≡ true
second true b h = h
second false b h = let z : ◌≡◌ {A = ℕ} 0 1 = cc in absurd (omega arith)

module _ (s : List ℕ) where
  -- the k bytes from at are zero
  abbrev pub zeros : ℕ → ℕ → Bool
  zeros k at = all_zero (take k (drop at s))

  pub zeros-add : (j k at : ℕ) → zeros (j + k) at ≡ (zeros j at && zeros k (at + j))
  zeros-add j k at = rw (take-add j k (drop at s), drop-drop j at s) (all_zero-append (take j (drop at s)) (take k (drop (at + j) s)))

  pub words_turn : (i at any w : ℕ) → at + i * 8 + 8 ≤ length s → eqb any 0 ≡ zeros (i * 8) at → w ≡ be 8 s (at + i * 8)
      → eqb (bit_or any w) 0 ≡ zeros ((i + 1) * 8) at
  words_turn i at any w h e f =
      let n : (i + 1) * 8 ≡ i * 8 + 8 = omega arith in
      or-is-zero any w ∙ rw (e, f, be-zero 8 s (at + i * 8) h, n) (sym (zeros-add (i * 8) 8 at))

  module _ (k end at : ℕ) where
    -- k bytes more
    tail_next : at + k ≤ end → zeros (end - at) at ≡ (zeros k at && zeros (end - (at + k)) (at + k))
    tail_next h = let e : end - at ≡ k + (end - (at + k)) = omega arith in rw e (zeros-add k (end - (at + k)) at)

    pub tail_turn : at + k ≤ end → zeros k at ≡ true → zeros (end - at) at ≡ zeros (end - (at + k)) (at + k)
    tail_turn h z = tail_next h ∙ rw z

    pub tail_stop : at + k ≤ end → zeros k at ≡ false → zeros (end - at) at ≡ false
    tail_stop h z = tail_next h ∙ rw z

    -- the last k are zero, and the rest is among them
    pub tail_end : k ≤ end → end - k ≤ at → at ≤ end → zeros k (end - k) ≡ true → zeros (end - at) at ≡ true
    tail_end h l m z =
        let j : ℕ = at - (end - k) in
        let e : k ≡ j + (end - at) = omega arith in
        let f : end - k + j ≡ at = omega arith in
        let w : zeros (j + (end - at)) (end - k) ≡ true = ap (λ (n : ℕ). zeros n (end - k)) (sym e) ∙ z in
        ap (zeros (end - at)) (sym f) ∙ second (zeros j (end - k)) (zeros (end - at) (end - k + j)) (sym (zeros-add j (end - at) (end - k)) ∙ w)

    -- they are not zero
    pub tail_short : k ≤ end → at ≤ end - k → zeros k (end - k) ≡ false → zeros (end - at) at ≡ false
    tail_short h l z =
        let j : ℕ = end - k - at in
        let e : end - at ≡ j + k = omega arith in
        let f : at + j ≡ end - k = omega arith in
        ap (λ (n : ℕ). zeros n at) e ∙ zeros-add j k at ∙ ap (λ (o : ℕ). zeros j at && zeros k o) f ∙ rw z (and-false (zeros j at))

-- ---- a part of s cut into blocks of n

-- the block at place i
chunk_at : (n k i : ℕ) (xs : List ℕ) (d : List ℕ) → i < k → get_or (first_chunks n k xs) i d ≡ take n (drop (i * n) xs)
chunk_at n zero i xs d h = absurd (omega arith)
chunk_at n (suc k) zero xs d h = let e : 0 * n ≡ 0 = omega (arith, zero-mul n) in rw e
chunk_at n (suc k) (suc i) xs d h =
    let e : n + i * n ≡ suc i * n = omega (arith, suc-mul i n) in
    chunk_at n k i (drop n xs) d (omega arith) ∙ ap (take n) (drop-drop (i * n) n xs ∙ ap (λ (j : ℕ). drop j xs) e)

module _ (s : List ℕ) (from len n : ℕ) (p : 0 < n) (h : from + len ≤ length s) where
  part_long : length (take len (drop from s)) ≡ len
  part_long = length-take-le len (drop from s) (rw (length-drop from s) (omega arith))

  -- the whole blocks end less than n bytes before the part does
  pub whole_blocks : (i : ℕ) → i ≡ length (take len (drop from s)) / n → (i * n ≤ len) × (len < i * n + n)
  whole_blocks i e =
      let f : i ≡ len / n = e ∙ ap (λ (m : ℕ). m / n) part_long in
      let g : i * n ≡ len / n * n = ap (λ (m : ℕ). m * n) f in
      omega (arith, g, div-add-mod' len n, mod_below len n p)

  block_within : (i : ℕ) → i < length (take len (drop from s)) / n → i * n + n ≤ len
  block_within i l =
      let b = whole_blocks (length (take len (drop from s)) / n) refl in
      let up : suc i ≤ length (take len (drop from s)) / n = omega arith in
      omega (arith, b.0, suc-mul i n, mul-le-mul_right n up)

  block_bytes : (i : ℕ) (d block : List ℕ) → i < length (take len (drop from s)) / n →
      block ≡ get_or (first_chunks n (length (take len (drop from s)) / n) (take len (drop from s))) i d → all_zero (take n block) ≡ zeros s n (from + i * n)
  block_bytes i d block l e =
      let m : ℕ = len - i * n in
      let f : len ≡ i * n + m = omega (arith, block_within i l) in
      let g : n ≤ m = omega (arith, block_within i l) in
      let ys : List ℕ = drop (i * n) (drop from s) in
      let c : drop (i * n) (take len (drop from s)) ≡ take m ys = ap (λ (x : ℕ). drop (i * n) (take x (drop from s))) f ∙ drop-take (i * n) m (drop from s) in
      ap (λ (b : List ℕ). all_zero (take n b)) (e ∙ chunk_at n _ i _ d l ∙ ap (take n) c ∙ take-take n m ys g)
      ∙ ap all_zero (take-take n n ys (omega arith) ∙ ap (take n) (drop-drop (i * n) from s))

  -- the block of a turn over bs, the blocks of the part
  pub block_turn : (bs : List (List ℕ)) (i : ℕ) (d block : List ℕ) → length bs ≡ length (take len (drop from s)) / n →
      bs ≡ first_chunks n (length (take len (drop from s)) / n) (take len (drop from s)) → i < length bs → block ≡ get_or bs i d →
      (i * n + n ≤ len) × (all_zero (take n block) ≡ zeros s n (from + i * n))
  block_turn bs i d block e f l b =
      let j : i < length (take len (drop from s)) / n = omega (arith, e) in
      (block_within i j, block_bytes i d block j (b ∙ ap (λ (xs : List (List ℕ)). get_or xs i d) f))
