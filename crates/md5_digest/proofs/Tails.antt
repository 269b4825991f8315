-- A padded message is the message's whole blocks, and one block or two behind them.
--     tail_built        what the code writes into 128 zeros is the end of the padded message
--     digested          the digest of the padded message, by both
use Rattle.std.proofs.Common.{◌≡◌, ℕ, suc, ◌+◌, ◌-◌, ◌*◌, ◌/◌, ◌%◌, List, ◌∷◌, ◌++◌, length, drop, set, replicate, sym, ap, ◌∙◌, append_assoc, zero-add, arith, length-append, length-drop, get_or-drop}
use lib.ListN.{length-replicate, replicate-append-replicate, get_or-append}
use lib.Seq.{set_at, drop-append-le, paste}
use Rattle.octets.specs.Patch.{patch}
use Rattle.octets.proofs.PatchLaws.{patch-at}
use Rattle.md5_digest.specs.Md5.{low_first, zeros, padding, bit_length, padded, initial, blocks, digest, md5_of}
use Rattle.md5_digest.specs.Tail.{behind, tail_of}
use Rattle.md5_digest.proofs.Writing.{over_zeros, length_low_first}
use Rattle.md5_digest.proofs.Agreement.{Alike, blocks_split}

-- x, the byte 0x80, z zeros and l, written into zeros
written : (size : ℕ) (x l : List ℕ) (rest z end k : ℕ) → length x ≡ rest → length l ≡ 8 → end ≡ rest + 1 + z → end + 8 + k ≡ size
    → patch (set (paste (replicate size 0) 0 x rest) rest 0x80) end 8 l ≡ (x ++ ((0x80 ∷ replicate z 0) ++ l)) ++ replicate k 0
written size x l rest z end k e h f g =
    let back : List ℕ = replicate z 0 ++ (replicate 8 0 ++ replicate k 0) in
    let parts : replicate (z + (8 + k)) 0 ≡ back =
    sym (ap (λ (y : List ℕ). replicate z 0 ++ y) (replicate-append-replicate {A = ℕ} 8 k 0) ∙ replicate-append-replicate {A = ℕ} z (8 + k) 0) in
    let pasted : paste (replicate size 0) 0 x rest ≡ x ++ (0 ∷ back) =
    over_zeros size x rest (suc (z + (8 + k))) e (omega arith) ∙ ap (λ (y : List ℕ). x ++ (0 ∷ y)) parts in
    let front : List ℕ = x ++ (0x80 ∷ replicate z 0) in
    let marked : set (x ++ (0 ∷ back)) rest 0x80 ≡ front ++ (replicate 8 0 ++ replicate k 0) =
    set_at x 0 back 0x80 rest e ∙ sym (append_assoc x (0x80 ∷ replicate z 0) (replicate 8 0 ++ replicate k 0)) in
    let wide : length front ≡ end = omega (arith, length-append x (0x80 ∷ replicate z 0), length-replicate {A = ℕ} z 0) in
    ap (λ (y : List ℕ). patch (set y rest 0x80) end 8 l) pasted
    ∙ ap (λ (y : List ℕ). patch y end 8 l) marked
    ∙ patch-at front (replicate 8 0) (replicate k 0) end 8 l wide (length-replicate {A = ℕ} 8 0)
    ∙ sym (append_assoc front l (replicate k 0))
    ∙ ap (λ (y : List ℕ). y ++ replicate k 0) (append_assoc x (0x80 ∷ replicate z 0) l)

-- how long a padded message is: its whole blocks, and those that the rest takes
module _ (m : List ℕ) where
  length-padded : length (padded m) ≡ (length m / 64 + (length m % 64 + 72) / 64) * 64
  unfolding padded
  length-padded =
      let n : ℕ = length m in
      omega (
        arith,
        length-append m (padding n ++ low_first 8 (bit_length n)),
        length-append (padding n) (low_first 8 (bit_length n)),
        length-replicate {A = ℕ} (zeros n) 0,
        length_low_first 8 (bit_length n),
      )

  length-behind : length (behind m) ≡ (length m % 64 + 72) / 64 * 64
  length-behind = omega (arith, length-drop (length m / 64 * 64) (padded m), length-padded)

  -- what the code writes is what follows the whole blocks
  pub tail_built : (rest end : ℕ) → rest ≡ length m % 64 → end ≡ (rest + 72) / 64 * 64 - 8
      → patch (set (paste (replicate 128 0) 0 (drop (length m - rest) m) rest) rest 0x80) end 8 (low_first 8 (bit_length (length m))) ≡ tail_of m
  unfolding tail_of padded
  tail_built rest end e f =
      let n : ℕ = length m in
      let l : List ℕ = low_first 8 (bit_length n) in
      let k : ℕ = 128 - length (behind m) in
      let o : n - rest ≡ n / 64 * 64 = omega arith in
      rw o
      (written 128 (drop (n / 64 * 64) m) l rest (zeros n) end k (omega (arith, length-drop (n / 64 * 64) m)) (length_low_first 8 (bit_length n))
      (omega arith) (omega (arith, length-behind))
      ∙ ap (λ (y : List ℕ). y ++ replicate k 0) (sym (drop-append-le (n / 64 * 64) m (padding n ++ l) (omega arith))))

  front : Alike (padded m) 0 m 0 (length m / 64 * 64)
  unfolding padded
  front i h = get_or-append m _ 0 (0 + i) (omega arith)

  back : Alike (padded m) (length m / 64 * 64) (tail_of m) 0 ((length m % 64 + 72) / 64 * 64)
  unfolding tail_of
  back i h =
      sym (get_or-drop (length m / 64 * 64) (padded m) i 0)
      ∙ rw (zero-add i) (sym (get_or-append (behind m) _ 0 i (omega (arith, length-behind))))

  pub digested : digest (blocks (tail_of m) ((length m % 64 + 72) / 64) (blocks m (length m / 64) initial)) ≡ md5_of m
  unfolding md5_of
  digested =
      let q : ℕ = length m / 64 in
      let k : ℕ = (length m % 64 + 72) / 64 in
      let e : length (padded m) / 64 ≡ q + k = omega (arith, length-padded) in
      rw e (ap digest (sym (blocks_split (padded m) m (tail_of m) q k initial front back)))
