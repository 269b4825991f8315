-- Bytes written over zeros, and the low-order one first.
use Rattle.std.proofs.Common.{◌≡◌, ℕ, zero, suc, ◌+◌, ◌/◌, List, ◌++◌, length, replicate, sym, refl, ap, ◌∙◌, append_assoc, append-nil, zero-add, arith, length-append, take_all, drop_at}
use lib.ListN.{length-replicate, replicate-append-replicate}
use lib.Seq.{drop-drop, paste}
use borrow.Rule.Slice.PartMut.{put_mid}
use Rattle.std.specs.Int.{bytes_low_first}
use Rattle.octets.proofs.Bytes.{byte_above}
use Rattle.octets.specs.Patch.{patch}
use Rattle.octets.proofs.PatchLaws.{patch-patch}
use Rattle.md5_digest.specs.declared.Registers.{Registers}
use Rattle.md5_digest.specs.Md5.{low_first, digest}

-- x, copied over zeros
pub over_zeros : (size : ℕ) (x : List ℕ) (k z : ℕ) → length x ≡ k → k + z ≡ size → paste (replicate size 0) 0 x k ≡ x ++ replicate z 0
over_zeros size x k z e f =
    let all : replicate {A = ℕ} size 0 ≡ replicate k 0 ++ replicate z 0 = rw (← f) (sym (replicate-append-replicate {A = ℕ} k z 0)) in
    rw (take_all k x (omega arith), zero-add k, all) (rw (drop_at (replicate {A = ℕ} k 0) (replicate z 0) k (length-replicate {A = ℕ} k 0)))

pub length_low_first : (k v : ℕ) → length (low_first k v) ≡ k
unfolding low_first
length_low_first zero v = refl
length_low_first (suc k) v = ap suc (length_low_first k (v / 256))

-- as std has them
shift : (i k v : ℕ) → bytes_low_first (suc i) k v ≡ bytes_low_first i k (v / 256)
shift i zero v = refl
shift i (suc k) v = rw (byte_above i v, shift (suc i) k v)

pub low_first-is : (k v : ℕ) → bytes_low_first 0 k v ≡ low_first k v
unfolding low_first
low_first-is zero v = refl
low_first-is (suc k) v = rw (shift 0 k v, low_first-is k (v / 256))

-- four words, written end to end
pub digest-written : (r : Registers) →
    patch (patch (patch (patch (replicate 16 0) 0 4 (low_first 4 r.a)) 4 4 (low_first 4 r.b)) 8 4 (low_first 4 r.c)) 12 4 (low_first 4 r.d)
    ≡ digest r
unfolding digest
digest-written r =
    let d : List ℕ = replicate 16 0 in
    let a : List ℕ = low_first 4 r.a in
    let b : List ℕ = low_first 4 r.b in
    let c : List ℕ = low_first 4 r.c in
    let e : List ℕ = low_first 4 r.d in
    let two : length (a ++ b) ≡ 8 = omega (arith, length-append a b, length_low_first 4 r.a, length_low_first 4 r.b) in
    let three : length ((a ++ b) ++ c) ≡ 12 = omega (arith, length-append (a ++ b) c, length_low_first 4 r.c) in
    rw (patch-patch d 0 4 4 a b (omega arith) (length_low_first 4 r.a), patch-patch d 0 8 4 (a ++ b) c (omega arith) two, patch-patch d 0 12 4 ((a ++ b) ++ c) e (omega arith) three)
    (append-nil _ ∙ append_assoc (a ++ b) c e ∙ append_assoc a b (c ++ e))

pub digest-copied : (r : Registers) (a b c d : List ℕ)
    → a ≡ bytes_low_first 0 4 r.a → b ≡ bytes_low_first 0 4 r.b → c ≡ bytes_low_first 0 4 r.c → d ≡ bytes_low_first 0 4 r.d
    → put_mid 12 4 (put_mid 8 4 (put_mid 4 4 (put_mid 0 4 (replicate 16 0) a) b) c) d ≡ digest r
digest-copied r a b c d e f g h =
    let first : a ≡ low_first 4 r.a = e ∙ low_first-is 4 r.a in
    let second : b ≡ low_first 4 r.b = f ∙ low_first-is 4 r.b in
    let third : c ≡ low_first 4 r.c = g ∙ low_first-is 4 r.c in
    let fourth : d ≡ low_first 4 r.d = h ∙ low_first-is 4 r.d in
    rw (first, second, third, fourth) (simp drop-drop (digest-written r))
