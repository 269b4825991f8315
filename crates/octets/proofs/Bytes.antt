-- Numbers as std has their bytes, and a part of a slice that is written.
--     read_16, read_32, read_64     the number of bytes that were read
--     high_first-digits             the bytes of a number, the highest first
--     byte_above                    a byte of it
--     mid-patch, write              a part that is written, and a write of a number's bytes
use mathlib.Core.Path.{◌≡◌, refl, sym, ap, ◌∙◌}
use mathlib.Core.List.{List, [], ◌∷◌, ◌++◌}
use Prim.Native.Nat.{ℕ, zero, suc, ◌+◌, ◌/◌, ◌%◌, ◌^◌, ◌≤◌}
use native.Mathlib.Nat.{add-zero, div-div-eq-div-mul, pow-succ'}
use native.Mathlib.Omega.{arith}
use lib.ListN.{length, take, drop}
use lib.Seq.{drop-drop}
use borrow.Rule.Slice.PartMut.{put_mid}
use mir.Syntax.{w16, w32, w64}
use Rattle.std.specs.Int.{byte_at, bytes_high_first, from_be_bytes}
use Rattle.octets.specs.Octets.{be, put}
use Rattle.octets.specs.Patch.{patch, digits}
use Rattle.octets.proofs.Laws.{be-part}
use Rattle.octets.proofs.PatchLaws.{put-patch}

-- the number that std makes of bytes
sum_16 : (b : List ℕ) → from_be_bytes w16 b ≡ be 2 b 0
unfolding be
sum_16 b = omega arith

sum_32 : (b : List ℕ) → from_be_bytes w32 b ≡ be 4 b 0
unfolding be
sum_32 b = omega arith

sum_64 : (b : List ℕ) → from_be_bytes w64 b ≡ be 8 b 0
unfolding be
sum_64 b = omega arith

module _ (s bytes : List ℕ) (at : ℕ) where
  be-read : (k : ℕ) → bytes ≡ take k (drop at s) → be k bytes 0 ≡ be k s at
  be-read k e = rw e (rw (add-zero at) at (be-part k k at s 0 (omega arith)))

  pub read_16 : bytes ≡ take 2 (drop at s) → from_be_bytes w16 bytes ≡ be 2 s at
  read_16 e = sum_16 bytes ∙ be-read 2 e

  pub read_32 : bytes ≡ take 4 (drop at s) → from_be_bytes w32 bytes ≡ be 4 s at
  read_32 e = sum_32 bytes ∙ be-read 4 e

  pub read_64 : bytes ≡ take 8 (drop at s) → from_be_bytes w64 bytes ≡ be 8 s at
  read_64 e = sum_64 bytes ∙ be-read 8 e

-- a byte of a number is the one below of the number without its lowest
pub byte_above : (k v : ℕ) → byte_at (suc k) v ≡ byte_at k (v / 256)
byte_above zero v = refl
byte_above (suc k) v = ap (λ (n : ℕ). n % 256) (rw (pow-succ' 256 (suc k)) (sym (div-div-eq-div-mul v 256 (256 ^ suc k))))

lowest_last : (k v : ℕ) → bytes_high_first (suc k) v ≡ bytes_high_first k (v / 256) ++ (v % 256 ∷ [])
lowest_last zero v = refl
lowest_last (suc k) v = rw (lowest_last k v, byte_above k v)

pub high_first-digits : (k v : ℕ) → bytes_high_first k v ≡ digits k v
unfolding digits
high_first-digits zero v = refl
high_first-digits (suc k) v = lowest_last k v ∙ ap (λ (b : List ℕ). b ++ (v % 256 ∷ [])) (high_first-digits k (v / 256))

pub mid-patch : (k at n : ℕ) (s r : List ℕ) → n ≡ k → put_mid at n s r ≡ patch s at k r
mid-patch k at n s r e = rw (e, drop-drop k at s)

pub write : (k : ℕ) (s bytes : List ℕ) (at n v : ℕ) → at + k ≤ length s → n ≡ k → bytes ≡ bytes_high_first k v
    → put_mid at n s bytes ≡ put k s at v
write k s bytes at n v h e f = mid-patch k at n s bytes e ∙ rw (f, high_first-digits k v) (sym (put-patch k s at v h))
