-- Laws of numbers that are read from bytes.
--     be-lt                  numbers and fields that are read fit their widths
--     put-be, puts-reads     writing what is there changes nothing
use mathlib.Core.Path.{◌≡◌, refl}
use mathlib.Core.List.{List, [], ◌∷◌}
use Prim.Native.Nat.{ℕ, zero, suc, ◌+◌, ◌*◌, ◌/◌, ◌%◌, ◌^◌, ◌<◌}
use native.Mathlib.Nat.{pow-suc}
use native.Mathlib.Omega.{arith}
use lib.ListN.{get_or}
use lib.Seq.{set-get_or}
use Rattle.octets.specs.Octets.{be, put}
use Rattle.octets.specs.Bounds.{Bytes}
use Rattle.octets.specs.Fields.{reads, puts}

pub be-lt : (k : ℕ) (s : List ℕ) (at : ℕ) → Bytes s → be k s at < 256 ^ k
unfolding be
be-lt zero s at h = omega arith
be-lt (suc k) s at h = rw pow-suc (omega (arith, be-lt k s at h, h (at + k)))

pub put-be : (k : ℕ) (s : List ℕ) (at : ℕ) → Bytes s → put k s at (be k s at) ≡ s
unfolding put be
put-be zero s at h = refl
put-be (suc k) s at h =
    let low : (be k s at * 256 + get_or s (at + k) 0) % 256 ≡ get_or s (at + k) 0 = omega (arith, h (at + k)) in
    let high : (be k s at * 256 + get_or s (at + k) 0) / 256 ≡ be k s at = omega (arith, h (at + k)) in
    rw (low, high, set-get_or s (at + k) 0) (put-be k s at h)

pub puts-reads : (ks s : List ℕ) (at o : ℕ) → Bytes s → puts ks (reads ks s at o) s at o ≡ s
puts-reads [] s at o h = refl
puts-reads (k ∷ ks) s at o h = rw (put-be k s (at + o) h) (puts-reads ks s at (o + k) h)
