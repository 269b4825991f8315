-- Laws of `be` and `put`, each over the width.
--     be-step, put_step       one byte more
--     be_one                  a number of one byte
--     be_halves, be_pairs     8 bytes are twice 4, and 4 twice 2
--     be-room, room_8         it fits, up to 8 bytes in 64 bits
--     put_one                 a write of one byte
--     set-put, put_join       a byte behind a write, and two writes end to end
--     length-put              a write keeps the length
--     get_or-put-out            a byte outside of what was written is as it was
--     be-agree, be-same       a number is read from its own bytes alone
--     be-take, be-drop, be-part     so it is the same in a part of the list
--     be-put                  what was written is read back
use mathlib.Core.Path.{◌≡◌, refl, sym, ap, ◌∙◌}
use mathlib.Core.Logic.{◌⊎◌, inl, inr, ⊎_elim}
use mathlib.Core.List.{List}
use Prim.Native.Nat.{ℕ, zero, suc, ◌+◌, ◌*◌, ◌/◌, ◌%◌, ◌^◌, ◌≤◌, ◌<◌}
use native.Mathlib.Nat.{add-zero, add-suc, add_assoc, mul_assoc, pow-suc, pow-zero, pow-le-pow_right, div-lt_iff_lt-mul}
use native.Mathlib.Numerals.{add-one}
use native.Mathlib.Omega.{arith}
use lib.ListN.{length, get_or, set, take, drop, length-set}
use lib.Seq.{get_or-set_same, get_or-set_other, set_comm, get_or-take, get_or-drop}
use Rattle.octets.specs.Octets.{be, put}

pub be-step : (k : ℕ) (s : List ℕ) (at : ℕ) → be (k + 1) s at ≡ be k s at * 256 + get_or s (at + k) 0
unfolding be
be-step k s at = rw add-one

pub be_one : (s : List ℕ) (at : ℕ) → be 1 s at ≡ get_or s at 0
unfolding be
be_one s at = let z : get_or s (at + 0) 0 ≡ get_or s at 0 = ap (λ (i : ℕ). get_or s i 0) (omega arith) in omega (arith, z)

pub be_halves : (s : List ℕ) (at : ℕ) → be 8 s at ≡ be 4 s at * 4294967296 + be 4 s (at + 4)
unfolding be
be_halves s at =
    let a : get_or s (at + 4 + 1) 0 ≡ get_or s (at + 5) 0 = ap (λ (i : ℕ). get_or s i 0) (omega arith) in
    let b : get_or s (at + 4 + 2) 0 ≡ get_or s (at + 6) 0 = ap (λ (i : ℕ). get_or s i 0) (omega arith) in
    let c : get_or s (at + 4 + 3) 0 ≡ get_or s (at + 7) 0 = ap (λ (i : ℕ). get_or s i 0) (omega arith) in
    let d : get_or s (at + 4 + 0) 0 ≡ get_or s (at + 4) 0 = ap (λ (i : ℕ). get_or s i 0) (omega arith) in
    rw (a, b, c, d) (omega arith)

pub be_pairs : (s : List ℕ) (at : ℕ) → be 4 s at ≡ be 2 s at * 65536 + be 2 s (at + 2)
unfolding be
be_pairs s at =
    let a : get_or s (at + 2 + 0) 0 ≡ get_or s (at + 2) 0 = ap (λ (i : ℕ). get_or s i 0) (omega arith) in
    let b : get_or s (at + 2 + 1) 0 ≡ get_or s (at + 3) 0 = ap (λ (i : ℕ). get_or s i 0) (omega arith) in
    rw (a, b) (omega arith)

pub be-room : (k r b : ℕ) → r < 256 ^ k → b < 256 → r * 256 + b < 256 ^ (k + 1)
be-room k r b h l = rw (add-one, pow-suc) (omega arith)

quotient_lt : (k v : ℕ) → v < 256 ^ suc k → v / 256 < 256 ^ k
quotient_lt k v l = (div-lt_iff_lt-mul {k = 256} {x = v} {y = 256 ^ k} (omega arith)).1 (rw pow-suc at l)

pub room_8 : {k : ℕ} → k ≤ 8 → 256 ^ k ≤ 2 ^ 64
room_8 h = pow-le-pow_right {n = 256} (omega arith) h

pub put_step : (k : ℕ) (s : List ℕ) (at v : ℕ) → put (k + 1) s at v ≡ put k (set s (at + k) (v % 256)) at (v / 256)
unfolding put
put_step k s at v = rw add-one

pub put_one : (s : List ℕ) (at v : ℕ) → v < 256 → put 1 s at v ≡ set s at v
unfolding put
put_one s at v h =
    let d : v % 256 ≡ v = omega arith in
    rw (add-zero at, d)

pub set-put : (k : ℕ) (s : List ℕ) (at v i x : ℕ) → at + k ≤ i → set (put k s at v) i x ≡ put k (set s i x) at v
unfolding put
set-put zero s at v i x h = refl
set-put (suc k) s at v i x h =
    set-put k (set s (at + k) (v % 256)) at (v / 256) i x (omega arith)
    ∙ ap (λ (z : List ℕ). put k z at (v / 256)) (set_comm s (at + k) i (v % 256) x (λ e. omega arith))

pub put_join : (k m : ℕ) (s : List ℕ) (at a b : ℕ) → b < 256 ^ m → put m (put k s at a) (at + k) b ≡ put (k + m) s at (a * 256 ^ m + b)
unfolding put
put_join k zero s at a b l =
    let z : b < 1 = rw pow-zero at l in
    let e : a * 1 + b ≡ a = omega arith in
    rw (pow-zero, e, add-zero k)
put_join k (suc m) s at a b l =
    let p : ℕ = a * 256 ^ m in
    let t : List ℕ = set s (at + k + m) (b % 256) in
    let small : b / 256 < 256 ^ m = quotient_lt m b l in
    let w : a * 256 ^ suc m ≡ p * 256 = rw pow-suc (sym (mul_assoc a (256 ^ m) 256)) in
    let d : (p * 256 + b) % 256 ≡ b % 256 = omega arith in
    let e : (p * 256 + b) / 256 ≡ p + b / 256 = omega arith in
    rw (set-put k s at a (at + k + m) (b % 256) (omega arith), put_join k m t at a (b / 256) small, w, add-suc k m, add_assoc at k m, ← d, ← e)

pub length-put : (k : ℕ) (s : List ℕ) (at v : ℕ) → length (put k s at v) ≡ length s
unfolding put
length-put zero s at v = refl
length-put (suc k) s at v = length-put k (set s (at + k) (v % 256)) at (v / 256) ∙ length-set s (at + k) (v % 256)

pub get_or-put-out : (k : ℕ) (s : List ℕ) (at v i : ℕ) → (i < at) ⊎ (at + k ≤ i) → get_or (put k s at v) i 0 ≡ get_or s i 0
unfolding put
get_or-put-out zero s at v i h = refl
get_or-put-out (suc k) s at v i h =
    get_or-put-out k (set s (at + k) (v % 256)) at (v / 256) i (⊎_elim (λ l. inl l) (λ r. inr (omega arith)) h)
    ∙ get_or-set_other s (at + k) i (v % 256) 0 (λ e. ⊎_elim (λ l. omega arith) (λ r. omega arith) h)

pub be-agree : (k : ℕ) (s t : List ℕ) (at o : ℕ) → ((i : ℕ) → i < k → get_or s (at + i) 0 ≡ get_or t (o + i) 0) → be k s at ≡ be k t o
unfolding be
be-agree zero s t at o h = refl
be-agree (suc k) s t at o h =
    let p : be k s at ≡ be k t o = be-agree k s t at o (λ i l. h i (omega arith)) in
    let q : get_or s (at + k) 0 ≡ get_or t (o + k) 0 = h k (omega arith) in
    cc

pub be-same : (k : ℕ) (s t : List ℕ) (at : ℕ) → ((i : ℕ) → at ≤ i → i < at + k → get_or s i 0 ≡ get_or t i 0) → be k s at ≡ be k t at
be-same k s t at h = be-agree k s t at at (λ i l. h (at + i) (omega arith) (omega arith))

pub be-take : (k n : ℕ) (s : List ℕ) (o : ℕ) → o + k ≤ n → be k (take n s) o ≡ be k s o
be-take k n s o h = be-same k (take n s) s o (λ i a b. get_or-take n s i 0 (omega arith))

pub be-drop : (k at : ℕ) (s : List ℕ) (o : ℕ) → be k (drop at s) o ≡ be k s (at + o)
unfolding be
be-drop zero at s o = refl
be-drop (suc k) at s o = rw (be-drop k at s o, get_or-drop at s (o + k) 0, add_assoc at o k)

pub be-part : (k n at : ℕ) (s : List ℕ) (o : ℕ) → o + k ≤ n → be k (take n (drop at s)) o ≡ be k s (at + o)
be-part k n at s o h = be-take k n (drop at s) o h ∙ be-drop k at s o

pub be-put : (k : ℕ) (s : List ℕ) (at v : ℕ) → at + k ≤ length s → v < 256 ^ k → be k (put k s at v) at ≡ v
unfolding be put
be-put zero s at v h l = let e : v < 1 = rw pow-zero at l in omega arith
be-put (suc k) s at v h l =
    let t : List ℕ = set s (at + k) (v % 256) in
    let small : v / 256 < 256 ^ k = quotient_lt k v l in
    let high : be k (put k t at (v / 256)) at ≡ v / 256 = be-put k t at (v / 256) (omega (arith, length-set s (at + k) (v % 256))) small in
    let low : get_or (put k t at (v / 256)) (at + k) 0 ≡ v % 256 =
    get_or-put-out k t at (v / 256) (at + k) (inr (omega arith)) ∙ get_or-set_same s (at + k) (v % 256) 0 (omega arith) in
    omega (arith, high, low)
