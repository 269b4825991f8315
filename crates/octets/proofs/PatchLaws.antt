-- Laws of `patch`, `digits` and `fields`.
--     take-patch, drop-patch, length-patch      what a patch leaves as it was
--     patch-nil, set-patch, patch-patch         a patch of none, of one, and two end to end
--     patch-behind, patch-at                    a patch of a list that is given in parts
--     paste_up, paste_down                      parts moved up and down, and what they left written over
--     length_digits, length_fields              as wide as they should be
--     put-patch, puts-patch                     a write of a number, or of fields, is a patch
use Prim.Native.Nat.{ℕ, zero, suc, ◌+◌, ◌/◌, ◌%◌, ◌≤◌, ◌<◌}
use mathlib.Core.Path.{◌≡◌, refl, sym, ap, ◌∙◌}
use mathlib.Core.List.{List, [], ◌∷◌, ◌++◌, append_assoc}
use native.Mathlib.Nat.{add-zero, add-suc, add_assoc}
use native.Mathlib.Omega.{arith}
use lib.ListN.{length, take, drop, set, length-append, length-drop, length-set, take-append-drop}
use lib.Seq.{take_at, drop_at, drop-drop, take-take, take-append-le, take-set-le, drop-cons, drop-set-lt, set_split, length-take-le, get_or-set_same, paste}
use Rattle.octets.specs.Octets.{put}
use Rattle.octets.specs.Fields.{puts, total}
use Rattle.octets.specs.Patch.{patch, digits, fields, Same}
use Rattle.octets.proofs.Laws.{length-put}

-- ---- laws of patches

module _ {A : Type 0} where
  -- up to the end of the part, and from there on
  module _ (d : List A) (at k : ℕ) (r : List A) (h : at ≤ length d) (e : length r ≡ k) where
    patched : length (take at d ++ r) ≡ at + k
    patched = rw (length-append (take at d) r, length-take-le at d h, e)

    pub take-patch : take (at + k) (patch d at k r) ≡ take at d ++ r
    take-patch = rw (← append_assoc (take at d) r (drop (at + k) d)) (take_at (take at d ++ r) (drop (at + k) d) (at + k) patched)

    pub drop-patch : drop (at + k) (patch d at k r) ≡ drop (at + k) d
    drop-patch = rw (← append_assoc (take at d) r (drop (at + k) d)) (drop_at (take at d ++ r) (drop (at + k) d) (at + k) patched)

  pub length-patch : (d : List A) (at k : ℕ) (r : List A) → at + k ≤ length d → length r ≡ k → length (patch d at k r) ≡ length d
  length-patch d at k r h e =
      omega (arith, length-append (take at d) (r ++ drop (at + k) d), length-append r (drop (at + k) d), length-take-le at d (omega arith), length-drop (at + k) d)

  pub patch-patch : (d : List A) (at k m : ℕ) (a b : List A) → at + k ≤ length d → length a ≡ k →
      patch (patch d at k a) (at + k) m b ≡ patch d at (k + m) (a ++ b)
  patch-patch d at k m a b h e =
      let p : List A = patch d at k a in
      let x : take (at + k) p ≡ take at d ++ a = take-patch d at k a (omega arith) e in
      let y : drop (at + k + m) p ≡ drop (at + (k + m)) d =
      sym (drop-drop m (at + k) p) ∙ ap (drop m) (drop-patch d at k a (omega arith) e) ∙ drop-drop m (at + k) d
      ∙ ap (λ (i : ℕ). drop i d) (add_assoc at k m) in
      rw (x, y) (append_assoc (take at d) a (b ++ drop (at + (k + m)) d) ∙ ap (λ (z : List A). take at d ++ z) (sym (append_assoc a b (drop (at + (k + m)) d))))

  pub patch-nil : (d : List A) (at : ℕ) → d ≡ patch d at 0 []
  patch-nil d at = rw (add-zero at) (sym (take-append-drop at d))

  pub set-patch : (d : List A) (i : ℕ) (x : A) → i < length d → set d i x ≡ patch d i 1 (x ∷ [])
  set-patch d i x h = let e : i + 1 ≡ suc i = omega arith in rw e (set_split d i x h)

  pub patch-behind : (p d : List A) (at k : ℕ) (r : List A) → length p ≡ at → patch (p ++ d) at k r ≡ p ++ (r ++ drop k d)
  patch-behind p d at k r e = rw (take_at p d at e, ← drop-drop k at (p ++ d), drop_at p d at e)

  pub patch-at : (p q z : List A) (at k : ℕ) (r : List A) → length p ≡ at → length q ≡ k → patch (p ++ (q ++ z)) at k r ≡ p ++ (r ++ z)
  patch-at p q z at k r e f = rw (patch-behind p (q ++ z) at k r e, drop_at q z k f)

  -- q moves up by k, and r is written where it was
  pub paste_up : (p q z : List A) (at m k : ℕ) (r : List A) → length p ≡ at → length q ≡ m → k ≤ length z →
      patch (paste (p ++ (q ++ z)) (at + k) (drop at (p ++ (q ++ z))) m) at k r ≡ p ++ (r ++ (q ++ drop k z))
  paste_up p q z at m k r e f h =
      let t : List A = p ++ (q ++ z) in
      let n : at + k ≤ length t = omega (arith, length-append p (q ++ z), length-append q z) in
      let front : List A = take (at + k) t in
      let moved : take m (drop at t) ≡ q = rw (drop_at p (q ++ z) at e) (take_at q z m f) in
      let o : at + k + m ≡ at + (m + k) = omega arith in
      let rest : drop (at + k + m) t ≡ drop k z =
      rw (o, ← drop-drop (m + k) at t, drop_at p (q ++ z) at e, ← drop-drop k m (q ++ z), drop_at q z m f) in
      let whole : paste t (at + k) (drop at t) m ≡ front ++ (q ++ drop k z) = rw (moved, rest) (append_assoc front q (drop k z)) in
      let wide : length front ≡ at + k = length-take-le (at + k) t n in
      let first : take at (front ++ (q ++ drop k z)) ≡ p =
      take-append-le at front (q ++ drop k z) (omega arith) ∙ take-take at (at + k) t (omega arith) ∙ take_at p (q ++ z) at e in
      rw (whole, first, drop_at front (q ++ drop k z) (at + k) wide)

  -- q moves down over s, and r is written behind it
  pub paste_down : (p s q z : List A) (at k m : ℕ) (r : List A) → length p ≡ at → length s ≡ k → length q ≡ m →
      patch (paste (p ++ (s ++ (q ++ z))) at (drop (at + k) (p ++ (s ++ (q ++ z)))) m) (at + m) k r ≡ p ++ (q ++ (r ++ z))
  paste_down p s q z at k m r e f g =
      let u : List A = s ++ (q ++ z) in
      let t : List A = p ++ u in
      let moved : take m (drop (at + k) t) ≡ q =
      rw (← drop-drop k at t, drop_at p u at e, drop_at s (q ++ z) k f) (take_at q z m g) in
      let rest : drop (at + m) t ≡ drop m u = rw (← drop-drop m at t, drop_at p u at e) in
      let o : m + k ≡ k + m = omega arith in
      let last : drop k (drop m u) ≡ z =
      drop-drop k m u ∙ rw (o, ← drop-drop m k u, drop_at s (q ++ z) k f) (drop_at q z m g) in
      let wide : length (p ++ q) ≡ at + m = omega (arith, length-append p q) in
      rw (take_at p u at e, moved, rest)
      (patch-behind (p ++ q) (drop m u) (at + m) k r wide ∙ rw last (append_assoc p q (r ++ z)))

-- ---- laws of fields

pub length_digits : (k v : ℕ) → length (digits k v) ≡ k
unfolding digits
length_digits zero v = refl
length_digits (suc k) v = omega (arith, length-append (digits k (v / 256)) (v % 256 ∷ []), length_digits k (v / 256))

pub put-patch : (k : ℕ) (s : List ℕ) (at v : ℕ) → at + k ≤ length s → put k s at v ≡ patch s at k (digits k v)
unfolding put digits
put-patch zero s at v h = patch-nil s at
put-patch (suc k) s at v h =
    let w : List ℕ = set s (at + k) (v % 256) in
    let n : length w ≡ length s = length-set s (at + k) (v % 256) in
    let x : take at w ≡ take at s = take-set-le at s (at + k) (v % 256) (omega arith) in
    let y : drop (at + k) w ≡ v % 256 ∷ drop (at + suc k) s =
    drop-cons w (at + k) 0 (omega arith)
    ∙ rw (get_or-set_same s (at + k) (v % 256) 0 (omega arith), drop-set-lt (suc (at + k)) s (at + k) (v % 256) (omega arith), add-suc at k) in
    put-patch k w at (v / 256) (omega arith) ∙ rw (x, y) (ap (λ (z : List ℕ). take at s ++ z) (sym (append_assoc (digits k (v / 256)) (v % 256 ∷ []) (drop (at + suc k) s))))

pub length_fields : (ks vs : List ℕ) → Same ks vs → length (fields ks vs) ≡ total ks
length_fields [] [] e = refl
length_fields [] (v ∷ vs) e = absurd e
length_fields (k ∷ ks) [] e = absurd e
length_fields (k ∷ ks) (v ∷ vs) e = omega (arith, length-append (digits k v) (fields ks vs), length_digits k v, length_fields ks vs e)

pub puts-patch : (ks vs s : List ℕ) (at o : ℕ) → at + o + total ks ≤ length s → Same ks vs → puts ks vs s at o ≡ patch s (at + o) (total ks) (fields ks vs)
puts-patch [] [] s at o h e = patch-nil s (at + o)
puts-patch [] (v ∷ vs) s at o h e = absurd e
puts-patch (k ∷ ks) [] s at o h e = absurd e
puts-patch (k ∷ ks) (v ∷ vs) s at o h e =
    let w : List ℕ = put k s (at + o) v in
    let n : length w ≡ length s = length-put k s (at + o) v in
    puts-patch ks vs w at (o + k) (omega arith) e
    ∙ rw (put-patch k s (at + o) v (omega arith), ← add_assoc at o k) (patch-patch s (at + o) k (total ks) (digits k v) (fields ks vs) (omega arith) (length_digits k v))
