-- One field of a layout, among the others and in front of what follows: written and read.
--     put_field                  a field written where it stands is its value replaced
--     read_field                 a field that fits is read where it stands
use Prim.Native.Nat.{ℕ, zero, suc, ◌+◌, ◌^◌, ◌≤◌, ◌<◌}
use mathlib.Core.Path.{◌≡◌, refl, sym, ap, ◌∙◌}
use mathlib.Core.List.{List, [], ◌∷◌, ◌++◌, append_assoc}
use native.Mathlib.Nat.{add_assoc}
use native.Mathlib.Omega.{arith}
use lib.ListN.{length, get_or, set, take, length-append}
use lib.Seq.{get_or-append-add, take-append-add, drop-append-add}
use Rattle.octets.specs.Octets.{be, put}
use Rattle.octets.specs.Fields.{total}
use Rattle.octets.specs.Patch.{patch, digits, fields, Same}
use Rattle.octets.proofs.Laws.{be-agree, be-put}
use Rattle.octets.proofs.PatchLaws.{length_digits, length_fields, patch-at, put-patch}

-- ---- behind the first bytes

be-behind : (k : ℕ) (p d : List ℕ) (n at : ℕ) → length p ≡ n → be k (p ++ d) (n + at) ≡ be k d at
be-behind k p d n at e =
    be-agree k (p ++ d) d (n + at) at (λ i h. rw (← e, add_assoc (length p) at i) (get_or-append-add p d (at + i) 0))

patch-behind : (p d : List ℕ) (n at k : ℕ) (r : List ℕ) → length p ≡ n → patch (p ++ d) (n + at) k r ≡ p ++ patch d at k r
patch-behind p d n at k r e =
    rw (← e, add_assoc (length p) at k, take-append-add p d at, drop-append-add p d (at + k)) (append_assoc p (take at d) _)

put-behind : (k : ℕ) (p d : List ℕ) (n at v : ℕ) → length p ≡ n → at + k ≤ length d → put k (p ++ d) (n + at) v ≡ p ++ put k d at v
put-behind k p d n at v e h =
    put-patch k (p ++ d) (n + at) v (omega (arith, length-append p d))
    ∙ patch-behind p d n at k (digits k v) e ∙ ap (λ (z : List ℕ). p ++ z) (sym (put-patch k d at v h))

-- ---- one field

-- the first field
put_first : (k w v : ℕ) (z : List ℕ) → put k (digits k w ++ z) 0 v ≡ digits k v ++ z
put_first k w v z =
    put-patch k (digits k w ++ z) 0 v (omega (arith, length-append (digits k w) z, length_digits k w))
    ∙ patch-at [] (digits k w) z 0 k (digits k v) refl (length_digits k w)

be-first : (k w : ℕ) (z : List ℕ) → w < 256 ^ k → be k (digits k w ++ z) 0 ≡ w
be-first k w z h =
    ap (λ (s : List ℕ). be k s 0) (sym (put_first k w w z))
    ∙ be-put k (digits k w ++ z) 0 w (omega (arith, length-append (digits k w) z, length_digits k w)) h

-- it ends before what follows
field_end : (ks : List ℕ) (i : ℕ) → i < length ks → total (take i ks) + get_or ks i 0 ≤ total ks
field_end [] i h = absurd (omega arith)
field_end (k ∷ ks) zero h = omega arith
field_end (k ∷ ks) (suc i) h = omega (arith, field_end ks i (omega arith))

pub put_field : (ks vs rest : List ℕ) (i v : ℕ) → i < length ks → Same ks vs →
    put (get_or ks i 0) (fields ks vs ++ rest) (total (take i ks)) v ≡ fields ks (set vs i v) ++ rest
put_field [] vs rest i v h e = absurd (omega arith)
put_field (k ∷ ks) [] rest i v h e = absurd e
put_field (k ∷ ks) (w ∷ vs) rest zero v h e =
    rw (append_assoc (digits k w) (fields ks vs) rest, append_assoc (digits k v) (fields ks vs) rest) (put_first k w v (fields ks vs ++ rest))
put_field (k ∷ ks) (w ∷ vs) rest (suc i) v h e =
    let z : List ℕ = fields ks vs ++ rest in
    let l : total (take i ks) + get_or ks i 0 ≤ length z =
    omega (arith, length-append (fields ks vs) rest, length_fields ks vs e, field_end ks i (omega arith)) in
    rw (append_assoc (digits k w) (fields ks vs) rest, append_assoc (digits k w) (fields ks (set vs i v)) rest)
    (put-behind (get_or ks i 0) (digits k w) z k (total (take i ks)) v (length_digits k w) l
    ∙ ap (λ (y : List ℕ). digits k w ++ y) (put_field ks vs rest i v (omega arith) e))

pub read_field : (ks vs rest : List ℕ) (i : ℕ) → i < length ks → Same ks vs → get_or vs i 0 < 256 ^ get_or ks i 0 →
    be (get_or ks i 0) (fields ks vs ++ rest) (total (take i ks)) ≡ get_or vs i 0
read_field [] vs rest i h e f = absurd (omega arith)
read_field (k ∷ ks) [] rest i h e f = absurd e
read_field (k ∷ ks) (w ∷ vs) rest zero h e f = rw (append_assoc (digits k w) (fields ks vs) rest) (be-first k w (fields ks vs ++ rest) f)
read_field (k ∷ ks) (w ∷ vs) rest (suc i) h e f =
    rw (append_assoc (digits k w) (fields ks vs) rest)
    (be-behind (get_or ks i 0) (digits k w) (fields ks vs ++ rest) k (total (take i ks)) (length_digits k w)
    ∙ read_field ks vs rest i (omega arith) e f)
