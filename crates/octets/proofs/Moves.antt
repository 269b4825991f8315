-- One turn of each loop that moves bytes, in the code's own form.
--     copy_turn             the next byte of another list
--     move_down_turn        the next byte of the list itself, which is not written yet
--     move_up_turn          the same from the other end
use mathlib.Core.Path.{◌≡◌, ◌∙◌}
use mathlib.Core.List.{List, ◌++◌, append_assoc}
use Prim.Native.Nat.{ℕ, suc, ◌+◌, ◌-◌, ◌≤◌, ◌<◌}
use native.Mathlib.Numerals.{add-one}
use native.Mathlib.Omega.{arith}
use lib.ListN.{length, get_or, set, take, drop, length-drop, get_or-append}
use lib.Seq.{set_at, take-suc, drop-cons, paste-suc, get_or-take, get_or-drop, get_or-append-add, paste, length_paste_head, length-take-le}

-- a list with a part pasted in, before that part and behind it
module _ (d : List ℕ) (at : ℕ) (s : List ℕ) (n : ℕ) (hd : at + n ≤ length d) (hs : n ≤ length s) where
  paste-head : length (take at d ++ take n s) ≡ at + n
  paste-head = length_paste_head d at s n (omega arith) hs

  get_or-paste-before : (k : ℕ) → k < at → get_or (paste d at s n) k 0 ≡ get_or d k 0
  get_or-paste-before k h =
      get_or-append (take at d ++ take n s) (drop (at + n) d) 0 k (rw paste-head (omega arith))
      ∙ get_or-append (take at d) (take n s) 0 k (rw (length-take-le at d (omega arith)) h)
      ∙ get_or-take at d k 0 h

  get_or-paste-after : (k : ℕ) → at + n ≤ k → get_or (paste d at s n) k 0 ≡ get_or d k 0
  get_or-paste-after k h =
      let e : at + n + (k - (at + n)) ≡ k = omega arith in
      rw e at
      ((rw paste-head at (get_or-append-add (take at d ++ take n s) (drop (at + n) d) (k - (at + n)) 0))
      ∙ get_or-drop (at + n) d (k - (at + n)) 0)

pub copy_turn : (d s : List ℕ) (to from i : ℕ) → to + i < length d → from + i < length s
    → set (paste d to (drop from s) i) (to + i) (get_or s (from + i) 0) ≡ paste d to (drop from s) (i + 1)
copy_turn d s to from i h l =
    rw (add-one, ← get_or-drop from s i 0) (paste-suc d to (drop from s) i 0 h (simp length-drop (omega arith)))

pub move_down_turn : (d : List ℕ) (to from i : ℕ) → to ≤ from → from + i < length d
    → set (paste d to (drop from d) i) (to + i) (get_or (paste d to (drop from d) i) (from + i) 0) ≡ paste d to (drop from d) (i + 1)
move_down_turn d to from i h l =
    rw (get_or-paste-after d to (drop from d) i (omega arith) (simp length-drop (omega arith)) (from + i) (omega arith))
    (copy_turn d d to from i (omega arith) l)

paste_down : (d : List ℕ) (p f m : ℕ) → p < length d → f < length d
    → set (paste d (suc p) (drop (suc f) d) m) p (get_or d f 0) ≡ paste d p (drop f d) (suc m)
paste_down d p f m hp hf =
    let ep : suc p + m ≡ p + suc m = omega arith in
    rw (take-suc d p 0, drop-cons d f 0, ep)
    (simp append_assoc
    (set_at (take p d) (get_or d p 0) (take m (drop (suc f) d) ++ drop (p + suc m) d) (get_or d f 0) p (length-take-le p d (omega arith))))

pub move_up_turn : (d : List ℕ) (to from n i : ℕ) → from ≤ to → to + n ≤ length d → 0 < i → i ≤ n
    → set (paste d (to + i) (drop (from + i) d) (n - i)) (to + (i - 1)) (get_or (paste d (to + i) (drop (from + i) d) (n - i)) (from + (i - 1)) 0)
    ≡ paste d (to + (i - 1)) (drop (from + (i - 1)) d) (n - (i - 1))
move_up_turn d to from n i h l hi hn =
    let et : to + i ≡ suc (to + (i - 1)) = omega arith in
    let ef : from + i ≡ suc (from + (i - 1)) = omega arith in
    let en : n - (i - 1) ≡ suc (n - i) = omega arith in
    let hl : n - i ≤ length (drop (from + i) d) = simp length-drop (omega arith) in
    rw (get_or-paste-before d (to + i) (drop (from + i) d) (n - i) (omega arith) hl (from + (i - 1)) (omega arith), et, ef, en)
    (paste_down d (to + (i - 1)) (from + (i - 1)) (n - i) (omega arith) (omega arith))
