-- Laws of places opened and closed, for a table that is laid out.
--     place_next, place_rest    where places lie
--     opened-lay                a place opened and written over is an insert
--     closed-lay                a place closed is the list without its record
use mathlib.Core.Path.{◌≡◌, sym, ◌∙◌}
use mathlib.Core.List.{List, ◌∷◌, ◌++◌}
use Prim.Native.Nat.{ℕ, suc, ◌+◌, ◌-◌, ◌*◌, ◌≤◌, ◌<◌}
use native.Mathlib.Nat.{suc-mul, add-mul}
use native.Mathlib.Numerals.{add-one}
use native.Mathlib.Omega.{arith}
use lib.ListN.{length, get_or, take, drop, length-drop, take-append-drop}
use lib.Seq.{length-take-le, split_at}
use Rattle.octets.specs.Lay.{lay, All}
use Rattle.octets.proofs.LayLaws.{all_take, all_drop, all-get, lay_open, lay_close}
use Rattle.octets.specs.Patch.{patch}
use Rattle.tables.specs.Gaps.{opened, closed}

pub place_next : (size i : ℕ) → (i + 1) * size ≡ i * size + size
place_next size i = rw add-one (suc-mul i size)

pub place_rest : (size i n : ℕ) → i ≤ n → i * size + (n - i) * size ≡ n * size
place_rest size i n h = let e : i + (n - i) ≡ n = omega arith in sym (add-mul i (n - i) size) ∙ rw e

module _ {A : Type 0} (row : A → List ℕ) (size : ℕ) (P : A → Type 0) (width : (x : A) → P x → length (row x) ≡ size) where
  pub opened-lay : (n : ℕ) (xs : List A) (at : ℕ) (y : A) → at ≤ length xs → All P xs → length xs * size + size ≤ n →
      patch (opened size at (length xs) (lay row size n xs)) (at * size) size (row y) ≡ lay row size n (take at xs ++ y ∷ drop at xs)
  opened-lay n xs at y h p l =
      let e : take at xs ++ drop at xs ≡ xs = take-append-drop at xs in
      rw (e, length-take-le at xs h, length-drop at xs) at
      (lay_open row size P width n (take at xs) (drop at xs) y (all_take P at xs p) (all_drop P at xs p) (rw e l))

  pub closed-lay : (n : ℕ) (xs : List A) (at : ℕ) (d : A) → at < length xs → All P xs → length xs * size ≤ n →
      closed size at (length xs) (lay row size n xs) ≡ lay row size n (take at xs ++ drop (suc at) xs)
  closed-lay n xs at d h p l =
      let e : xs ≡ take at xs ++ get_or xs at d ∷ drop (suc at) xs = split_at xs at d h in
      let y : A = get_or xs at d in
      let whole : length (take at xs ++ y ∷ drop (suc at) xs) * size ≤ n = rw (← e) l in
      let k : length xs - suc at ≡ length xs - (at + 1) = omega arith in
      let m : length xs - 1 - at ≡ length xs - (at + 1) = omega arith in
      let last : at * size + (length xs - (at + 1)) * size ≡ (length xs - 1) * size = rw m at (place_rest size at (length xs - 1) (omega arith)) in
      rw (← last)
      (rw (← e, length-take-le at xs (omega arith), length-drop (suc at) xs, k) at
      (lay_close row size P width n (take at xs) y (drop (suc at) xs) (all_take P at xs p) (all-get P xs at d h p) (all_drop P (suc at) xs p) whole))
