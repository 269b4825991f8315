-- Refused or not.
--     unrefused         a key that is not refused is not longer than the stated size
--     turned_away_lem       a refusal is its number and zeros
--     taken_in          else it is the hash
use Prim.Native.Nat.{ℕ, ◌≤◌}
use mathlib.Core.Bool.{Bool, true, false, cond}
use mathlib.Core.List.{List}
use mathlib.Core.Path.{◌≡◌, refl, sym, ap, ◌∙◌}
use native.Mathlib.Omega.{arith}
use borrow.Author.Tests.{ltb-false, eq-eqb, ne_eqb}
use lib.Dec.{ltb}
use lib.ListN.{length}
use Rattle.key_hash.specs.KeyHash.{largest_stated, refusal, padded_or_hashed, accepted, refused, key_hash_of}

untested : (a b : Bool) → ◌≡◌ {A = ℕ} (cond a 15 (cond b 14 0)) 0 → b ≡ false
untested true b e = absurd (omega arith)
untested false true e = absurd (omega arith)
untested false false e = refl

pub unrefused : (key : List ℕ) (largest : ℕ) → refusal key largest ≡ 0 → length key ≤ largest
unfolding refusal
unrefused key largest e = ltb-false largest (length key) (untested (ltb largest_stated largest) (ltb largest (length key)) e)

module _ (key : List ℕ) (largest number : ℕ) (e : number ≡ refusal key largest) where
  pub turned_away_lem : (number ≡ 0 → ⊥) → refused number ≡ key_hash_of key largest
  unfolding key_hash_of
  turned_away_lem n = rw (ne_eqb (refusal key largest) 0 (λ z. n (e ∙ z))) (ap refused e)

  pub taken_in : (hash : List ℕ) → number ≡ 0 → hash ≡ padded_or_hashed key largest → accepted hash ≡ key_hash_of key largest
  unfolding key_hash_of
  taken_in hash z h = rw (eq-eqb (refusal key largest) 0 (sym e ∙ z)) (ap accepted h)
