-- Records that are tested one after the other, from the front.
--     some_row, no_row                whether p holds of some: of record i, or of none
--     each_row, not_each_row          whether it holds of all
--     place_row                       the place of the first
--     has-any, guid-test, has_here, has-nowhere     a GUID in a list of them
use Prim.Native.Nat.{ℕ, ◌*◌, ◌≤◌, ◌<◌}
use mathlib.Core.Bool.{Bool, true, false}
use mathlib.Core.List.{List, [], ◌∷◌}
use mathlib.Core.Path.{◌≡◌, refl, sym, ◌∙◌}
use native.Mathlib.Omega.{arith}
use lib.ListN.{length, get_or, take, drop}
use Rattle.model.specs.declared.Guid.{Guid}
use Rattle.model.specs.Guids.{same, guid_of, guid_at, guids_in}
use Rattle.model.specs.Layout.{read_rows}
use Rattle.model.specs.Sets.{has}
use Rattle.model.specs.Tables.{all, any}
use Rattle.model.proofs.RowLaws.{length_read, get_read}
use Rattle.model.proofs.GuidLaws.{guid-part}
use Rattle.tables.specs.Places.{place_of}
use Rattle.model.proofs.Tests.{split, clash}
use Rattle.tables.proofs.Finds.{all-at, at_all, nowhere-any, any-nowhere, place_unique}

-- record i
abbrev pub row : {A : Type 0} → (List ℕ → A) → ℕ → List ℕ → ℕ → A
row record_of size t i = record_of (take size (drop (i * size) t))

module _ {A : Type 0} (record_of : List ℕ → A) (size n : ℕ) (t : List ℕ) (p : A → Bool) where
  abbrev xs : List A
  xs = read_rows record_of size n t

  count : length xs ≡ n
  count = length_read record_of size n t

  here : (i : ℕ) (b : Bool) → i < n → p (row record_of size t i) ≡ b → p (get_or xs i (record_of [])) ≡ b
  here i b l e = rw (get_read record_of size n t i (record_of []) l) e

  pub some_row : (i : ℕ) → i < n → p (row record_of size t i) ≡ true → any p xs ≡ true
  some_row i l e =
      split (any p xs) (λ q. q)
      (λ q. clash (p (get_or xs i (record_of []))) (here i true l e) (nowhere-any p xs (record_of []) q i (omega (arith, count))))

  pub no_row : ((j : ℕ) → j < n → p (row record_of size t j) ≡ false) → any p xs ≡ false
  no_row b = any-nowhere p (record_of []) xs (λ j l. here j false (omega (arith, count)) (b j (omega (arith, count))))

  pub each_row : ((j : ℕ) → j < n → p (row record_of size t j) ≡ true) → all p xs ≡ true
  each_row b = at_all p xs (record_of []) (λ j l. here j true (omega (arith, count)) (b j (omega (arith, count))))

  pub not_each_row : (i : ℕ) → i < n → p (row record_of size t i) ≡ false → all p xs ≡ false
  not_each_row i l e =
      split (all p xs)
      (λ q. clash (p (get_or xs i (record_of []))) (all-at p xs (record_of []) q i (omega (arith, count))) (here i false l e))
      (λ q. q)

  pub place_row : (i : ℕ) → i ≤ n → ((j : ℕ) → j < i → p (row record_of size t j) ≡ false) → (i < n → p (row record_of size t i) ≡ true) → i ≡ place_of p xs
  place_row i l b e =
      sym (place_unique p xs (record_of []) i (omega (arith, count)) (λ j m. here j false (omega arith) (b j m))
      (λ m. here i true (omega (arith, count)) (e (omega (arith, count)))))

-- ---- GUIDs

-- the GUID x is g
abbrev pub is : Guid → Guid → Bool
is g x = same x g

pub has-any : (g : Guid) (xs : List Guid) → has g xs ≡ any (is g) xs
unfolding has any
has-any g [] = refl
has-any g (x ∷ xs) = rw (has-any g xs)

-- the test of GUID i of a list, as x was read and b was told
pub guid-test : (t : List ℕ) (i : ℕ) (g x : Guid) (b : Bool) → x ≡ guid_at t (i * 16) → b ≡ same x g → is g (row guid_of 16 t i) ≡ b
guid-test t i g x b e q = rw (guid-part 16 (i * 16) t (omega arith), ← e) (sym q)

module _ (t : List ℕ) (n : ℕ) (g : Guid) where
  pub has_here : (i : ℕ) → i < n → is g (row guid_of 16 t i) ≡ true → true ≡ has g (guids_in n t)
  has_here i l e = sym (has-any g (guids_in n t) ∙ some_row guid_of 16 n t (is g) i l e)

  pub has-nowhere : ((j : ℕ) → j < n → is g (row guid_of 16 t j) ≡ false) → false ≡ has g (guids_in n t)
  has-nowhere b = sym (has-any g (guids_in n t) ∙ no_row guid_of 16 n t (is g) b)
