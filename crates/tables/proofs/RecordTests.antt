-- A test of the first records of a table, record by record, at any record size: `test` of one record's bytes, `tests` of
-- the first n records.
--     tests_from                     what is left of the test from a record on
--     tests_start, tests_end        all of it, and none of it
--     tests_stop, tests_turn        a turn of the code, which lends the record as the part from i * size up to i * size + size
--     swap                          two tests of two parts each
use Prim.Native.Nat.{ℕ, zero, suc, ◌+◌, ◌-◌, ◌*◌, ◌≤◌, ◌<◌}
use mathlib.Core.Bool.{Bool, true, false, ◌&&◌}
use mathlib.Core.List.{List}
use mathlib.Core.Path.{◌≡◌, refl, sym, ◌∙◌}
use native.Mathlib.Nat.{sub-zero, zero-mul}
use native.Mathlib.Omega.{arith}
use lib.ListN.{take, drop}
use lib.Seq.{drop-drop}
use Rattle.tables.proofs.GapLaws.{place_next}

pub swap : (a b c d : Bool) → ((a && b) && (c && d)) ≡ ((a && c) && (b && d))
swap true true c d = refl
swap true false true d = refl
swap true false false d = refl
swap false b c d = refl

module _ (size : ℕ) (test : List ℕ → Bool) (tests : ℕ → List ℕ → Bool) where
  abbrev pub tests_from : ℕ → ℕ → List ℕ → Bool
  tests_from i n t = tests (n - i) (drop (i * size) t)

  pub tests_start : (n : ℕ) (t : List ℕ) → tests_from 0 n t ≡ tests n t
  tests_start n t = rw (sub-zero n, zero-mul size)

  pub tests_end : ((t : List ℕ) → tests zero t ≡ true) → (i n : ℕ) (t : List ℕ) → n ≤ i → tests_from i n t ≡ true
  tests_end none i n t h = let e : n - i ≡ 0 = omega arith in rw e (none (drop (i * size) t))

  module _ (first : (n : ℕ) (t : List ℕ) → tests (suc n) t ≡ (test (take size t) && tests n (drop size t))) where
    tests_left : (i n : ℕ) (t : List ℕ) → i < n → tests_from i n t ≡ (test (take size (drop (i * size) t)) && tests_from (i + 1) n t)
    tests_left i n t h =
        let e : n - i ≡ suc (n - (i + 1)) = omega arith in
        rw e (first (n - (i + 1)) (drop (i * size) t) ∙ rw (drop-drop size (i * size) t, place_next size i))

    module _ (i n : ℕ) (t : List ℕ) (b : Bool) (h : i < n) (e : b ≡ test (take (i * size + size - i * size) (drop (i * size) t)))
        (left : tests_from i n t ≡ tests n t) where
      told : test (take size (drop (i * size) t)) ≡ b
      told = let w : i * size + size - i * size ≡ size = omega arith in sym (rw w at e)

      pub tests_stop : b ≡ false → false ≡ tests n t
      tests_stop f = sym (sym left ∙ tests_left i n t h ∙ rw (told ∙ f))

      pub tests_turn : b ≡ true → tests_from (i + 1) n t ≡ tests n t
      tests_turn g = sym (sym left ∙ tests_left i n t h ∙ rw (told ∙ g))
