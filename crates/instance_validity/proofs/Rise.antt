-- GUIDs end to end that rise from one to the next rise.
--     next                              the GUID at a place is below the one behind it
--     next_high, next_low               the high halves decide that where they differ, else the low ones
--     next_by                           that, as an `Option` says it
--     rise_few, rise_next, rise_six     none or one, two and six of them
--     rise_stop, rise_turn              the first ones do not rise, or do: then the rest decides
use Prim.Native.Nat.{ℕ, zero, suc, ◌+◌, ◌-◌, ◌*◌, ◌^◌, ◌≤◌, ◌<◌}
use mathlib.Core.Bool.{Bool, true, false, ◌&&◌, and-true, and-false, and_assoc}
use mathlib.Core.Path.{◌≡◌, refl, sym, ap, ◌∙◌}
use mathlib.Core.List.{List, [], ◌∷◌}
use native.Mathlib.Nat.{le_of_lt}
use native.Mathlib.Omega.{arith}
use lib.Dec.{ltb}
use lib.ListN.{drop}
use lib.Seq.{drop-drop}
use borrow.Author.Tests.{ltb-true, ltb-false, lt-ltb, le-ltb}
use Rattle.std.specs.Prelude.{is_some, MatchOption}
use Rattle.std.specs.declared.option.Option.{Option}
use Rattle.std.specs.declared.option.Option.TheVariants.{None, Some}
use Rattle.octets.specs.Bounds.{Bytes}
use Rattle.octets.specs.Octets.{be}
use Rattle.octets.proofs.BoundLaws.{be-lt}
use Rattle.model.proofs.Tests.{both}
use Rattle.model.specs.Guids.{num, less, guid_at, guids_in}
use Rattle.model.specs.Layout.{read_rows}
use Rattle.model.specs.Tables.{above, rising}
use Rattle.model.proofs.GuidLaws.{guid-part}
use Rattle.guid.proofs.Digits.{digit_lt, ltb_low}

-- of two numbers of two digits, where the high ones differ
high_decides : (m h h' l l' : ℕ) → l < m → l' < m → (h ≡ h' → ⊥) → ltb (h * m + l) (h' * m + l') ≡ ltb h h'
high_decides m h h' l l' p p' n = each (ltb h h') refl
  where
    each : (t : Bool) → ltb h h' ≡ t → ltb (h * m + l) (h' * m + l') ≡ t
    each true q = lt-ltb (h * m + l) (h' * m + l') (digit_lt m l' p (ltb-true h h' q))
    each false q = le-ltb (h * m + l) (h' * m + l') (le_of_lt (digit_lt m l p' (omega (arith, ltb-false h h' q))))

module _ {A : Type 0} (key : A → ℕ) where
  above_lower : (m n : ℕ) (xs : List A) → n < m → above key m xs ≡ true → above key n xs ≡ true
  unfolding above
  above_lower m n [] l h = refl
  above_lower m n (x ∷ xs) l h =
      let p = both (ltb m (key x)) (above key m xs) h in
      rw (lt-ltb n (key x) (omega (arith, ltb-true m (key x) p.0)), above_lower m n xs l p.1)

  rise_two : (x y : A) (xs : List A) → rising key (x ∷ y ∷ xs) ≡ (ltb (key x) (key y) && rising key (y ∷ xs))
  unfolding above rising
  rise_two x y xs = each (ltb (key x) (key y)) (above key (key y) xs) refl refl
    where
      each : (a b : Bool) → ltb (key x) (key y) ≡ a → above key (key y) xs ≡ b → ((a && above key (key x) xs) && (b && rising key xs)) ≡ (a && (b && rising key xs))
      each false b p q = refl
      each true false p q = and-false (above key (key x) xs)
      each true true p q = rw (above_lower (key y) (key x) xs (ltb-true (key x) (key y) p) q)

module _ (s : List ℕ) where
  -- the GUID of the 16 bytes from at is below that of the next 16
  abbrev pub next : ℕ → Bool
  next at = less (guid_at s at) (guid_at s (at + 16))

  pub next_high : Bytes s → (at a b : ℕ) → a ≡ be 8 s at → b ≡ be 8 s (at + 16) → (a ≡ b → ⊥) → next at ≡ ltb a b
  unfolding num
  next_high bytes at a b p q n =
      rw (p, q)
      (high_decides (2 ^ 64) (be 8 s at) (be 8 s (at + 16)) (be 8 s (at + 8)) (be 8 s (at + 16 + 8)) (be-lt 8 s (at + 8) bytes) (be-lt 8 s (at + 16 + 8) bytes) (λ e. n (p ∙ e ∙ sym q)))

  pub next_low : (at a b l m : ℕ) → a ≡ be 8 s at → b ≡ be 8 s (at + 16) → a ≡ b → l ≡ be 8 s (at + 8) → m ≡ be 8 s (at + 24) → next at ≡ ltb l m
  unfolding num
  next_low at a b l m p q e u v =
      let w : at + 16 + 8 ≡ at + 24 = omega arith in
      rw (u, v, ← w) (ltb_low (2 ^ 64) (be 8 s at) (be 8 s (at + 16)) (be 8 s (at + 8)) (be 8 s (at + 16 + 8)) (sym p ∙ e ∙ q))

  -- so is each of the k from at on
  abbrev steps : ℕ → ℕ → Bool
  steps zero at = true
  steps (suc k) at = next at && steps k (at + 16)

  first : (n at : ℕ) → guids_in (suc n) (drop at s) ≡ guid_at s at ∷ guids_in n (drop (at + 16) s)
  unfolding read_rows
  first n at = rw (guid-part 16 at s (omega arith), drop-drop 16 at s)

  -- what `next_beside` answers says so
  pub next_by : (o : Option ℕ) (at : ℕ) (Q : ℕ → Type 0) → MatchOption o (next at ≡ false) (λ l. (next at ≡ true) × Q l) → next at ≡ is_some o
  next_by None at Q h = h
  next_by (Some l) at Q h = h.0

  pub rise_few : (n at : ℕ) → n ≤ 1 → rising num (guids_in n (drop at s)) ≡ true
  unfolding rising above read_rows
  rise_few zero at h = refl
  rise_few (suc zero) at h = refl
  rise_few (suc (suc n)) at h = absurd (omega arith)

  rise_steps : (k at : ℕ) → rising num (guids_in (suc k) (drop at s)) ≡ steps k at
  rise_steps zero at = rise_few 1 at (omega arith)
  rise_steps (suc k) at =
      ap (rising num) (first (suc k) at ∙ rw (first k (at + 16)))
      ∙ rise_two num (guid_at s at) (guid_at s (at + 16)) (guids_in k (drop (at + 16 + 16) s))
      ∙ rw (← first k (at + 16), rise_steps k (at + 16))

  steps-add : (j k at : ℕ) → steps (j + k) at ≡ (steps j at && steps k (at + j * 16))
  steps-add zero k at = let e : at + zero * 16 ≡ at = omega arith in let f : zero + k ≡ k = omega arith in rw (e, f)
  steps-add (suc j) k at =
      let e : at + 16 + j * 16 ≡ at + suc j * 16 = omega arith in
      let f : suc j + k ≡ suc (j + k) = omega arith in
      rw (f, steps-add j k (at + 16), e) (sym (and_assoc (next at) (steps j (at + 16)) (steps k (at + suc j * 16))))

  -- the first of n GUIDs up to number j, and those from it on
  module _ (j n at : ℕ) (h : j < n) where
    parts : rising num (guids_in n (drop at s)) ≡ (rising num (guids_in (suc j) (drop at s)) && rising num (guids_in (n - j) (drop (at + j * 16) s)))
    parts =
        let k : ℕ = n - suc j in
        let e : n ≡ suc (j + k) = omega arith in
        let f : n - j ≡ suc k = omega arith in
        rw (f, rise_steps j at, rise_steps k (at + j * 16))
        (ap (λ (m : ℕ). rising num (guids_in m (drop at s))) e ∙ rise_steps (j + k) at ∙ steps-add j k at)

    pub rise_stop : rising num (guids_in (suc j) (drop at s)) ≡ false → rising num (guids_in n (drop at s)) ≡ false
    rise_stop p = parts ∙ rw p

    pub rise_turn : rising num (guids_in (suc j) (drop at s)) ≡ true → rising num (guids_in n (drop at s)) ≡ rising num (guids_in (n - j) (drop (at + j * 16) s))
    rise_turn p = parts ∙ rw p

  pub rise_next : (at : ℕ) → rising num (guids_in 2 (drop at s)) ≡ next at
  rise_next at = rise_steps 1 at ∙ and-true (next at)

  pub rise_six : (at : ℕ) {a b c d e : Bool} → next at ≡ a → next (at + 16) ≡ b → next (at + 32) ≡ c → next (at + 48) ≡ d → next (at + 64) ≡ e →
      (a && (b && (c && (d && e)))) ≡ rising num (guids_in 6 (drop at s))
  rise_six at {e = e} p q r u v =
      let x : at + 16 + 16 ≡ at + 32 = omega arith in
      let y : at + 32 + 16 ≡ at + 48 = omega arith in
      let z : at + 48 + 16 ≡ at + 64 = omega arith in
      sym (rise_steps 5 at ∙ rw (p, q, x, r, y, u, z, v, and-true e))
