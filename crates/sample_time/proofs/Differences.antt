-- Differences of naturals in ℤ, `sub_ℕ a b` of lib.IntN, and values with a sign as such differences.
--     sub_same        two differences are equal where the sums across are
--     sub_is          a difference of two numbers in ℤ
--     sub-plus        a number added
--     sub-times       a billion times
--     sub_order       two that lack the same, in order
--     sub-gap         and their difference
--     sub_fits        64 bits hold it
--     sub-reaches, sub-elapsed     what it reaches, and what autopurge counts of it, in ℕ
use Prim.Native.Nat.{ℕ, zero, suc, ◌+◌, ◌-◌, ◌*◌, ◌^◌, ◌≤◌, ◌<◌}
use mathlib.Core.Logic.{⊎_elim}
use mathlib.Core.Path.{◌≡◌, refl, sym, ap, ◌∙◌}
use native.Mathlib.Omega.{arith}
use borrow.Author.Tests.{lt-ltb, le-ltb, lt-leb}
use lib.Dec.{leb, ltb}
use lib.IntN.{ℤ, pos, negsuc, neg_ℤ, sub_ℕ, ◌+ℤ◌, ◌-ℤ◌, ◌*ℤ◌, +ℤ_assoc, +ℤ_comm, +ℤ_idl, +ℤ_invl, neg_ℤ-+ℤ, neg_ℤ-neg_ℤ}
use lib.Signed.{lt_z}
use mir.Syntax.{w64}
use mir.Val.{SFits}
use Rattle.model.specs.Times.{billion, reaches, elapsed}
use Rattle.model.proofs.Tests.{leb-iff, lt-or-le}

-- by its two cases
below : (a b : ℕ) → a < b → sub_ℕ a b ≡ negsuc (b - suc a)
below a b h = simp (lt-ltb a b h)

above : (a b : ℕ) → b ≤ a → sub_ℕ a b ≡ pos (a - b)
above a b h = simp (le-ltb a b h)

pub sub_same : (a b c d : ℕ) → a + d ≡ c + b → sub_ℕ a b ≡ sub_ℕ c d
sub_same a b c d e =
    ⊎_elim
    (λ h. rw (below a b h, below c d (omega arith)) (ap negsuc (omega arith)))
    (λ h. rw (above a b h, above c d (omega arith)) (ap pos (omega arith)))
    (lt-or-le a b)

pub sub_is : (a b : ℕ) → pos a -ℤ pos b ≡ sub_ℕ a b
sub_is a zero = rw (above a 0 (omega arith)) (ap pos (omega arith))
sub_is a (suc b) = refl

neg_is : (m : ℕ) → neg_ℤ (pos m) ≡ sub_ℕ 0 m
neg_is zero = refl
neg_is (suc m) = rw (below 0 (suc m) (omega arith)) (ap negsuc (omega arith))

pub sub-plus : (a b n : ℕ) → sub_ℕ a b +ℤ pos n ≡ sub_ℕ (a + n) b
sub-plus a b n =
    ⊎_elim
    (λ h. rw (below a b h) (sub_same n (suc (b - suc a)) (a + n) b (omega arith)))
    (λ h. rw (above a b h, above (a + n) b (omega arith)) (ap pos (omega arith)))
    (lt-or-le a b)

pub sub-times : (a b : ℕ) → sub_ℕ a b *ℤ pos billion ≡ sub_ℕ (a * billion) (b * billion)
sub-times a b =
    ⊎_elim
    (λ h. rw (below a b h)
    (neg_is (suc (b - suc a) * billion) ∙ sub_same 0 (suc (b - suc a) * billion) (a * billion) (b * billion) (omega arith)))
    (λ h. rw (above a b h, above (a * billion) (b * billion) (omega arith)) (ap pos (omega arith)))
    (lt-or-le a b)

pub sub_order : (a b k : ℕ) → lt_z (sub_ℕ a k) (sub_ℕ b k) ≡ ltb a b
sub_order a b k =
    ⊎_elim
    (λ p. ⊎_elim
    (λ q. rw (below a k p, below b k q) (leb-iff (suc (k - suc b)) (k - suc a) (suc a) b (λ r. omega arith) (λ r. omega arith)))
    (λ q. rw (below a k p, above b k q) (sym (lt-ltb a b (omega arith))))
    (lt-or-le b k))
    (λ p. ⊎_elim
    (λ q. rw (above a k p, below b k q) (sym (le-ltb a b (omega arith))))
    (λ q. rw (above a k p, above b k q) (leb-iff (suc (a - k)) (b - k) (suc a) b (λ r. omega arith) (λ r. omega arith)))
    (lt-or-le b k))
    (lt-or-le a k)

-- what both lack cancels
cancel : (b a k : ℤ) → (b -ℤ k) -ℤ (a -ℤ k) ≡ b -ℤ a
cancel b a k =
    ap (λ (y : ℤ). (b -ℤ k) +ℤ y) (neg_ℤ-+ℤ a (neg_ℤ k) ∙ ap (λ (y : ℤ). neg_ℤ a +ℤ y) (neg_ℤ-neg_ℤ k) ∙ +ℤ_comm (neg_ℤ a) k)
    ∙ +ℤ_assoc b (neg_ℤ k) (k +ℤ neg_ℤ a)
    ∙ ap (λ (y : ℤ). b +ℤ y)
    (sym (+ℤ_assoc (neg_ℤ k) k (neg_ℤ a)) ∙ ap (λ (y : ℤ). y +ℤ neg_ℤ a) (+ℤ_invl k) ∙ +ℤ_idl (neg_ℤ a))

pub sub-gap : (a b k : ℕ) → sub_ℕ b k -ℤ sub_ℕ a k ≡ sub_ℕ b a
sub-gap a b k = rw (← sub_is b k, ← sub_is a k, ← sub_is b a) (cancel (pos b) (pos a) (pos k))

pub sub_fits : (a b : ℕ) → a < 2 ^ 63 → b < 2 ^ 63 → SFits w64 (sub_ℕ a b)
sub_fits a b p q =
    ⊎_elim
    (λ h. rw (below a b h) record { sfits = omega arith })
    (λ h. rw (above a b h) record { sfits = omega arith })
    (lt-or-le a b)

pub sub-reaches : (a b n : ℕ) → reaches (sub_ℕ b a) n ≡ leb (a + n) b
sub-reaches a b n =
    ⊎_elim
    (λ h. rw (below b a h) (sym (lt-leb (a + n) b (omega arith))))
    (λ h. rw (above b a h) (leb-iff n (b - a) (a + n) b (λ r. omega arith) (λ r. omega arith)))
    (lt-or-le b a)

pub sub-elapsed : (a b : ℕ) → elapsed (sub_ℕ b a) ≡ b - a
sub-elapsed a b = ⊎_elim (λ h. rw (below b a h) (omega arith)) (λ h. rw (above b a h) refl) (lt-or-le b a)
