-- The tests on times beside document 01's, which are the Rust's.
--     value_same                              at seconds that are not negative the value is document 01's,
--     later_same, gap_same                    so it orders and subtracts as before,
--     filter_same, order_same, purge_same     and the three tests are document 01's
--     deadline_same                           the deadline's is document 01's at any seconds
--     later_moved, gap-moved                  only differences count: so many seconds later, as long as the seconds fit,
--     filter-moved, order-moved, deadline_moved, purge_moved      the tests are as they were
--     filter_near, order_near, purge_near     so about the epoch document 01's tests, both times 2^30 seconds later, are ours
use Prim.Native.Nat.{ℕ, suc, ◌+◌, ◌*◌, ◌^◌, ◌<◌}
use mathlib.Core.Path.{◌≡◌, refl, sym, ◌∙◌}
use native.Mathlib.Omega.{arith}
use borrow.Author.Tests.{lt-leb}
use lib.Dec.{ltb}
use lib.IntN.{pos, sub_ℕ}
use mir.Facts.{to_z_pos}
use mir.Syntax.{w32}
use Rattle.model.specs.declared.MaybeTime.{MaybeTime}
use Rattle.model.specs.Times.{billion, time_value, gap, is_later, filter_admits, order_admits, deadline_missed, purge_due}
use Rattle.model.proofs.Tests.{leb-iff}
use Rattle.sample_time.specs.Clamped.{clamped_nanos_of, filter_clamped, order_clamped, purge_clamped, raised_nanos_of, deadline_raised, NotBefore, shifted, Room, Near}
use Rattle.sample_time.proofs.Differences.{sub_is, sub_same, sub-reaches, sub-elapsed}
use Rattle.sample_time.proofs.Values.{later_is, gap_is}

-- ---- at the epoch and after it

pub value_same : (t : MaybeTime) → NotBefore t → time_value t ≡ pos (clamped_nanos_of t)
unfolding time_value
value_same t h = rw (to_z_pos w32 {n = t.sec} h, lt-leb (2 ^ 31) t.sec h) refl

module _ (a b : MaybeTime) (p : NotBefore a) (q : NotBefore b) where
  pub later_same : is_later (time_value a) (time_value b) ≡ ltb (clamped_nanos_of a) (clamped_nanos_of b)
  later_same = rw (value_same a p, value_same b q) refl

  pub gap_same : gap (time_value a) (time_value b) ≡ sub_ℕ (clamped_nanos_of b) (clamped_nanos_of a)
  gap_same = rw (value_same a p, value_same b q) (sub_is (clamped_nanos_of b) (clamped_nanos_of a))

module _ (a b : MaybeTime) (p : NotBefore a) (q : NotBefore b) where
  pub filter_same : (separation : ℕ) → filter_admits a b separation ≡ filter_clamped a b separation
  unfolding filter_admits
  filter_same n = rw (later_same b a q p, gap_same a b p q, sub-reaches (clamped_nanos_of a) (clamped_nanos_of b) n) refl

  pub order_same : order_admits a b ≡ order_clamped a b
  unfolding order_admits
  order_same = rw (later_same a b p q) refl

  pub purge_same : (delay : ℕ) → purge_due a b delay ≡ purge_clamped a b delay
  unfolding purge_due
  purge_same n = rw (gap_same a b p q, sub-elapsed (clamped_nanos_of a) (clamped_nanos_of b)) refl

-- ---- at any seconds

pub deadline_same : (a b : MaybeTime) → a.sec < 2 ^ 32 → b.sec < 2 ^ 32 → (deadline : ℕ) → deadline_missed a b deadline ≡ deadline_raised a b deadline
unfolding deadline_missed
deadline_same a b p q n = rw (gap_is a b p q, sub-reaches (raised_nanos_of a) (raised_nanos_of b) n) refl

-- ---- so many seconds later

-- as many nanoseconds more
moved : (k : ℕ) (t : MaybeTime) → Room k t → raised_nanos_of (shifted k t) ≡ raised_nanos_of t + k * billion
moved k t r =
    let h = r.bits in
    let g = r.room in
    omega arith

bits-moved : (k : ℕ) (t : MaybeTime) → (shifted k t).sec < 2 ^ 32
bits-moved k t = omega arith

module _ (k : ℕ) (a b : MaybeTime) (p : Room k a) (q : Room k b) where
  pub later_moved : is_later (time_value (shifted k a)) (time_value (shifted k b)) ≡ is_later (time_value a) (time_value b)
  later_moved =
      let x = moved k a p in
      let y = moved k b q in
      later_is (shifted k a) (shifted k b) (bits-moved k a) (bits-moved k b)
      ∙ leb-iff (suc (raised_nanos_of (shifted k a))) (raised_nanos_of (shifted k b)) (suc (raised_nanos_of a)) (raised_nanos_of b) (λ r. omega arith) (λ r. omega arith)
      ∙ sym (later_is a b p.bits q.bits)

  pub gap-moved : gap (time_value (shifted k a)) (time_value (shifted k b)) ≡ gap (time_value a) (time_value b)
  gap-moved =
      let x = moved k a p in
      let y = moved k b q in
      gap_is (shifted k a) (shifted k b) (bits-moved k a) (bits-moved k b)
      ∙ sub_same (raised_nanos_of (shifted k b)) (raised_nanos_of (shifted k a)) (raised_nanos_of b) (raised_nanos_of a) (omega arith)
      ∙ sym (gap_is a b p.bits q.bits)

module _ (k : ℕ) (a b : MaybeTime) (p : Room k a) (q : Room k b) where
  pub filter-moved : (separation : ℕ) → filter_admits (shifted k a) (shifted k b) separation ≡ filter_admits a b separation
  unfolding filter_admits
  filter-moved n = rw (later_moved k b a q p, gap-moved k a b p q) refl

  pub order-moved : order_admits (shifted k a) (shifted k b) ≡ order_admits a b
  unfolding order_admits
  order-moved = rw (later_moved k a b p q) refl

  pub deadline_moved : (deadline : ℕ) → deadline_missed (shifted k a) (shifted k b) deadline ≡ deadline_missed a b deadline
  unfolding deadline_missed
  deadline_moved n = rw (gap-moved k a b p q) refl

  pub purge_moved : (delay : ℕ) → purge_due (shifted k a) (shifted k b) delay ≡ purge_due a b delay
  unfolding purge_due
  purge_moved n = rw (gap-moved k a b p q) refl

-- ---- about the epoch

room : (t : MaybeTime) → Near t → Room (2 ^ 30) t
room t n =
    let h = n.to in
    record { bits = n.bits; room = omega arith }

after : (t : MaybeTime) → Near t → NotBefore (shifted (2 ^ 30) t)
after t n =
    let g = n.bits in
    let h = n.from in
    omega arith

module _ (a b : MaybeTime) (p : Near a) (q : Near b) where
  pub filter_near : (separation : ℕ) → filter_admits a b separation ≡ filter_clamped (shifted (2 ^ 30) a) (shifted (2 ^ 30) b) separation
  filter_near n =
      sym (filter-moved (2 ^ 30) a b (room a p) (room b q) n)
      ∙ filter_same (shifted (2 ^ 30) a) (shifted (2 ^ 30) b) (after a p) (after b q) n

  pub order_near : order_admits a b ≡ order_clamped (shifted (2 ^ 30) a) (shifted (2 ^ 30) b)
  order_near =
      sym (order-moved (2 ^ 30) a b (room a p) (room b q))
      ∙ order_same (shifted (2 ^ 30) a) (shifted (2 ^ 30) b) (after a p) (after b q)

  pub purge_near : (delay : ℕ) → purge_due a b delay ≡ purge_clamped (shifted (2 ^ 30) a) (shifted (2 ^ 30) b) delay
  purge_near n =
      sym (purge_moved (2 ^ 30) a b (room a p) (room b q) n)
      ∙ purge_same (shifted (2 ^ 30) a) (shifted (2 ^ 30) b) (after a p) (after b q) n
