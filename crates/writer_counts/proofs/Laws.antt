-- The signed changes of a turn, over plain variables.
--     acknowledged_read what was acknowledged, read back from its bits
--     changed           the change that is returned, read back from its bits
--     settled           the head that is put together
use Prim.Native.Nat.{ℕ, ◌+◌, ◌≤◌, ◌<◌, ◌%◌, ◌^◌}
use mathlib.Core.Bool.{true}
use mathlib.Core.Path.{◌≡◌, ap, ◌∙◌}
use lib.IntN.{ℤ, pos, ◌-ℤ◌}
use mir.Facts.{to_z-of_z}
use mir.Syntax.{w32, w64}
use mir.Val.{SFits, of_z, to_z}
use Rattle.model.specs.declared.Head.{Head}
use Rattle.model.specs.WellFormed.{within}
use Rattle.numbers.proofs.Signs.{change_fits, difference_fits}
use Rattle.numbers.proofs.Signed.{back}
use Rattle.writer_pass.specs.declared.Tally.{Tally}
use Rattle.writer_counts.specs.Turns.{settled_head}

pub acknowledged_read : (count : ℕ) (change a : ℤ) → count < 2 ^ 32 → SFits w32 change → a ≡ pos count -ℤ to_z w32 (of_z w32 change) →
    to_z w64 (of_z w64 a) ≡ pos count -ℤ change
acknowledged_read count change a h f e =
    back (e ∙ ap (λ (z : ℤ). pos count -ℤ z) (to_z-of_z f)) (difference_fits count change h f)

pub changed : (count after : ℕ) (change r : ℤ) → SFits w32 change → after ≤ 128 → within (pos count -ℤ change) ≡ true →
    r ≡ pos after -ℤ (pos count -ℤ to_z w32 (of_z w32 change)) → to_z w32 (of_z w32 r) ≡ pos after -ℤ (pos count -ℤ change)
changed count after change r f h w e =
    back (e ∙ ap (λ (z : ℤ). pos after -ℤ (pos count -ℤ z)) (to_z-of_z f)) (change_fits after (pos count -ℤ change) h w)

pub settled : (h : Head) (n m : ℕ) (t : Tally) (a b : ℤ) (k : ℕ) →
    a ≡ pos t.counts.alive -ℤ (pos h.alive -ℤ h.alive_change) →
    b ≡ pos t.counts.not_alive -ℤ (pos h.not_alive -ℤ h.not_alive_change) → k ≡ (h.changes + t.moved) % 2 ^ 64 →
    ◌≡◌ {A = Head}
    record {
      instance_count = h.instance_count;
      next_handle = h.next_handle;
      writer_count = n;
      lost_count = m;
      alive = t.counts.alive;
      not_alive = t.counts.not_alive;
      alive_change = a;
      not_alive_change = b;
      last_writer = t.last;
      changes = k;
      places = h.places;
    }
    (settled_head h n m t)
settled h n m t a b k p q r = rw (p, q, r)
