-- The head after a turn of the writers, and the tallies of turns.
use Rattle.std.specs.Prelude.{ℕ, ◌+◌, ◌-◌, ◌%◌, ◌^◌, ◌≤◌, true, not, cond, ◌≡◌, eqb, pos, ◌-ℤ◌, Some}
use Rattle.model.specs.declared.Called.{Called}
use Rattle.model.specs.declared.Guid.{Guid}
use Rattle.model.specs.declared.Head.{Head}
use Rattle.model.specs.declared.Writer.{Writer}
use Rattle.model.specs.Answers.{saying}
use Rattle.model.specs.State.{class_of, is_alive_class, is_not_alive_class}
use Rattle.model.specs.WellFormed.{within}
use Rattle.writer_pass.specs.declared.Tally.{Tally}

-- ---- the head after a turn

-- counts that a table holds, and acknowledged amounts within their bound
pub record CountsFit (head : Head) (tally : Tally) : Type 0 where
  pub alive : tally.counts.alive ≤ 128
  pub not_alive : tally.counts.not_alive ≤ 128
  pub ack_alive : within (pos head.alive -ℤ head.alive_change) ≡ true
  pub ack_not_alive : within (pos head.not_alive -ℤ head.not_alive_change) ≡ true

-- counts, changes and last writer follow from the tally; the acknowledged amounts stay
abbrev pub settled_head : Head → ℕ → ℕ → Tally → Head
settled_head h n m t =
    record {
      instance_count = h.instance_count;
      next_handle = h.next_handle;
      writer_count = n;
      lost_count = m;
      alive = t.counts.alive;
      not_alive = t.counts.not_alive;
      alive_change = pos t.counts.alive -ℤ (pos h.alive -ℤ h.alive_change);
      not_alive_change = pos t.counts.not_alive -ℤ (pos h.not_alive -ℤ h.not_alive_change);
      last_writer = t.last;
      changes = (h.changes + t.moved) % 2 ^ 64;
      places = h.places;
    }

abbrev pub called_by : Head → ℕ → Tally → Called
called_by h n t = record { answer = saying (not (eqb t.moved 0)); head = settled_head h n h.lost_count t }

-- no class changes
abbrev pub still_tally : Head → Tally
still_tally h = record { counts = record { alive = h.alive; not_alive = h.not_alive }; moved = 0; last = h.last_writer }

-- one writer's class changes
abbrev pub shifted_tally : ℕ → ℕ → Guid → Tally
shifted_tally alive not_alive g = record { counts = record { alive = alive; not_alive = not_alive }; moved = 1; last = Some g }

-- a writer is taken out
abbrev pub gone_tally : Head → Writer → Tally
gone_tally h w =
    cond (is_alive_class (class_of w.liveliness.state)) (shifted_tally (h.alive - 1) h.not_alive w.guid)
    (cond (is_not_alive_class (class_of w.liveliness.state)) (shifted_tally h.alive (h.not_alive - 1) w.guid) (still_tally h))

-- a writer departs
abbrev pub departs_tally : Head → Writer → Tally
departs_tally h w =
    cond (is_alive_class (class_of w.liveliness.state)) (shifted_tally (h.alive - 1) (h.not_alive + 1) w.guid) (still_tally h)
