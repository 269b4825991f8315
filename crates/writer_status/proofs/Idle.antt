-- The calls that turn no writer, codes 38 to 40, over plain variables.
--     idle-head             the head that such a call leaves
--     status_kept           code 39
--     acknowledge-kept      code 40
--     take_after, take_who  the writers and the movers of code 38
--     head-within, as_lent  the bounds of a head, and a change lent as its bits
use Prim.Native.Nat.{ℕ, ◌+◌, ◌%◌, ◌^◌, ◌≤◌, ◌<◌}
use mathlib.Core.Bool.{true, ◌&&◌}
use mathlib.Core.Path.{◌≡◌, refl, sym, ap, ◌∙◌}
use mathlib.Core.List.{List, [], map}
use native.Mathlib.Omega.{arith}
use borrow.Author.Tests.{eqb-true}
use lib.Dec.{eqb, leb}
use lib.IntN.{ℤ, pos, ◌+ℤ◌, ◌-ℤ◌, +ℤ_invr}
use lib.ListN.{length}
use mir.Syntax.{w32, w64}
use mir.Facts.{to_z-of_z, sfits_to_z}
use mir.Val.{Fits, SFits, of_z, to_z}
use Rattle.model.specs.declared.Called.{Called}
use Rattle.model.specs.declared.Head.{Head}
use Rattle.model.specs.declared.Sheet.{Sheet}
use Rattle.model.specs.declared.TrackerCall.{TrackerCall}
use Rattle.model.specs.declared.TrackerCall.TheVariants.{TakeLost, TakeStatus, Acknowledge}
use Rattle.model.specs.declared.Writer.{Writer}
use Rattle.model.specs.Answers.{reporting, silent}
use Rattle.model.specs.Guids.{guid_of, guids_in}
use Rattle.model.specs.InstanceRecord.{instance_of}
use Rattle.model.specs.Reads.{head_status}
use Rattle.model.specs.State.{alive_count, not_alive_count, state_of, head_of, writers_in}
use Rattle.model.specs.WellFormed.{counts_ok, head_ok, within}
use Rattle.model.specs.WriterRecord.{writer_of}
use Rattle.model.specs.Writers.{movers, writers_after, guid_in, last_after, lost_after, acknowledged_after, status_of, acknowledgeable, tracker_state, tracker_turn, tracker_call}
use Rattle.model.proofs.Tests.{both, less-less}
use Rattle.model.proofs.RowLaws.{length_read}
use Rattle.numbers.proofs.Signs.{sum_fits, change_fits}
use Rattle.numbers.proofs.Signed.{back}
use Rattle.writer_counts.specs.WriterCalls.{held_by}
use Rattle.writer_counts.proofs.Turning.{sift-same, pick_same}
use Rattle.writer_status.specs.Status.{changed_head, KeepsWriters}

-- the head counts the writers
record Counted (head : Head) (ws : List Writer) : Type 0 where
  pub alive : alive_count ws ≡ head.alive
  pub not_alive : not_alive_count ws ≡ head.not_alive

counted : (head : Head) (ws : List Writer) → counts_ok head ws ≡ true → Counted head ws
unfolding counts_ok
counted head ws e =
    let p = both (eqb head.alive (alive_count ws)) (eqb head.not_alive (not_alive_count ws)) e in
    record { alive = sym (eqb-true head.alive (alive_count ws) p.0); not_alive = sym (eqb-true head.not_alive (not_alive_count ws) p.1) }

same-changes : (n : ℕ) → n < 2 ^ 64 → (n + 0) % 2 ^ 64 ≡ n
same-changes n h = omega arith

pub idle-head : (c : TrackerCall) (s : Sheet) (head : Head) (pens w lost : List ℕ) (m : ℕ) (a n : ℤ) → head.changes < 2 ^ 64 →
    counts_ok head (writers_in head.writer_count w) ≡ true →
    writers_after c s (writers_in head.writer_count w) ≡ writers_in head.writer_count w → movers c s (writers_in head.writer_count w) ≡ [] →
    m ≡ length (lost_after c [] (guids_in head.lost_count lost)) →
    a ≡ pos head.alive -ℤ acknowledged_after c head.alive s.first (pos head.alive -ℤ head.alive_change) →
    n ≡ pos head.not_alive -ℤ acknowledged_after c head.not_alive s.second (pos head.not_alive -ℤ head.not_alive_change) →
    changed_head head m a n ≡ head_of head.places (tracker_state c s (held_by head pens w lost))
unfolding head_of tracker_state state_of last_after
idle-head c s head pens w lost m a n h k after who e p q =
    let d = counted head (writers_in head.writer_count w) k in
    rw (
      after,
      who,
      length_read instance_of 512 head.instance_count pens,
      length_read writer_of 40 head.writer_count w,
      d.alive,
      d.not_alive,
      same-changes head.changes h,
      ← e,
      ← p,
      ← q,
    )

-- ---- the writers stay, and none changes class

module _ (s : Sheet) (ws : List Writer) where
  pub take_after : writers_after TakeLost s ws ≡ ws
  unfolding writers_after
  take_after = sift-same ws

  pub take_who : movers TakeLost s ws ≡ []
  unfolding movers
  take_who = ap (map guid_in) (pick_same ws)

  status_after : writers_after TakeStatus s ws ≡ ws
  unfolding writers_after
  status_after = sift-same ws

  status_who : movers TakeStatus s ws ≡ []
  unfolding movers
  status_who = ap (map guid_in) (pick_same ws)

  acknowledge-after : writers_after Acknowledge s ws ≡ ws
  unfolding writers_after
  acknowledge-after = sift-same ws

  acknowledge_who : movers Acknowledge s ws ≡ []
  unfolding movers
  acknowledge_who = ap (map guid_in) (pick_same ws)

-- ---- codes 39 and 40

module _ (s : Sheet) (head : Head) (small : head.changes < 2 ^ 64) (r : Called) where
  pub status_kept : r.answer ≡ reporting (head_status head) → r.head ≡ changed_head head head.lost_count (pos 0) (pos 0) → KeepsWriters TakeStatus s head r
  unfolding tracker_call tracker_turn status_of state_of
  status_kept a h pens w lost k =
      let ws = writers_in head.writer_count w in
      let d = counted head ws k in
      let hd =
      idle-head TakeStatus s head pens w lost head.lost_count (pos 0) (pos 0) small k (status_after s ws) (status_who s ws)
      (sym (length_read guid_of 16 head.lost_count lost)) (sym (+ℤ_invr (pos head.alive))) (sym (+ℤ_invr (pos head.not_alive))) in
      record {
        answer =
            a ∙ rw (d.alive, d.not_alive, less-less (pos head.alive) head.alive_change, less-less (pos head.not_alive) head.not_alive_change);
        head = h ∙ hd;
      }

  pub acknowledge-kept : r.answer ≡ silent →
      r.head
      ≡ changed_head head head.lost_count (pos head.alive -ℤ ((pos head.alive -ℤ head.alive_change) +ℤ to_z w32 s.first))
      (pos head.not_alive -ℤ ((pos head.not_alive -ℤ head.not_alive_change) +ℤ to_z w32 s.second)) → KeepsWriters Acknowledge s head r
  unfolding tracker_call tracker_turn
  acknowledge-kept a h pens w lost k =
      let ws = writers_in head.writer_count w in
      let hd =
      idle-head Acknowledge s head pens w lost head.lost_count _ _ small k (acknowledge-after s ws) (acknowledge_who s ws)
      (sym (length_read guid_of 16 head.lost_count lost)) refl refl in
      record { answer = a; head = h ∙ hd }

-- ---- what is acknowledged, read back from its bits

-- the bound of an acknowledged amount, from the head's test
pub head-within : (head : Head) → head_ok head ≡ true →
    (within (pos head.alive -ℤ head.alive_change) ≡ true) × (within (pos head.not_alive -ℤ head.not_alive_change) ≡ true)
unfolding head_ok
head-within head e =
    let u =
    both (leb 1 head.next_handle.0 && leb head.next_handle.0 (2 ^ 63))
    (within (pos head.alive -ℤ head.alive_change) && within (pos head.not_alive -ℤ head.not_alive_change)) e in
    both (within (pos head.alive -ℤ head.alive_change)) (within (pos head.not_alive -ℤ head.not_alive_change)) u.1

-- a change that is lent as its bits is the change
pub as_lent : (count : ℕ) (change z : ℤ) → SFits w32 change → (pos count -ℤ to_z w32 (of_z w32 change)) +ℤ z ≡ (pos count -ℤ change) +ℤ z
as_lent count change z f = ap (λ (y : ℤ). (pos count -ℤ y) +ℤ z) (to_z-of_z f)

module _ (count : ℕ) (change : ℤ) (part : ℕ) (f : SFits w32 change) (g : Fits w32 part) (w : within (pos count -ℤ change) ≡ true) where
  pub after_fits : SFits w64 ((pos count -ℤ change) +ℤ to_z w32 part)
  after_fits = sum_fits (pos count -ℤ change) (to_z w32 part) w (sfits_to_z g)

  pub after_read : (z : ℤ) → z ≡ (pos count -ℤ to_z w32 (of_z w32 change)) +ℤ to_z w32 part → to_z w64 (of_z w64 z) ≡ (pos count -ℤ change) +ℤ to_z w32 part
  after_read z e = back (e ∙ as_lent count change (to_z w32 part) f) after_fits

  pub less_read : (z : ℤ) → count ≤ 128 → within ((pos count -ℤ change) +ℤ to_z w32 part) ≡ true →
      z ≡ pos count -ℤ ((pos count -ℤ to_z w32 (of_z w32 change)) +ℤ to_z w32 part) → to_z w32 (of_z w32 z) ≡ pos count -ℤ ((pos count -ℤ change) +ℤ to_z w32 part)
  less_read z h v e =
      back (e ∙ ap (λ (y : ℤ). pos count -ℤ y) (as_lent count change (to_z w32 part) f)) (change_fits count ((pos count -ℤ change) +ℤ to_z w32 part) h v)

-- refusal 8's test, in its two parts
pub acknowledgeable_parts : (s : Sheet) (head : Head) (pens w lost : List ℕ) → acknowledgeable Acknowledge s (held_by head pens w lost) ≡ true →
    (within ((pos head.alive -ℤ head.alive_change) +ℤ to_z w32 s.first) ≡ true)
    × (within ((pos head.not_alive -ℤ head.not_alive_change) +ℤ to_z w32 s.second) ≡ true)
unfolding state_of
acknowledgeable_parts s head pens w lost e =
    both (within ((pos head.alive -ℤ head.alive_change) +ℤ to_z w32 s.first))
    (within ((pos head.not_alive -ℤ head.not_alive_change) +ℤ to_z w32 s.second)) e

pub lent-within : (count : ℕ) (change : ℤ) → SFits w32 change → within (pos count -ℤ change) ≡ true → within (pos count -ℤ to_z w32 (of_z w32 change)) ≡ true
lent-within count change f w = rw (to_z-of_z f) w

pub lent-part : (count : ℕ) (change z : ℤ) → SFits w32 change → within ((pos count -ℤ change) +ℤ z) ≡ true → within ((pos count -ℤ to_z w32 (of_z w32 change)) +ℤ z) ≡ true
lent-part count change z f w = rw (to_z-of_z f) w

pub both-changed : (h : Head) (m : ℕ) (a a' n n' : ℤ) → a ≡ a' → n ≡ n' → changed_head h m a n ≡ changed_head h m a' n'
both-changed h m a a' n n' p q = rw (p, q)
