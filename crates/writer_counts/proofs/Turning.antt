-- The turns of model's tracker calls, over plain variables.
--     moved-is                              whether a class changed, by the number that did
--     sift-same, pick_same        a table taken through a function that removes nothing
--     Plain, turn-settles                   a call on the writers alone, from its writers and its movers
--     assert_turn, match_turn, match-still  the writers and the movers of assertions and of matches
use Prim.Native.Nat.{ℕ, suc}
use mathlib.Core.Bool.{Bool, true, false, not}
use mathlib.Core.Path.{◌≡◌, refl, sym, ap, ◌∙◌}
use mathlib.Core.List.{List, [], ◌∷◌, map}
use mathlib.Core.Option.{some}
use native.Mathlib.Omega.{arith}
use borrow.Author.Tests.{ne_eqb}
use lib.Dec.{eqb}
use lib.IntN.{pos, ◌-ℤ◌}
use lib.ListN.{length}
use Rattle.model.specs.declared.Called.{Called}
use Rattle.model.specs.declared.Guid.{Guid}
use Rattle.model.specs.declared.Head.{Head}
use Rattle.model.specs.declared.Sheet.{Sheet}
use Rattle.model.specs.declared.TrackerCall.{TrackerCall}
use Rattle.model.specs.declared.TrackerCall.TheVariants.{Matched, WriterAsserted, ParticipantAsserted}
use Rattle.model.specs.declared.Writer.{Writer}
use Rattle.model.specs.Answers.{saying}
use Rattle.model.specs.Guids.{guid_of, guids_in}
use Rattle.model.specs.InstanceRecord.{instance_of}
use Rattle.model.specs.State.{State, class_of, alive_count, not_alive_count, state_of, head_of, writers_in, writers_of, writer_key}
use Rattle.model.specs.Tables.{pick, sift, find, put}
use Rattle.model.specs.Writers.{assertion, asserted, moves, moved, movers, guid_in, last_after, has_guid, matched_writer, match_asserts, writers_after, writer_acts, lost_after, acknowledged_after, tracker_late, tracker_told, tracker_state, tracker_turn, tracker_call}
use Rattle.model.proofs.RowLaws.{length_read}
use Rattle.tables.proofs.Sifts.{sift-map}
use Rattle.writer_pass.specs.declared.Tally.{Tally}
use Rattle.writer_pass.specs.Passes.{counts_of, shifts_by}
use Rattle.writer_pass.proofs.Picks.{same_self}
use Rattle.writer_counts.specs.Turns.{settled_head, called_by}
use Rattle.writer_counts.specs.WriterCalls.{held_by, Settles}

-- ---- lists

pub moved-is : (gs : List Guid) → not (eqb (length gs) 0) ≡ moved gs
moved-is [] = refl
moved-is (g ∷ gs) = rw (ne_eqb (suc (length gs)) 0 (λ e. omega arith))

pub sift-same : (ws : List Writer) → sift (λ (w : Writer). some w) ws ≡ ws
unfolding sift
sift-same [] = refl
sift-same (w ∷ ws) = ap (λ (l : List Writer). w ∷ l) (sift-same ws)

pub pick_same : (ws : List Writer) → pick (moves (λ (w : Writer). some w)) ws ≡ []
unfolding pick
pick_same [] = refl
pick_same (w ∷ ws) = rw (same_self (class_of w.liveliness.state)) (pick_same ws)

-- ---- a call on the writers alone

-- not refused, telling whether a class changed, and leaving Lost and the acknowledged amounts
pub record Plain (c : TrackerCall) (s : Sheet) (st : State) : Type 0 where
  pub late : tracker_late c s st ≡ 0
  pub told : tracker_told c s st ≡ saying (moved (movers c s st.writers))
  pub lost : lost_after c (movers c s st.writers) st.lost ≡ st.lost
  pub ack_alive : acknowledged_after c (alive_count st.writers) s.first st.acknowledged_alive ≡ st.acknowledged_alive
  pub ack_not_alive : acknowledged_after c (not_alive_count st.writers) s.second st.acknowledged_not_alive ≡ st.acknowledged_not_alive

module _ (c : TrackerCall) (s : Sheet) (head : Head) (pens w lost : List ℕ) (ws : List Writer) (gs : List Guid) (t : Tally) (n : ℕ)
    (after : writers_after c s (writers_in head.writer_count w) ≡ ws) (who : movers c s (writers_in head.writer_count w) ≡ gs)
    (k : t.counts ≡ counts_of ws) (m : t.moved ≡ length gs) (l : t.last ≡ last_after gs head.last_writer) (size : n ≡ length ws) where
  -- the head of the state that a turn leaves
  pub turn-head : (lost₂ : List Guid) (lost_count : ℕ) → lost_after c gs (guids_in head.lost_count lost) ≡ lost₂ → lost_count ≡ length lost₂ →
      acknowledged_after c (alive_count (writers_in head.writer_count w)) s.first (pos head.alive -ℤ head.alive_change) ≡ pos head.alive -ℤ head.alive_change →
      acknowledged_after c (not_alive_count (writers_in head.writer_count w)) s.second (pos head.not_alive -ℤ head.not_alive_change)
      ≡ pos head.not_alive -ℤ head.not_alive_change →
      settled_head head n lost_count t ≡ head_of head.places (tracker_state c s (held_by head pens w lost))
  unfolding head_of tracker_state state_of
  turn-head lost₂ lost_count e f a b =
      rw (after, who, e, a, b, length_read instance_of 512 head.instance_count pens, ← size, ← f, k, m, l)

  turn-laid : writers_of ws ≡ writers_of (tracker_state c s (held_by head pens w lost)).writers
  unfolding tracker_state state_of
  turn-laid = ap writers_of (sym after)

  pub turn-settles : Plain c s (held_by head pens w lost) → (r : Called) (w' : List ℕ) → r ≡ called_by head n t → w' ≡ writers_of ws →
      Settles head.places (tracker_call c s (held_by head pens w lost)) r w'
  unfolding tracker_call tracker_turn state_of
  turn-settles p r w' e f =
      let h : settled_head head n head.lost_count t ≡ head_of head.places (tracker_state c s (held_by head pens w lost)) =
      turn-head (guids_in head.lost_count lost) head.lost_count (ap (λ (z : List Guid). lost_after c z (guids_in head.lost_count lost)) (sym who) ∙ p.lost)
      (sym (length_read guid_of 16 head.lost_count lost)) p.ack_alive p.ack_not_alive in
      let a : saying (not (eqb t.moved 0)) ≡ tracker_told c s (held_by head pens w lost) =
      ap saying (ap (λ (z : ℕ). not (eqb z 0)) m ∙ moved-is gs ∙ ap moved (sym who)) ∙ sym p.told in
      rw p.late
      record {
        answer = ap (λ (z : Called). z.answer) e ∙ a;
        head = ap (λ (z : Called). z.head) e ∙ h;
        laid = f ∙ turn-laid;
      }

-- ---- assertions and matches

module _ (s : Sheet) (ws : List Writer) where
  pub assert_turn : writers_after WriterAsserted s ws ≡ map (asserted (assertion true true s)) ws
  unfolding writers_after
  assert_turn = sift-map (asserted (assertion true true s)) ws

  pub assert_who : movers WriterAsserted s ws ≡ map guid_in (pick (shifts_by (asserted (assertion true true s))) ws)
  unfolding movers
  assert_who = refl

  pub participant_turn : writers_after ParticipantAsserted s ws ≡ map (asserted (assertion false s.manual s)) ws
  unfolding writers_after
  participant_turn = sift-map (asserted (assertion false s.manual s)) ws

  pub participant_who : movers ParticipantAsserted s ws ≡ map guid_in (pick (shifts_by (asserted (assertion false s.manual s))) ws)
  unfolding movers
  participant_who = refl

  abbrev pub begun : List Writer
  begun = put writer_key (matched_writer s (find (has_guid s.guid) ws)) ws

  pub match_turn : match_asserts s ws ≡ true → writers_after Matched s ws ≡ map (asserted (assertion true false s)) begun
  unfolding writers_after
  match_turn e = ap (λ (b : Bool). sift (writer_acts Matched s b) begun) e ∙ sift-map (asserted (assertion true false s)) begun

  pub match_who : match_asserts s ws ≡ true → movers Matched s ws ≡ map guid_in (pick (shifts_by (asserted (assertion true false s))) begun)
  unfolding movers
  match_who e = ap (λ (b : Bool). map guid_in (pick (moves (writer_acts Matched s b)) begun)) e

  pub still_turn : match_asserts s ws ≡ false → writers_after Matched s ws ≡ begun
  unfolding writers_after
  still_turn e = ap (λ (b : Bool). sift (writer_acts Matched s b) begun) e ∙ sift-same begun

  pub still_who : match_asserts s ws ≡ false → movers Matched s ws ≡ []
  unfolding movers
  still_who e = ap (λ (b : Bool). map guid_in (pick (moves (writer_acts Matched s b)) begun)) e ∙ ap (map guid_in) (pick_same begun)
