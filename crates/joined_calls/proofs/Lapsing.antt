-- Code 49: the expiry, then the loss of the writers that it put into Lost.
--     lapse-counts, lapse_losable
--                         how many Lost holds after the expiry; the instances can then be passed over
--     lapse-listed        those that come to Lost rise, and are at most 128
--     lapse-left          what the call leaves where the expiry is accepted
--     lapse-stays         and where it is refused
use Prim.Native.Nat.{ℕ, ◌+◌, ◌≤◌}
use mathlib.Core.Bool.{Bool, true, false, cond}
use mathlib.Core.List.{List, ◌++◌}
use mathlib.Core.Path.{◌≡◌, refl, sym, ap, ◌∙◌}
use native.Mathlib.Omega.{arith}
use borrow.Author.Tests.{ltb-false}
use lib.Dec.{ltb}
use lib.ListN.{length, length-append}
use Rattle.octets.specs.Bounds.{Bytes}
use Rattle.model.specs.declared.Answer.{Answer}
use Rattle.model.specs.declared.Called.{Called}
use Rattle.model.specs.declared.Guid.{Guid}
use Rattle.model.specs.declared.Head.{Head}
use Rattle.model.specs.declared.JoinedCall.TheVariants.{Lapse}
use Rattle.model.specs.declared.Sheet.{Sheet}
use Rattle.model.specs.declared.TrackerCall.TheVariants.{Expire}
use Rattle.model.specs.Call.{lent_of}
use Rattle.model.specs.Calls.{joined}
use Rattle.model.specs.Guids.{num, guid_of}
use Rattle.model.specs.Refusals.{sheet_refusal}
use Rattle.model.specs.State.{Lent, State, state_of, head_of, lost_of, instances_in, writers_in}
use Rattle.model.specs.Tables.{rising}
use Rattle.model.specs.Writers.{movers, tracker_state, tracker_turn, tracker_late, tracker_call}
use Rattle.model.proofs.RowLaws.{length_read}
use Rattle.model.proofs.TrackerLaws.{late_number_lem}
use Rattle.writer_counts.specs.WriterCalls.{WritersFormed}
use Rattle.writer_counts.proofs.Holding.{good}
use Rattle.writer_expiry.specs.Losing.{Leaves, Expires}
use Rattle.joined_calls.specs.Losses.{Losable, Loses, gone_since, LapseJudged}
use Rattle.joined_calls.proofs.Gone.{gone_fits, gone-rises, gone-few, expired-gone}
use Rattle.joined_calls.proofs.Losing.{count_kept, turn_taken, loss_left, loss_stays}

-- ---- Lost after the expiry

not_late : (b : Bool) → ◌≡◌ {A = ℕ} (cond b 12 0) 0 → b ≡ false
not_late true e = absurd (omega arith)
not_late false e = refl

-- no more than 256
lost-room : (s : Sheet) (st : State) → tracker_late Expire s st ≡ 0 → length st.lost + length (movers Expire s st.writers) ≤ 256
lost-room s st e = ltb-false 256 _ (not_late (ltb 256 (length st.lost + length (movers Expire s st.writers))) e)

lost_grown : (s : Sheet) (st : State) → (tracker_turn Expire s st).state.lost ≡ st.lost ++ movers Expire s st.writers
unfolding tracker_turn tracker_state
lost_grown s st = refl

module _ (s : Sheet) (l : Lent) (r : Called) (writers' lost' : List ℕ) (d : Leaves l.head.places (tracker_call Expire s (state_of l)) r writers' lost') where
  abbrev st : State
  st = state_of l

  abbrev gone : List Guid
  gone = movers Expire s st.writers

  late_is : r.answer.number ≡ tracker_late Expire s st
  late_is = ap (λ (a : Answer). a.number) d.settles.answer ∙ late_number_lem Expire s st

  module _ (accepted : r.answer.number ≡ 0) where
    on_time : tracker_late Expire s st ≡ 0
    on_time = sym late_is ∙ accepted

    turned : Leaves l.head.places (tracker_turn Expire s st) r writers' lost'
    turned = rw (turn_taken Expire s st on_time) at d

    before-is : l.head.lost_count ≡ length st.lost
    unfolding state_of
    before-is = sym (length_read guid_of 16 l.head.lost_count l.lost)

    after_is : r.head.lost_count ≡ length (st.lost ++ gone)
    unfolding head_of
    after_is = ap (λ (h : Head). h.lost_count) turned.settles.head ∙ ap length (lost_grown s st)

    counts : (l.head.lost_count ≤ r.head.lost_count) × (r.head.lost_count ≤ 256)
    counts =
        let n = length-append st.lost gone in
        (omega (arith, before-is, after_is, n), omega (arith, after_is, n, lost-room s st on_time))

    -- what came to Lost are the writers that this call expired
    gone_since_lem : Bytes l.writers → gone_since l.head.lost_count r.head.lost_count lost' ≡ gone
    unfolding state_of
    gone_since_lem bytes =
        expired-gone st.lost gone l.head.lost_count r.head.lost_count lost' (gone_fits s l.head.writer_count l.writers bytes) before-is after_is
        (turned.lost_laid ∙ ap lost_of (lost_grown s st))

    -- they are no more than the writers
    gone_little : length st.writers ≤ 128 → r.head.lost_count ≤ l.head.lost_count + 128
    gone_little h = omega (arith, before-is, after_is, length-append st.lost gone, gone-few s st.writers)

-- ---- the call

module _ (s : Sheet) (head : Head) (pens writers lost out : List ℕ) (called : Called) (writers' lost' : List ℕ) (d : Expires s head writers lost called writers' lost') where
  abbrev lent : Lent
  lent = lent_of head pens writers lost out

  leaves : Leaves head.places (tracker_call Expire s (state_of lent)) called writers' lost'
  unfolding state_of
  leaves = d pens

  pub lapse-counts : called.answer.number ≡ 0 → (head.lost_count ≤ called.head.lost_count) × (called.head.lost_count ≤ 256)
  lapse-counts accepted = counts s lent called writers' lost' leaves accepted

  -- what comes to Lost rises, as the writers do
  pub lapse-listed : Bytes writers → WritersFormed head writers → called.answer.number ≡ 0 →
      (called.head.lost_count ≤ head.lost_count + 128) × (rising num (gone_since head.lost_count called.head.lost_count lost') ≡ true)
  unfolding state_of
  lapse-listed b w accepted =
      let g = good head writers b w in (
        gone_little s lent called writers' lost' leaves accepted (omega (arith, g.size, g.ready.sound.few)),
        rw (gone_since_lem s lent called writers' lost' leaves accepted b) (gone-rises s (writers_in head.writer_count writers) g.ready.rises),
      )

  pub lapse_losable : Losable head.instance_count pens out → Losable called.head.instance_count pens out
  lapse_losable h = rw (count_kept Expire s head pens writers lost called writers' (d pens).settles) h

  pub lapse-left : ((st : State) → 0 ≡ sheet_refusal (joined Lapse) s st) → called.answer.number ≡ 0 → (r : Called) (pens' out' : List ℕ) →
      Loses s (gone_since head.lost_count called.head.lost_count lost') (instances_in called.head.instance_count pens) called pens out r pens' out' →
      LapseJudged s head pens writers lost out r pens' writers' lost' out'
  lapse-left fine accepted r pens' out' b places e =
      let g = gone_since_lem s lent called writers' lost' leaves accepted e.writers_bytes in
      let u : Loses s (movers Expire s (state_of lent).writers) (instances_in called.head.instance_count pens) called pens out r pens' out' = rw g at b in
      loss_left places Lapse s lent e (fine (state_of lent)) Expire (movers Expire s (state_of lent).writers) refl
      (on_time s lent called writers' lost' leaves accepted) called r pens' writers' lost' out' leaves u

  pub lapse-stays : ((st : State) → 0 ≡ sheet_refusal (joined Lapse) s st) → (called.answer.number ≡ 0 → ⊥) → LapseJudged s head pens writers lost out called pens writers' lost' out
  lapse-stays fine refused places e =
      loss_stays places Lapse s lent e (fine (state_of lent)) Expire (movers Expire s (state_of lent).writers) refl
      (λ late. refused (late_is s lent called writers' lost' leaves ∙ late)) called writers' lost' leaves
