-- The calls by name: what each branch of the code returned and left is model's turn, over plain variables.
--     place_of                                        a GUID that was found stands at a place
--     writer-asserts, participant_asserts             codes 35 and 36
--     unmatched-gone, unmatched-stays                 code 33
--     lost-gone, lost-departs                         code 34
--     leave_missing                                   both, where the GUID has no record
--     asserting, not_asserting                        a match asserts, or not
--     again_put, again_tracked, again_after, first-put, first-full, first-after     code 32
use Prim.Native.Nat.{ℕ, ◌+◌, ◌-◌, ◌*◌, ◌≤◌, ◌<◌}
use mathlib.Core.Bool.{Bool, true, false, cond, and-false, and-true}
use mathlib.Core.Path.{◌≡◌, refl, sym, ap, ◌∙◌}
use mathlib.Core.List.{List, map}
use mathlib.Core.Option.{Option, none, some}
use native.Mathlib.Omega.{arith}
use lib.ListN.{take, drop, get_or}
use Rattle.octets.specs.Bounds.{Bytes}
use Rattle.octets.specs.Patch.{patch}
use Rattle.model.specs.declared.Called.{Called}
use Rattle.model.specs.declared.Head.{Head}
use Rattle.model.specs.declared.Sheet.{Sheet}
use Rattle.model.specs.declared.TrackerCall.TheVariants.{Matched, Unmatched, LostWithParticipant, WriterAsserted, ParticipantAsserted}
use Rattle.model.specs.declared.Writer.{Writer}
use Rattle.model.specs.declared.WriterState.{WriterState}
use Rattle.model.specs.declared.WriterState.TheVariants.{Unasserted, Alive, NotAlive, Departed}
use Rattle.model.specs.Answers.{refused_with}
use Rattle.model.specs.Guids.{num}
use Rattle.model.specs.Refusals.{clocks_used_by}
use Rattle.model.specs.State.{State, neither, class_of, writers_in, writer_key}
use Rattle.model.specs.Tables.{all, sift, pick}
use Rattle.model.specs.WellFormed.{clock_ok}
use Rattle.model.specs.WriterRecord.{writer_of, writer_bytes, state_number}
use Rattle.model.specs.Writers.{assertion, asserted, is_tracked, unmatched_from, lost_as, departed, matched_writer, match_asserts, moves, guid_in, movers, writers_after, tracker_call}
use Rattle.model.proofs.Fits.{FitsGuid}
use Rattle.std.specs.Prelude.{Ok, Err}
use Rattle.tables.specs.Found.{found_in}
use Rattle.tables.specs.Gaps.{opened, closed}
use Rattle.tables.specs.Keys.{keys}
use Rattle.tables.proofs.RecordLaws.{at_lt}
use Rattle.writer_pass.specs.declared.Tally.{Tally}
use Rattle.writer_counts.specs.Turns.{called_by, still_tally, gone_tally, departs_tally}
use Rattle.writer_counts.specs.WriterCalls.{WritersFormed, Turns, Settles, held_by, leaving, Passable, assertion_on, automatic, asserted_table, asserted_tally}
use Rattle.writer_counts.proofs.Calling.{found_in_lem, at_place, pass_settles}
use Rattle.writer_counts.proofs.Holding.{Good, good}
use Rattle.writer_counts.proofs.Matches.{Put, put_again, put_first, late_there, asserts-there, late_absent, asserts-absent, match_full, match_kept, match_asserted, ready, within}
use Rattle.writer_counts.proofs.Singles.{only, missing_lacks, single-gone, single-stays, single-departs, single-missing}
use Rattle.writer_counts.proofs.Turning.{Plain, assert_turn, assert_who, participant_turn, participant_who}

-- a writer's record at place i
abbrev record_at : List ℕ → ℕ → Writer
record_at w i = writer_of (take 40 (drop (i * 40) w))

-- ---- the steps of codes 33 and 34

abbrev lost_from : Writer → Option Writer
lost_from x = lost_as x.liveliness.state x

unmatched-after : (s : Sheet) (ws : List Writer) → writers_after Unmatched s ws ≡ sift (only s.guid unmatched_from) ws
unfolding writers_after
unmatched-after s ws = refl

unmatched_who : (s : Sheet) (ws : List Writer) → movers Unmatched s ws ≡ map guid_in (pick (moves (only s.guid unmatched_from)) ws)
unfolding movers
unmatched_who s ws = refl

unmatched-plain : (s : Sheet) (st : State) → Plain Unmatched s st
unmatched-plain s st = record { late = refl; told = refl; lost = refl; ack_alive = refl; ack_not_alive = refl }

lost-after : (s : Sheet) (ws : List Writer) → writers_after LostWithParticipant s ws ≡ sift (only s.guid lost_from) ws
unfolding writers_after
lost-after s ws = refl

lost_who : (s : Sheet) (ws : List Writer) → movers LostWithParticipant s ws ≡ map guid_in (pick (moves (only s.guid lost_from)) ws)
unfolding movers
lost_who s ws = refl

lost-plain : (s : Sheet) (st : State) → Plain LostWithParticipant s st
lost-plain s st = record { late = refl; told = refl; lost = refl; ack_alive = refl; ack_not_alive = refl }

lost_none : (st : WriterState) (x : Writer) → state_number st ≡ 0 → lost_as st x ≡ none
lost_none Unasserted x e = refl
lost_none Alive x e = absurd (omega arith)
lost_none NotAlive x e = absurd (omega arith)
lost_none Departed x e = absurd (omega arith)

lost_some : (st : WriterState) (x : Writer) → (state_number st ≡ 0 → ⊥) → lost_as st x ≡ some (departed x.guid)
lost_some Unasserted x h = absurd (h refl)
lost_some Alive x h = refl
lost_some NotAlive x h = refl
lost_some Departed x h = refl

counted : (st : WriterState) → (state_number st ≡ 0 → ⊥) → class_of st ≡ neither → ⊥
counted Unasserted h e = h refl
counted Alive h e = let z : ◌≡◌ {A = ℕ} 0 1 = cc in omega arith
counted NotAlive h e = let z : ◌≡◌ {A = ℕ} 0 1 = cc in omega arith
counted Departed h e = let z : ◌≡◌ {A = ℕ} 0 1 = cc in omega arith

module _ (s : Sheet) (head : Head) (w : List ℕ) (bytes : Bytes w) (held : WritersFormed head w) where
  abbrev n : ℕ
  n = head.writer_count

  abbrev ws : List Writer
  ws = writers_in head.writer_count w

  g : Good head w
  g = good head w bytes held

  -- ---- codes 35 and 36

  pub writer-asserts : (r : Called) (w' : List ℕ) → w' ≡ asserted_table (assertion_on true true s) n w →
      r ≡ called_by head n (asserted_tally head (assertion_on true true s) n w) → Turns WriterAsserted s head w r w'
  writer-asserts r w' e f pens lost =
      pass_settles WriterAsserted s (asserted (assertion true true s)) head w held.long g (assert_turn s ws) (assert_who s ws) pens lost
      record { late = refl; told = refl; lost = refl; ack_alive = refl; ack_not_alive = refl } r w' e f

  pub participant_asserts : (r : Called) (w' : List ℕ) → w' ≡ asserted_table (assertion_on false s.manual s) n w →
      r ≡ called_by head n (asserted_tally head (assertion_on false s.manual s) n w) → Turns ParticipantAsserted s head w r w'
  participant_asserts r w' e f pens lost =
      pass_settles ParticipantAsserted s (asserted (assertion false s.manual s)) head w held.long g (participant_turn s ws) (participant_who s ws) pens lost
      record { late = refl; told = refl; lost = refl; ack_alive = refl; ack_not_alive = refl } r w' e f

  -- ---- where the GUID was missing

  unmatched-missing : (i : ℕ) → found_in (keys 40 n w) (num s.guid) ≡ Err i → (r : Called) → r ≡ called_by head n (still_tally head) → Turns Unmatched s head w r w
  unmatched-missing i f r e pens lost =
      single-missing Unmatched s unmatched_from head w held.long g (unmatched-after s ws) (unmatched_who s ws) (λ p l. unmatched-plain s _)
      (missing_lacks s.guid ws i g.ready.rises (departed s.guid) (found_in_lem head w g (num s.guid) (Err i) f)) r e pens lost

  lost-missing : (i : ℕ) → found_in (keys 40 n w) (num s.guid) ≡ Err i → (r : Called) → r ≡ called_by head n (still_tally head) → Turns LostWithParticipant s head w r w
  lost-missing i f r e pens lost =
      single-missing LostWithParticipant s lost_from head w held.long g (lost-after s ws) (lost_who s ws) (λ p l. lost-plain s _)
      (missing_lacks s.guid ws i g.ready.rises (departed s.guid) (found_in_lem head w g (num s.guid) (Err i) f)) r e pens lost

  pub leave_missing : (lost : Bool) (i : ℕ) → found_in (keys 40 n w) (num s.guid) ≡ Err i → (r : Called) → r ≡ called_by head n (still_tally head) →
      Turns (leaving lost) s head w r w
  leave_missing true i f r e = lost-missing i f r e
  leave_missing false i f r e = unmatched-missing i f r e

  -- ---- where it was found

  module _ (i : ℕ) (f : found_in (keys 40 n w) (num s.guid) ≡ Ok i) where
    found : found_in (map writer_key ws) (num s.guid) ≡ Ok i
    found = found_in_lem head w g (num s.guid) (Ok i) f

    pub place_of : i < n
    place_of = omega (arith, at_lt writer_key ws (num s.guid) i found, g.size)

    module _ (x : Writer) (e : x ≡ record_at w i) where
      read : x ≡ get_or ws i x
      read = at_place head w g i x place_of e

      pub unmatched-gone : is_tracked x.liveliness.state ≡ true → (r : Called) (w' : List ℕ) → r ≡ called_by head (n - 1) (gone_tally head (record_at w i)) →
          w' ≡ closed 40 i n w → Turns Unmatched s head w r w'
      unfolding unmatched_from
      unmatched-gone t r w' q v pens lost =
          single-gone Unmatched s unmatched_from head w held.long g (unmatched-after s ws) (unmatched_who s ws) (λ p l. unmatched-plain s _) i found x read
          (rw t) r w' (q ∙ ap (λ (z : Writer). called_by head (n - 1) (gone_tally head z)) (sym e)) v pens lost

      pub unmatched-stays : is_tracked x.liveliness.state ≡ false → (r : Called) → r ≡ called_by head n (still_tally head) → Turns Unmatched s head w r w
      unfolding unmatched_from
      unmatched-stays t r q pens lost =
          single-stays Unmatched s unmatched_from head w held.long g (unmatched-after s ws) (unmatched_who s ws) (λ p l. unmatched-plain s _) i found x read
          (rw t) r q pens lost

      pub lost-gone : state_number x.liveliness.state ≡ 0 → (r : Called) (w' : List ℕ) → r ≡ called_by head (n - 1) (gone_tally head (record_at w i)) →
          w' ≡ closed 40 i n w → Turns LostWithParticipant s head w r w'
      lost-gone t r w' q v pens lost =
          single-gone LostWithParticipant s lost_from head w held.long g (lost-after s ws) (lost_who s ws) (λ p l. lost-plain s _) i found x read
          (lost_none x.liveliness.state x t) r w' (q ∙ ap (λ (z : Writer). called_by head (n - 1) (gone_tally head z)) (sym e)) v pens lost

      pub lost-departs : (state_number x.liveliness.state ≡ 0 → ⊥) → (r : Called) (w' : List ℕ) → r ≡ called_by head n (departs_tally head (record_at w i)) →
          w' ≡ patch w (i * 40) 40 (writer_bytes (departed (record_at w i).guid)) → Turns LostWithParticipant s head w r w'
      lost-departs t r w' q v pens lost =
          single-departs LostWithParticipant s lost_from head w held.long g (lost-after s ws) (lost_who s ws) (λ p l. lost-plain s _) i found x read
          (lost_some x.liveliness.state x t) (counted x.liveliness.state t) r w' (q ∙ ap (λ (z : Writer). called_by head n (departs_tally head z)) (sym e))
          (v ∙ ap (λ (z : Writer). patch w (i * 40) 40 (writer_bytes (departed z.guid))) (sym e)) pens lost

      -- ---- a match of a GUID that has a record

      module _ (fits : FitsGuid s.guid) (used : all clock_ok (clocks_used_by Matched s) ≡ true) (w₁ : List ℕ)
          (p : w₁ ≡ patch w (i * 40) 40 (writer_bytes (matched_writer s (some x)))) where
        pub again_put : Put s head w w₁ n
        again_put = put_again s head w bytes held.long g fits used i x found read w₁ p

        pub again_ready : Passable head n w₁
        again_ready = ready s head w bytes held.long g fits used w₁ n again_put

        pub again_tracked : is_tracked x.liveliness.state ≡ true → (r : Called) → r ≡ called_by head n (still_tally head) → Turns Matched s head w r w₁
        again_tracked t r q pens lost =
            match_kept s head w bytes held.long g fits used w₁ n again_put pens lost (late_there s head w bytes held.long g fits used i x found read pens lost)
            (asserts-there s head w bytes held.long g fits used i x found read ∙ rw t (and-false (automatic s))) r q

        pub again_after : is_tracked x.liveliness.state ≡ false → (r : Called) (w₂ : List ℕ) →
            w₂ ≡ cond (automatic s) (asserted_table (assertion_on true false s) n w₁) w₁ →
            r ≡ called_by head n (cond (automatic s) (asserted_tally head (assertion_on true false s) n w₁) (still_tally head)) → Turns Matched s head w r w₂
        again_after t r w₂ v q pens lost =
            each (automatic s) (asserts-there s head w bytes held.long g fits used i x found read ∙ rw t (and-true (automatic s))) v q
          where
            each : (b : Bool) → match_asserts s ws ≡ b → w₂ ≡ cond b (asserted_table (assertion_on true false s) n w₁) w₁ →
                r ≡ called_by head n (cond b (asserted_tally head (assertion_on true false s) n w₁) (still_tally head)) → Settles head.places (tracker_call Matched s (held_by head pens w lost)) r w₂
            each true m v q =
                match_asserted s head w bytes held.long g fits used w₁ n again_put pens lost (late_there s head w bytes held.long g fits used i x found read pens lost) m r w₂ v q
            each false m v q =
                rw v
                (match_kept s head w bytes held.long g fits used w₁ n again_put pens lost (late_there s head w bytes held.long g fits used i x found read pens lost) m r q)

  -- ---- a match of a GUID that has none

  module _ (i : ℕ) (f : found_in (keys 40 n w) (num s.guid) ≡ Err i) (fits : FitsGuid s.guid) (used : all clock_ok (clocks_used_by Matched s) ≡ true) where
    nowhere : found_in (map writer_key ws) (num s.guid) ≡ Err i
    nowhere = found_in_lem head w g (num s.guid) (Err i) f

    pub first-within : i ≤ n
    first-within = within s head w bytes held.long g fits used i nowhere

    pub first-full : 128 ≤ n → (r : Called) → r.answer ≡ refused_with 11 → r.head ≡ head → Turns Matched s head w r w
    first-full h r a e pens lost = match_full s head w bytes held.long g fits used i nowhere h r a e pens lost

    module _ (few : n < 128) (w₁ : List ℕ) (p : w₁ ≡ patch (opened 40 i n w) (i * 40) 40 (writer_bytes (matched_writer s none))) where
      pub first-put : Put s head w w₁ (n + 1)
      first-put = put_first s head w bytes held.long g fits used i nowhere few w₁ p

      pub first_ready : Passable head (n + 1) w₁
      first_ready = ready s head w bytes held.long g fits used w₁ (n + 1) first-put

      pub first-after : (r : Called) (w₂ : List ℕ) → w₂ ≡ cond (automatic s) (asserted_table (assertion_on true false s) (n + 1) w₁) w₁ →
          r ≡ called_by head (n + 1) (cond (automatic s) (asserted_tally head (assertion_on true false s) (n + 1) w₁) (still_tally head)) → Turns Matched s head w r w₂
      first-after r w₂ v q pens lost = each (automatic s) (asserts-absent s head w bytes held.long g fits used i nowhere) v q
        where
          each : (b : Bool) → match_asserts s ws ≡ b → w₂ ≡ cond b (asserted_table (assertion_on true false s) (n + 1) w₁) w₁ →
              r ≡ called_by head (n + 1) (cond b (asserted_tally head (assertion_on true false s) (n + 1) w₁) (still_tally head)) → Settles head.places (tracker_call Matched s (held_by head pens w lost)) r w₂
          each true m v q =
              match_asserted s head w bytes held.long g fits used w₁ (n + 1) first-put pens lost (late_absent s head w bytes held.long g fits used i nowhere few pens lost) m r w₂ v q
          each false m v q =
              rw v
              (match_kept s head w bytes held.long g fits used w₁ (n + 1) first-put pens lost (late_absent s head w bytes held.long g fits used i nowhere few pens lost) m r q)

-- ---- a match asserts, or not

module _ (b : Bool) (w x y : List ℕ) (r : Called) (head : Head) (n : ℕ) (u v : Tally) where
  pub asserting : b ≡ true → w ≡ x → r ≡ called_by head n u → (w ≡ cond b x y) × (r ≡ called_by head n (cond b u v))
  asserting e p q = rw e (p, q)

  pub not_asserting : b ≡ false → w ≡ y → r ≡ called_by head n v → (w ≡ cond b x y) × (r ≡ called_by head n (cond b u v))
  not_asserting e p q = rw e (p, q)
