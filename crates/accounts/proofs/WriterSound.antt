-- A tracker call leaves the writers' part of the state well formed.
--     ok-writer, fits_writer     a sound writer passes section 2's test and fits
--     all_plain                  a departed one has only GUID and state
--     tracker-sound              an accepted tracker call
use mathlib.Core.Bool.{Bool, true, false, not, ◌&&◌}
use mathlib.Core.List.{List}
use mathlib.Core.Path.{◌≡◌, refl, sym, ap, subst}
use Prim.Native.Nat.{ℕ, ◌+◌, ◌^◌, ◌≤◌, ◌<◌}
use native.Mathlib.Omega.{arith}
use borrow.Author.Tests.{eqb-true, ltb-true, ltb-false, lt-ltb, le-leb, not-true}
use lib.Dec.{eqb}
use lib.IntN.{ℤ, pos, ◌+ℤ◌}
use lib.ListN.{length, length-append}
use mir.Syntax.{w32}
use mir.Val.{to_z}
use Rattle.octets.specs.Lay.{All}
use Rattle.octets.proofs.LayLaws.{all_append}
use Rattle.model.specs.declared.AcknowledgeUse.{AcknowledgeUse}
use Rattle.model.specs.declared.AcknowledgeUse.TheVariants.{Nothing, Whole, Part}
use Rattle.model.specs.declared.Guid.{Guid}
use Rattle.model.specs.declared.LivelinessKind.{LivelinessKind}
use Rattle.model.specs.declared.LivelinessKind.TheVariants.{Automatic, ManualByParticipant, ManualByTopic}
use Rattle.model.specs.declared.LostUse.{LostUse}
use Rattle.model.specs.declared.LostUse.TheVariants.{Leaves, Appends, Empties}
use Rattle.model.specs.declared.MaybeLease.{MaybeLease}
use Rattle.model.specs.declared.Sheet.{Sheet}
use Rattle.model.specs.declared.Writer.{Writer}
use Rattle.model.specs.declared.WriterState.{WriterState}
use Rattle.model.specs.declared.WriterState.TheVariants.{Departed}
use Rattle.model.specs.declared.TrackerCall.{TrackerCall}
use Rattle.model.specs.Guids.{num}
use Rattle.model.specs.State.{State, writer_key, counts_alive, counts_not_alive, alive_count, not_alive_count}
use Rattle.model.specs.Tables.{is_some, find, put}
use Rattle.model.specs.WellFormed.{lease_ok, only_state, writer_ok, within}
use Rattle.model.specs.Writers.{tracker_rule, matched_writer, departed, has_guid, writers_begun, writer_step, writers_after, movers, lost_with, lost_after, acknowledged_with, no_place, appends, too_many, tracker_late, tracker_state, acknowledgeable, acknowledgeable_with}
use Rattle.model.specs.WriterRecord.{liveliness_number}
use Rattle.model.proofs.Fits.{FitsGuid, FitsWriter}
use Rattle.model.proofs.Tests.{both, split}
use Rattle.accounts.specs.Ranges.{bound}
use Rattle.accounts.proofs.Basics.{either, all_weaken, one_more, never}
use Rattle.accounts.proofs.Steps.{passed, and_false}
use Rattle.accounts.proofs.TurnLaws.{Within, all-sift, length-put, length-pick}
use Rattle.model.proofs.TableLaws.{length-sift}
use Rattle.accounts.proofs.WriterTurns.{Plain, SoundWriter, ClockFits, matched-guid, acts-sound, begun-sound, movers_fit}

-- ---- sound writers are well formed and fit

lease_small : (l : MaybeLease) → lease_ok l ≡ true → l.nanos < 256 ^ 8
unfolding lease_ok
lease_small l e =
    split l.present
    (λ p. let n : l.nanos < 2 ^ 62 = ltb-true l.nanos (2 ^ 62) (rw p at e) in omega arith)
    (λ p. let n : l.nanos ≡ 0 = eqb-true l.nanos 0 (rw p at e) in omega arith)

pub ok-writer : (w : Writer) → SoundWriter w → writer_ok w ≡ true
unfolding writer_ok
ok-writer w m = rw (m.lease, lt-ltb w.liveliness.last_assertion (2 ^ 62) m.last) m.only

pub fits_writer : (w : Writer) → SoundWriter w → FitsWriter w
fits_writer w m =
    record { guid = m.guid; lease = lease_small w.liveliness.lease m.lease; last = omega (arith, m.last) }

-- ---- the writers after a call

after-sound : (c : TrackerCall) (s : Sheet) (ws : List Writer) → ClockFits c s → All SoundWriter ws →
    All SoundWriter (writers_after c s ws)
unfolding writers_after
after-sound c s ws f a =
    all-sift SoundWriter SoundWriter (writer_step c s ws) (writers_begun c s ws)
    (λ w y m e. acts-sound c s ws w y f m e) (begun-sound c s ws f a)

-- ---- how many

begun-few : (c : TrackerCall) (s : Sheet) (st : State) → Within writer_key 0 bound st.writers →
    eqb (tracker_late c s st) 0 ≡ true →
    length st.writers ≤ 128 → length (writers_begun c s st.writers) ≤ 128
begun-few c s st w e l =
    either (λ (ws : List Writer). length ws ≤ 128) (tracker_rule c).matches
    (put writer_key (matched_writer s (find (has_guid s.guid) st.writers)) st.writers) st.writers
    (λ m.
    let k : num (matched_writer s (find (has_guid s.guid) st.writers)).guid ≡ num s.guid =
    ap num (matched-guid s (find (has_guid s.guid) st.writers)) in
    let room : no_place s st ≡ false = and_false (tracker_rule c).matches (no_place s st) (passed _ 11 _ refl e).0 m in
    rw (length-put writer_key 0 bound (matched_writer s (find (has_guid s.guid) st.writers)) st.writers w, k)
    (one_more 128 (is_some (find (has_guid s.guid) st.writers)) (length st.writers) l room))
    (λ m. l)

after-few : (c : TrackerCall) (s : Sheet) (st : State) → Within writer_key 0 bound st.writers →
    eqb (tracker_late c s st) 0 ≡ true →
    length st.writers ≤ 128 → length (writers_after c s st.writers) ≤ 128
unfolding writers_after
after-few c s st w e l =
    omega (arith, length-sift (writer_step c s st.writers) (writers_begun c s st.writers), begun-few c s st w e l)

lost-within : (u : LostUse) (gone : List Guid) (st : State) → (appends u && too_many gone st) ≡ false →
    length st.lost ≤ 256 → length (lost_with u gone st.lost) ≤ 256
lost-within Leaves gone st e l = l
lost-within Appends gone st e l =
    rw (length-append st.lost gone) (ltb-false 256 (length st.lost + length gone) e)
lost-within Empties gone st e l = omega arith

lost-few : (c : TrackerCall) (s : Sheet) (st : State) → eqb (tracker_late c s st) 0 ≡ true → length st.lost ≤ 256 →
    length (lost_after c (movers c s st.writers) st.lost) ≤ 256
lost-few c s st e l =
    let p = passed ((tracker_rule c).matches && no_place s st) 11 _ refl e in
    lost-within (tracker_rule c).lost (movers c s st.writers) st (passed _ 12 0 refl p.1).0 l

lost_fit : (u : LostUse) (gone lost : List Guid) → All FitsGuid gone → All FitsGuid lost →
    All FitsGuid (lost_with u gone lost)
lost_fit Leaves gone lost f l = l
lost_fit Appends gone lost f l = all_append FitsGuid lost gone l f
lost_fit Empties gone lost f l = tt

-- ---- what is acknowledged

near_count : (n : ℕ) → n ≤ 128 → within (pos n) ≡ true
unfolding within
near_count n l = le-leb n 1_073_741_824 (omega arith)

near_after : (u : AcknowledgeUse) (n part : ℕ) (z : ℤ) → n ≤ 128 → within z ≡ true →
    (u ≡ Part → within (z +ℤ to_z w32 part) ≡ true) →
    within (acknowledged_with u n part z) ≡ true
near_after Nothing n part z l e d = e
near_after Whole n part z l e d = near_count n l
near_after Part n part z l e d = d refl

-- ---- the writers' part of the state

pub record SoundWriters (st : State) : Type 0 where
  pub near_alive : within st.acknowledged_alive ≡ true
  pub near_not_alive : within st.acknowledged_not_alive ≡ true
  pub few : length st.writers ≤ 128
  pub each : All SoundWriter st.writers
  pub few_lost : length st.lost ≤ 256
  pub lost : All FitsGuid st.lost

-- a departed record has only GUID and state
bare_record : (g : Guid) (k : LivelinessKind) (st : WriterState) (p : Bool) (n last : ℕ) → k ≡ Automatic → st ≡ Departed →
    p ≡ false →
    n ≡ 0 → last ≡ 0 →
    ◌≡◌ {A = Writer} record { guid = g; liveliness = record { kind = k; state = st; lease = record { present = p; nanos = n }; last_assertion = last } } (departed g)
bare_record g k st p n last a b c d e = rw (a, b, c, d, e)

automatic-zero : (k : LivelinessKind) → eqb (liveliness_number k) 0 ≡ true → k ≡ Automatic
automatic-zero Automatic e = refl
automatic-zero ManualByParticipant e = never (sym e)
automatic-zero ManualByTopic e = never (sym e)

absent_lease : (l : MaybeLease) → lease_ok l ≡ true → l.present ≡ false → l.nanos ≡ 0
unfolding lease_ok
absent_lease l e p = eqb-true l.nanos 0 (rw p at e)

plain-sound : (w : Writer) → SoundWriter w → Plain w
plain-sound w m =
    record {
      guid = m.guid;
      bare = λ e.
          let o : only_state w.liveliness ≡ true = rw e at m.only in
          let k = both (eqb (liveliness_number w.liveliness.kind) 0) _ o in
          let p = both (not w.liveliness.lease.present) _ k.1 in
          let absent : w.liveliness.lease.present ≡ false = not-true w.liveliness.lease.present p.0 in
          bare_record w.guid w.liveliness.kind w.liveliness.state w.liveliness.lease.present
          w.liveliness.lease.nanos
          w.liveliness.last_assertion (automatic-zero w.liveliness.kind k.0) e absent
          (absent_lease w.liveliness.lease m.lease absent) (eqb-true w.liveliness.last_assertion 0 p.1);
    }

pub all_plain : (ws : List Writer) → All SoundWriter ws → All Plain ws
all_plain ws a = all_weaken SoundWriter Plain plain-sound ws a

pub tracker-sound : (c : TrackerCall) (s : Sheet) (st : State) → ClockFits c s → acknowledgeable c s st ≡ true →
    eqb (tracker_late c s st) 0 ≡ true →
    Within writer_key 0 bound st.writers → SoundWriters st → SoundWriters (tracker_state c s st)
unfolding tracker_state alive_count not_alive_count
tracker-sound c s st f ok late w m =
    record {
      near_alive =
          near_after (tracker_rule c).acknowledges _ s.first st.acknowledged_alive (omega (arith, length-pick counts_alive st.writers, m.few))
          m.near_alive
          (λ e. (parts e).0);
      near_not_alive =
          near_after (tracker_rule c).acknowledges _ s.second st.acknowledged_not_alive
          (omega (arith, length-pick counts_not_alive st.writers, m.few)) m.near_not_alive
          (λ e. (parts e).1);
      few = after-few c s st w late m.few;
      each = after-sound c s st.writers f m.each;
      few_lost = lost-few c s st late m.few_lost;
      lost =
          lost_fit (tracker_rule c).lost _ st.lost (movers_fit c s st.writers f.guid (all_plain st.writers m.each)) m.lost;
    }
  where
    parts : (tracker_rule c).acknowledges ≡ Part →
        (within (st.acknowledged_alive +ℤ to_z w32 s.first) ≡ true) ×
        (within (st.acknowledged_not_alive +ℤ to_z w32 s.second) ≡ true)
    parts e = both _ _ (subst (λ (u : AcknowledgeUse). acknowledgeable_with u s st ≡ true) e ok)
