-- The writers' half of demand 3: a tracker call turns the table of writers as section 6 moves each account.
--     Plain, SoundWriter, ClockFits     what is known of a writer, and of a sheet
--     Row, row          a call beside section 6's words on one writer: one row of facts for each
--     acts-sound, begun-sound      a call leaves a sound writer sound, and so does what a match puts in
--     movers-count      the movers of a call are the GUIDs that changed class, and as many
--     expired_are       those of an expire are the GUIDs that it expired
--     alive_are, not_alive_are      both counts
--     movers_fit        their GUIDs fit
--     writer-heard      a call that the writers see keeps table and accounts in step
use mathlib.Core.Bool.{Bool, true, false, not, ◌&&◌, ◌||◌, cond}
use mathlib.Core.List.{List, [], ◌∷◌, map, map-map}
use mathlib.Core.Option.{Option, none, some}
use mathlib.Core.Path.{◌≡◌, refl, sym, ap, ◌∙◌, subst}
use Prim.Native.Nat.{ℕ, ◌+◌, ◌%◌, ◌^◌, ◌<◌}
use native.Mathlib.Nat.{zero-add, mod-add-mod}
use lib.ListN.{length}
use Rattle.octets.specs.Lay.{All}
use Rattle.model.specs.declared.Guid.{Guid}
use Rattle.model.specs.declared.Sheet.{Sheet}
use Rattle.model.specs.declared.Writer.{Writer}
use Rattle.model.specs.declared.WriterState.{WriterState}
use Rattle.model.specs.declared.WriterState.TheVariants.{Unasserted, Alive, NotAlive, Departed}
use Rattle.model.specs.declared.TrackerCall.{TrackerCall}
use Rattle.model.specs.declared.TrackerCall.TheVariants.{Expire as expire, Matched as matched, Unmatched as unmatched, LostWithParticipant as lost_with_participant, WriterAsserted as writer_asserted, ParticipantAsserted as participant_asserted, TakeLost as take_lost, TakeStatus as take_status, Acknowledge as acknowledge}
use Rattle.model.specs.Guids.{num, prefix}
use Rattle.model.specs.InstanceRecord.{bit}
use Rattle.model.specs.State.{State, Class, alive, not_alive, neither, class_of, is_alive_class, is_not_alive_class, writer_key, alive_count, not_alive_count, LastWriter}
use Rattle.model.specs.Tables.{find, pick, all, put}
use Rattle.model.specs.Writers as M
use Rattle.model.specs.Writers.{tracker_rule, has_guid, matched_writer, writers_begun, writer_step, same_class, class_after, moves, guid_in, movers, last_after, tracker_state, is_tracked, lease_on, covers, covers_kind, renews, asserted, assertion, expires, expired, unmatched_from, lost_as, matched_from, match_asserts, writer_acts, lost_with, lost_after, acknowledged_with, acknowledged_after, appends}
use Rattle.model.proofs.Fits.{FitsGuid}
use Rattle.accounts.specs.Ranges.{bound, guid_numbered, between, sum_over}
use Rattle.accounts.specs.WriterAccounts as S
use Rattle.accounts.specs.WriterAccounts.{matches, run_out, lapses, is_named, Writers, writers_after, class_in, class, is_alive, is_not_alive, differ, moved, moved_at, expired_at, expired_in, alive_among, not_alive_among, WriterAccounts, last_in, heard_by, tracked_in, became, taking_from, covered, automatic, by_participant, timely, asserts, leaves, departs, departs_from, is_near, matched_at, on_writer, lost_by, acknowledged_by, change_of}
use Rattle.accounts.proofs.Basics.{all_weaken, either, and_assoc, eqb_sym, never}
use Rattle.accounts.proofs.RangeLaws.{sum-add, length-between, length-map, last-greatest, num-below, renumbered}
use Rattle.accounts.proofs.TurnLaws.{bind, test, lookup, Within, begin, begun_at, Below, lookup_begin, within_begin, turn-within, turn_at, between_ext, pick-between, all-pick, lookup_all, Keeps, lookup_key}
use native.Mathlib.Omega.{arith}
use borrow.Author.Tests.{eqb-true, ltb-true}
use lib.Dec.{leb}
use lib.IntN.{ℤ, pos, ◌+ℤ◌, ◌-ℤ◌, +ℤ_comm, -ℤ-+ℤ_cancel}
use mir.Syntax.{w32}
use mir.Val.{to_z}
use Rattle.model.specs.declared.AcknowledgeUse.{AcknowledgeUse}
use Rattle.model.specs.declared.AcknowledgeUse.TheVariants.{Nothing, Whole, Part}
use Rattle.model.specs.declared.ClockUse.{ClockUse}
use Rattle.model.specs.declared.ClockUse.TheVariants.{NoClock, Clock, ClockAndLease}
use Rattle.model.specs.declared.LivelinessKind.{LivelinessKind}
use Rattle.model.specs.declared.LivelinessKind.TheVariants.{Automatic, ManualByParticipant, ManualByTopic}
use Rattle.model.specs.declared.LostUse.{LostUse}
use Rattle.model.specs.declared.LostUse.TheVariants.{Leaves, Appends, Empties}
use Rattle.model.specs.Refusals.{clocks_used_by, clocks_with}
use Rattle.model.specs.WellFormed.{clock_ok, lease_ok, is_departed, only_state}
use Rattle.model.specs.WriterRecord.{liveliness_numbered}
use Rattle.model.proofs.Tests.{both, split}
use Rattle.model.proofs.TableLaws.{all-put}

-- ---- one writer, by its kind and by its state

-- both readings of a kind
by_kind : (k : LivelinessKind) →
    ((manual : Bool) → covers_kind k manual ≡ (automatic k || (by_participant k && manual))) × (M.is_automatic k ≡ automatic k)
by_kind Automatic = (λ manual. refl, refl)
by_kind ManualByParticipant = (λ manual. refl, refl)
by_kind ManualByTopic = (λ manual. refl, refl)

-- both readings of a state, and what a match makes of it
pub record ByState (st : WriterState) : Type 0 where
  tracked : is_tracked st ≡ tracked_in st
  not_alive : M.is_not_alive st ≡ S.not_alive_in st
  alive : M.is_alive_state st ≡ S.alive_in st
  pub same : class_of st ≡ class_in st
  taken : (s : Sheet) (last : ℕ) → matched_from s st last ≡ taking_from s st last
  guid : (s : Sheet) (last : ℕ) → (matched_from s st last).guid ≡ s.guid
  pub unmoved : (s : Sheet) (last : ℕ) → class (some (taking_from s st last)) ≡ class_in st

pub by_state : (st : WriterState) → ByState st
by_state Unasserted = record { tracked = refl; not_alive = refl; alive = refl; same = refl; taken = λ s l. refl; guid = λ s l. refl; unmoved = λ s l. refl }
by_state Alive = record { tracked = refl; not_alive = refl; alive = refl; same = refl; taken = λ s l. refl; guid = λ s l. refl; unmoved = λ s l. refl }
by_state NotAlive = record { tracked = refl; not_alive = refl; alive = refl; same = refl; taken = λ s l. refl; guid = λ s l. refl; unmoved = λ s l. refl }
by_state Departed = record { tracked = refl; not_alive = refl; alive = refl; same = refl; taken = λ s l. refl; guid = λ s l. refl; unmoved = λ s l. refl }

some_cond : (b : Bool) (x y : Writer) → some (cond b x y) ≡ cond b (some x) (some y)
some_cond true x y = refl
some_cond false x y = refl

cond_same : (b : Bool) (o : Option Writer) → cond b o o ≡ o
cond_same true o = refl
cond_same false o = refl

-- a writer whose GUID fits, and that has only GUID and state where it is departed
pub record Plain (w : Writer) : Type 0 where
  pub guid : FitsGuid w.guid
  pub bare : w.liveliness.state ≡ Departed → w ≡ M.departed w.guid

pub record SoundWriter (w : Writer) : Type 0 where
  pub guid : FitsGuid w.guid
  pub lease : lease_ok w.liveliness.lease ≡ true
  pub last : w.liveliness.last_assertion < 2 ^ 62
  pub only : (not (is_departed w.liveliness.state) || only_state w.liveliness) ≡ true

pub record ClockFits (c : TrackerCall) (s : Sheet) : Type 0 where
  pub clocks : all clock_ok (clocks_used_by c s) ≡ true
  pub guid : FitsGuid s.guid

one-clock : (n : ℕ) → all clock_ok (n ∷ []) ≡ true → n < 2 ^ 62
unfolding all
one-clock n e = ltb-true n (2 ^ 62) (both (clock_ok n) true e).0

-- a match's clock, and its lease
match_clock : (s : Sheet) → all clock_ok (clocks_used_by matched s) ≡ true → (s.a < 2 ^ 62) × (lease_ok (lease_on s) ≡ true)
unfolding all lease_ok
match_clock s e =
    let p = both (clock_ok s.a) (all clock_ok (cond s.lease_present (s.b ∷ []) [])) e in (
      ltb-true s.a (2 ^ 62) p.0,
      split s.lease_present (λ l. rw l (both (clock_ok s.b) true (rw l at p.1)).0) (λ l. rw l),
    )

-- ---- the writer that a match puts in

matched-is : (s : Sheet) (o : Option Writer) → matched_writer s o ≡ matches s o
matched-is s none = refl
matched-is s (some w) = (by_state w.liveliness.state).taken s w.liveliness.last_assertion

pub matched-guid : (s : Sheet) (o : Option Writer) → (matched_writer s o).guid ≡ s.guid
matched-guid s none = refl
matched-guid s (some w) = (by_state w.liveliness.state).guid s w.liveliness.last_assertion

untracked-is : (o : Option Writer) → M.untracked o ≡ not (S.tracked o)
untracked-is none = refl
untracked-is (some w) = ap not (by_state w.liveliness.state).tracked

matched-from : (s : Sheet) (st : WriterState) (last : ℕ) → ClockFits matched s → last < 2 ^ 62 → SoundWriter (matched_from s st last)
matched-from s Unasserted last f h = record { guid = f.guid; lease = (match_clock s f.clocks).1; last = h; only = refl }
matched-from s Alive last f h = record { guid = f.guid; lease = (match_clock s f.clocks).1; last = h; only = refl }
matched-from s NotAlive last f h = record { guid = f.guid; lease = (match_clock s f.clocks).1; last = h; only = refl }
matched-from s Departed last f h = record { guid = f.guid; lease = (match_clock s f.clocks).1; last = omega arith; only = refl }

matched-sound : (s : Sheet) (ws : List Writer) → ClockFits matched s → All SoundWriter ws →
    SoundWriter (matched_writer s (find (has_guid s.guid) ws))
matched-sound s ws f a = go (find (has_guid s.guid) ws) refl
  where
    go : (o : Option Writer) → find (has_guid s.guid) ws ≡ o → SoundWriter (matched_writer s o)
    go none e = matched-from s Unasserted s.a f (match_clock s f.clocks).0
    go (some w) e =
        matched-from s w.liveliness.state w.liveliness.last_assertion f
        (lookup_all writer_key SoundWriter (num s.guid) ws w a e).last

-- the record that a match puts in
abbrev pub start : TrackerCall → Sheet → List Writer → Option Writer
start c s ws = cond (tracker_rule c).matches (some (matched_writer s (find (has_guid s.guid) ws))) none

-- what stands at j once a match has put its record in
pub matched-at : (s : Sheet) (j : ℕ) (ws : List Writer) →
    begun_at writer_key (start matched s ws) j (lookup writer_key j ws) ≡ matched_at s j (lookup writer_key j ws)
matched-at s j ws =
    rw (ap num (matched-guid s (find (has_guid s.guid) ws)), eqb_sym (num s.guid) j)
    (split (is_named s j)
    (λ e. rw (e, eqb-true j (num s.guid) e) (ap {B = Option Writer} some (matched-is s (find (has_guid s.guid) ws))))
    (λ e. rw e))

-- ---- what a call leaves of one writer

-- its GUID; and it is sound still
record Kept (c : TrackerCall) (s : Sheet) (w y : Writer) : Type 0 where
  guid : y.guid ≡ w.guid
  sound : ClockFits c s → SoundWriter w → SoundWriter y

abbrev After : (Writer → Type 0) → Option Writer → Type 0
After P none = Unit {0}
After P (some y) = P y

module _ (c : TrackerCall) (s : Sheet) (w : Writer) where
  stays : Kept c s w w
  stays = record { guid = refl; sound = λ f m. m }

  departs-kept : Kept c s w (M.departed w.guid)
  departs-kept = record { guid = refl; sound = λ f m. unfold lease_ok in record { guid = m.guid; lease = refl; last = omega arith; only = refl } }

  asserted-kept : (named manual : Bool) → (ClockFits c s → s.a < 2 ^ 62) → Kept c s w (asserted (assertion named manual s) w)
  unfolding asserted
  asserted-kept named manual clock =
      either (Kept c s w) (covers (assertion named manual s) w && renews (assertion named manual s) w) (M.with_state Alive s.a w) w
      (λ e. record { guid = refl; sound = λ f m. record { guid = m.guid; lease = m.lease; last = clock f; only = refl } })
      (λ e. stays)

  expired-kept : Kept c s w (expired s.a w)
  unfolding expired
  expired-kept =
      either (Kept c s w) (expires s.a w) (M.with_state NotAlive w.liveliness.last_assertion w) w
      (λ e. record { guid = refl; sound = λ f m. record { guid = m.guid; lease = m.lease; last = m.last; only = refl } })
      (λ e. stays)

  unmatched-kept : After (Kept c s w) (unmatched_from w)
  unfolding unmatched_from
  unmatched-kept = either (After (Kept c s w)) (M.tracked w) none (some w) (λ e. tt) (λ e. stays)

  lost-kept : (st : WriterState) → After (Kept c s w) (lost_as st w)
  lost-kept Unasserted = tt
  lost-kept Alive = departs-kept
  lost-kept NotAlive = departs-kept
  lost-kept Departed = departs-kept

  -- a call on the writer that the sheet names
  named-kept : (o : Option Writer) → After (Kept c s w) o → After (Kept c s w) (cond (has_guid s.guid w) o (some w))
  named-kept o k = either (After (Kept c s w)) (has_guid s.guid w) o (some w) (λ e. k) (λ e. stays)

-- ---- section 6's word on it

-- an assertion that names a writer or not
asserted-is : (named manual : Bool) (s : Sheet) (w : Writer) →
    some (asserted (assertion named manual s) w) ≡ asserts (named && is_named s (writer_key w))
    (is_near s (writer_key w)) manual s.a (some w)
unfolding asserted covers renews asserts prefix
asserted-is named manual s w =
    let of = by_state w.liveliness.state in
    rw ((by_kind w.liveliness.kind).0 manual, of.tracked, of.not_alive)
    (some_cond
    (covered (named && is_named s (writer_key w)) (is_near s (writer_key w)) manual w.liveliness.kind && timely s.a w)
    (became Alive s.a w) w)

none_asserts : (named near manual : Bool) (clock : ℕ) → asserts named near manual clock none ≡ none
unfolding asserts
none_asserts named near manual clock = refl

expired-is : (clock : ℕ) (w : Writer) → some (expired clock w) ≡ lapses clock (some w)
unfolding expired expires lapses
expired-is clock w =
    rw (
      (by_state w.liveliness.state).alive,
      and_assoc (S.alive_in w.liveliness.state) w.liveliness.lease.present
          (leb (w.liveliness.last_assertion + w.liveliness.lease.nanos) clock),
    )
    (some_cond (run_out clock w) (became NotAlive w.liveliness.last_assertion w) w)

unmatched-is : (w : Writer) → unmatched_from w ≡ leaves (some w)
unmatched-is w = go w.liveliness.state refl
  where
    go : (st : WriterState) → w.liveliness.state ≡ st → unmatched_from w ≡ leaves (some w)
    go Unasserted e = unfold unmatched_from in rw e
    go Alive e = unfold unmatched_from in rw e
    go NotAlive e = unfold unmatched_from in rw e
    go Departed e = unfold unmatched_from in rw e

lost-is : (w : Writer) → Plain w → lost_as w.liveliness.state w ≡ departs (some w)
lost-is w p = go w.liveliness.state refl
  where
    go : (st : WriterState) → w.liveliness.state ≡ st → lost_as st w ≡ departs_from st w
    go Unasserted e = refl
    go Alive e = refl
    go NotAlive e = refl
    go Departed e = ap {B = Option Writer} some (sym (p.bare e))

-- what is found at a GUID once the call has acted is section 6's of what was found there
abbrev pub At : TrackerCall → Type 0
At c =
    (s : Sheet) (ws : List Writer) (j : ℕ) → All Plain ws →
    bind (writer_step c s ws) (begun_at writer_key (start c s ws) j (lookup writer_key j ws))
    ≡ on_writer c s (lookup writer_key (num s.guid) ws) j (lookup writer_key j ws)

matching : At matched
matching s ws j plain =
    rw (matched-at s j ws)
    (go (match_asserts s ws) (matched_at s j (lookup writer_key j ws)) found
    ∙ rw ((by_kind (liveliness_numbered s.kind)).1, untracked-is (find (has_guid s.guid) ws)))
  where
    found : (w : Writer) → matched_at s j (lookup writer_key j ws) ≡ some w → writer_key w ≡ j
    found w e =
        split (is_named s j)
        (λ d.
        let q : some (matches s (lookup writer_key j ws)) ≡ some w = rw d at e in
        let p : matches s (lookup writer_key j ws) ≡ w = cc in
        ap writer_key (sym p ∙ sym (matched-is s (lookup writer_key j ws))) ∙ ap num (matched-guid s (lookup writer_key j ws))
        ∙ sym (eqb-true j (num s.guid) d))
        (λ d. lookup_key writer_key j ws w (rw d at e))

    go : (b : Bool) (o : Option Writer) → ((w : Writer) → o ≡ some w → writer_key w ≡ j) →
        bind (λ w. some (cond b (asserted (assertion true false s) w) w)) o
        ≡ cond b (asserts (is_named s j) (is_near s j) false s.a o) o
    go true none f = sym (none_asserts (is_named s j) (is_near s j) false s.a)
    go false none f = refl
    go true (some w) f = rw (← f w refl) (asserted-is true false s w)
    go false (some w) f = refl

-- ---- the row of a call

abbrev Leaving : TrackerCall → Type 0
Leaving c = (s : Sheet) (b : Bool) (w : Writer) → After (Kept c s w) (writer_acts c s b w)

abbrev LostAs : TrackerCall → Type 0
LostAs c = (gone lost : List Guid) → lost_by c gone lost ≡ lost_with (tracker_rule c).lost gone lost

-- what section 6 acknowledges, by the use of it
abbrev told : AcknowledgeUse → ℤ → ℤ → ℤ → ℤ
told Nothing part change z = z
told Whole part change z = z +ℤ change
told Part part change z = z +ℤ part

abbrev AcknowledgedAs : TrackerCall → Type 0
AcknowledgedAs c = (part change z : ℤ) → acknowledged_by c part change z ≡ told (tracker_rule c).acknowledges part change z

abbrev leases : ClockUse → Bool
leases NoClock = false
leases Clock = false
leases ClockAndLease = true

-- what the call leaves of a writer, what is found at a GUID, and section 6's reading of the columns: a call that matches uses clock and lease
record Row (c : TrackerCall) : Type 0 where
  left : Leaving c
  at : At c
  columns : ((not (tracker_rule c).matches || leases (tracker_rule c).clocks) ≡ true) × LostAs c × AcknowledgedAs c
  expiring : appends (tracker_rule c).lost ≡ true → c ≡ expire

-- of a call that puts nothing in: it acts on what is there, and leaves what is not
acting : (c : TrackerCall) → (tracker_rule c).matches ≡ false → LostAs c → AcknowledgedAs c → (appends (tracker_rule c).lost ≡ true → c ≡ expire) → Leaving c →
    ((s : Sheet) (own : Option Writer) (j : ℕ) → on_writer c s own j none ≡ none) →
    ((s : Sheet) (b : Bool) (own : Option Writer) (w : Writer) → Plain w → writer_acts c s b w ≡ on_writer c s own (writer_key w) (some w)) → Row c
acting c e lost acknowledged expiring left absent there = record { left = left; at = at; columns = (rw e, lost, acknowledged); expiring = expiring }
  where
    at : At c
    at s ws j plain = rw e (go (lookup writer_key j ws) refl)
      where
        own : Option Writer
        own = lookup writer_key (num s.guid) ws

        go : (o : Option Writer) → lookup writer_key j ws ≡ o → bind (writer_step c s ws) o ≡ on_writer c s own j o
        go none q = sym (absent s own j)
        go (some w) q = rw (← lookup_key writer_key j ws w q) (there s (match_asserts s ws) own w (lookup_all writer_key Plain j ws w plain q))

row : (c : TrackerCall) → Row c
row matched =
    record {
      left = λ s b w. either (Kept matched s w) b (asserted (assertion true false s) w) w
          (λ e. asserted-kept matched s w true false (λ f. (match_clock s f.clocks).0)) (λ e. stays matched s w);
      at = matching;
      columns = (refl, λ gone lost. refl, λ part change z. refl);
      expiring = λ e. never (sym e);
    }
row unmatched =
    acting unmatched refl (λ gone lost. refl) (λ part change z. refl) (λ e. never (sym e)) (λ s b w. named-kept unmatched s w _ (unmatched-kept unmatched s w))
    (λ s own j. cond_same (is_named s j) none) (λ s b own w p. rw (unmatched-is w))
row lost_with_participant =
    acting lost_with_participant refl (λ gone lost. refl) (λ part change z. refl) (λ e. never (sym e))
    (λ s b w. named-kept lost_with_participant s w _ (lost-kept lost_with_participant s w w.liveliness.state))
    (λ s own j. cond_same (is_named s j) none) (λ s b own w p. rw (lost-is w p))
row writer_asserted =
    acting writer_asserted refl (λ gone lost. refl) (λ part change z. refl) (λ e. never (sym e))
    (λ s b w. asserted-kept writer_asserted s w true true (λ f. one-clock s.a f.clocks))
    (λ s own j. none_asserts (is_named s j) (is_near s j) true s.a) (λ s b own w p. asserted-is true true s w)
row participant_asserted =
    acting participant_asserted refl (λ gone lost. refl) (λ part change z. refl) (λ e. never (sym e))
    (λ s b w. asserted-kept participant_asserted s w false s.manual (λ f. one-clock s.a f.clocks))
    (λ s own j. none_asserts false (is_near s j) s.manual s.a) (λ s b own w p. asserted-is false s.manual s w)
row expire =
    acting expire refl (λ gone lost. refl) (λ part change z. refl) (λ e. refl) (λ s b w. expired-kept expire s w)
    (λ s own j. unfold lapses in refl) (λ s b own w p. expired-is s.a w)
row take_lost =
    acting take_lost refl (λ gone lost. refl) (λ part change z. refl) (λ e. never (sym e)) (λ s b w. stays take_lost s w) (λ s own j. refl) (λ s b own w p. refl)
row take_status =
    acting take_status refl (λ gone lost. refl) (λ part change z. refl) (λ e. never (sym e)) (λ s b w. stays take_status s w) (λ s own j. refl) (λ s b own w p. refl)
row acknowledge =
    acting acknowledge refl (λ gone lost. refl) (λ part change z. refl) (λ e. never (sym e)) (λ s b w. stays acknowledge s w) (λ s own j. refl) (λ s b own w p. refl)

-- ---- what follows of every call

module _ (c : TrackerCall) where
  pub writers-at : At c
  writers-at = (row c).at

  -- one call alone puts those that it expires into Lost
  pub only-expire : appends (tracker_rule c).lost ≡ true → c ≡ expire
  only-expire = (row c).expiring

  pub step_keeps : (s : Sheet) (ws : List Writer) → Keeps writer_key (writer_step c s ws)
  step_keeps s ws w y e =
      let k : Kept c s w y = subst (After (Kept c s w)) e ((row c).left s (match_asserts s ws) w) in ap num k.guid

  pub acts-sound : (s : Sheet) (ws : List Writer) (w y : Writer) → ClockFits c s → SoundWriter w → writer_step c s ws w ≡ some y → SoundWriter y
  acts-sound s ws w y f m e =
      let k : Kept c s w y = subst (After (Kept c s w)) e ((row c).left s (match_asserts s ws) w) in k.sound f m

  -- what holds of the writers and of what a match puts in
  pub begun_all : (P : Writer → Type 0) (s : Sheet) (ws : List Writer) → ((tracker_rule c).matches ≡ true → P (matched_writer s (find (has_guid s.guid) ws))) →
      All P ws → All P (writers_begun c s ws)
  begun_all P s ws p a =
      either (All P) (tracker_rule c).matches (put writer_key (matched_writer s (find (has_guid s.guid) ws)) ws) ws
      (λ e. all-put writer_key P (matched_writer s (find (has_guid s.guid) ws)) ws (p e) a) (λ e. a)

  leased : (s : Sheet) → (tracker_rule c).matches ≡ true → ClockFits c s → ClockFits matched s
  leased s e f = record { clocks = go (tracker_rule c).clocks (rw e at (row c).columns.0) f.clocks; guid = f.guid }
    where
      go : (u : ClockUse) → leases u ≡ true → all clock_ok (clocks_with u s) ≡ true → all clock_ok (clocks_with ClockAndLease s) ≡ true
      go NoClock e q = never (sym e)
      go Clock e q = never (sym e)
      go ClockAndLease e q = q

  pub begun-sound : (s : Sheet) (ws : List Writer) → ClockFits c s → All SoundWriter ws → All SoundWriter (writers_begun c s ws)
  begun-sound s ws f a = begun_all SoundWriter s ws (λ e. matched-sound s ws (leased s e f) a) a

  pub lost_are : (gone gone' lost lost' : List Guid) → (c ≡ expire → gone ≡ gone') → lost ≡ lost' → lost_after c gone lost ≡ lost_by c gone' lost'
  lost_are gone gone' lost lost' e d = go (tracker_rule c).lost (λ a. e (only-expire a)) ∙ sym ((row c).columns.1 gone' lost')
    where
      go : (u : LostUse) → (appends u ≡ true → gone ≡ gone') → lost_with u gone lost ≡ lost_with u gone' lost'
      go Leaves e = d
      go Appends e = rw (e refl, d)
      go Empties e = refl

  pub acknowledged_are : (n m part : ℕ) (y z : ℤ) → n ≡ m → y ≡ z →
      acknowledged_after c n part y ≡ acknowledged_by c (to_z w32 part) (change_of m z) z
  acknowledged_are n m part y z e d = go (tracker_rule c).acknowledges ∙ sym ((row c).columns.2 (to_z w32 part) (change_of m z) z)
    where
      go : (u : AcknowledgeUse) → acknowledged_with u n part y ≡ told u (to_z w32 part) (change_of m z) z
      go Nothing = d
      go Whole = ap pos e ∙ sym (+ℤ_comm z (pos m -ℤ z) ∙ -ℤ-+ℤ_cancel (pos m) z)
      go Part = ap (λ (x : ℤ). x +ℤ to_z w32 part) d

-- ---- the turn

pub begun-is : (c : TrackerCall) (s : Sheet) (ws : List Writer) → writers_begun c s ws ≡ begin writer_key (start c s ws) ws
begun-is c s ws = split (tracker_rule c).matches (λ e. rw e) (λ e. rw e)

start_below : (c : TrackerCall) (s : Sheet) (ws : List Writer) → FitsGuid s.guid → Below writer_key bound (start c s ws)
start_below c s ws f =
    either (Below writer_key bound) (tracker_rule c).matches (some (matched_writer s (find (has_guid s.guid) ws))) none
    (λ e. rw (matched-guid s (find (has_guid s.guid) ws)) (num-below s.guid f)) (λ e. tt)

-- ---- classes

classes_differ : (a b : Class) → not (same_class a b) ≡ differ a b
classes_differ alive alive = refl
classes_differ alive not_alive = refl
classes_differ alive neither = refl
classes_differ not_alive alive = refl
classes_differ not_alive not_alive = refl
classes_differ not_alive neither = refl
classes_differ neither alive = refl
classes_differ neither not_alive = refl
classes_differ neither neither = refl

after-class : (o : Option Writer) → class_after o ≡ class o
after-class none = refl
after-class (some w) = (by_state w.liveliness.state).same

moves_are : (f : Writer → Option Writer) (o : Option Writer) → test (moves f) o ≡ moved o (bind f o)
moves_are f none = refl
moves_are f (some w) =
    classes_differ (class_of w.liveliness.state) (class_after (f w)) ∙ rw
    ((by_state w.liveliness.state).same, after-class (f w))

-- the put moves nobody
matches-class : (s : Sheet) (o : Option Writer) → class (some (matches s o)) ≡ class o
matches-class s none = refl
matches-class s (some w) = (by_state w.liveliness.state).unmoved s w.liveliness.last_assertion

quiet : (c : TrackerCall) (s : Sheet) (ws : List Writer) (j : ℕ) →
    class (begun_at writer_key (start c s ws) j (lookup writer_key j ws)) ≡ class (lookup writer_key j ws)
quiet c s ws j =
    either
    (λ (o : Option Writer). class (begun_at writer_key o j (lookup writer_key j ws)) ≡ class (lookup writer_key j ws))
    (tracker_rule c).matches (some (matched_writer s (find (has_guid s.guid) ws))) none
    (λ e. ap class (matched-at s j ws)
    ∙ split (is_named s j) (λ d. rw d (matches-class s (lookup writer_key j ws))) (λ d. rw d))
    (λ e. refl)

-- ---- the table and all accounts

pub record WriterSim (st : State) (acc : WriterAccounts) : Type 0 where
  pub rising : Within writer_key 0 bound st.writers
  pub agree : (j : ℕ) → lookup writer_key j st.writers ≡ acc.at j
  pub lost : st.lost ≡ acc.lost
  pub acknowledged_alive : st.acknowledged_alive ≡ acc.acknowledged_alive
  pub acknowledged_not_alive : st.acknowledged_not_alive ≡ acc.acknowledged_not_alive
  pub last : st.last_writer ≡ acc.last
  pub changes : st.changes ≡ sum_over 0 bound acc.moves % 2 ^ 64

-- a writer's GUID fits
abbrev FitGuid : Writer → Type 0
FitGuid w = FitsGuid w.guid

guids_fit : (ws : List Writer) → All FitGuid ws → All FitsGuid (map guid_in ws)
guids_fit [] f = tt
guids_fit (w ∷ ws) f = (f.0, guids_fit ws f.1)

pub movers_fit : (c : TrackerCall) (s : Sheet) (ws : List Writer) → FitsGuid s.guid → All Plain ws →
    All FitsGuid (movers c s ws)
unfolding movers
movers_fit c s ws g f =
    guids_fit (pick (moves (writer_step c s ws)) (writers_begun c s ws))
    (all-pick FitGuid (moves (writer_step c s ws)) (writers_begun c s ws)
    (begun_all c FitGuid s ws (λ e. rw (matched-guid s (find (has_guid s.guid) ws)) g) (all_weaken Plain FitGuid (λ w p. p.guid) ws f)))

module _ (c : TrackerCall) (s : Sheet) (ws : List Writer) (acc : Writers) (fits : FitsGuid s.guid)
    (plain : All Plain ws) (rises : Within writer_key 0 bound ws) (agree : (j : ℕ) → lookup writer_key j ws ≡ acc j) where
  after-rises : Within writer_key 0 bound (M.writers_after c s ws)
  unfolding M.writers_after
  after-rises =
      rw (begun-is c s ws)
      (turn-within writer_key bound (start c s ws) (writer_step c s ws) ws (start_below c s ws fits)
      (step_keeps c s ws) rises)

  after_agrees : (j : ℕ) → lookup writer_key j (M.writers_after c s ws) ≡ writers_after c s acc j
  unfolding M.writers_after writers_after
  after_agrees j =
      rw (begun-is c s ws)
      (turn_at writer_key bound (start c s ws) (writer_step c s ws) ws (start_below c s ws fits) (step_keeps c s ws) rises j)
      ∙ writers-at c s ws j plain
      ∙ rw (agree (num s.guid), agree j)

  begun-moves : (j : ℕ) →
      test (moves (writer_step c s ws)) (lookup writer_key j (writers_begun c s ws)) ≡ moved_at acc (writers_after c s acc) j
  unfolding writers_after
  begun-moves j =
      ap (λ (l : List Writer). test (moves (writer_step c s ws)) (lookup writer_key j l)) (begun-is c s ws)
      ∙ ap (test (moves (writer_step c s ws))) (lookup_begin writer_key (start c s ws) ws j)
      ∙ moves_are (writer_step c s ws) (begun_at writer_key (start c s ws) j (lookup writer_key j ws))
      ∙ rw (quiet c s ws j, writers-at c s ws j plain, agree (num s.guid), agree j)

  begun-rises : Within writer_key 0 (0 + bound) (writers_begun c s ws)
  begun-rises =
      rw (zero-add bound, begun-is c s ws) (within_begin writer_key bound (start c s ws) ws (start_below c s ws fits) rises)

  movers-numbered : map num (movers c s ws) ≡ between 0 bound (moved_at acc (writers_after c s acc))
  unfolding movers
  movers-numbered =
      map-map num guid_in (pick (moves (writer_step c s ws)) (writers_begun c s ws))
      ∙ pick-between writer_key 0 bound (moves (writer_step c s ws)) (writers_begun c s ws) begun-rises
      ∙ between_ext writer_key 0 bound (λ j. test (moves (writer_step c s ws)) (lookup writer_key j (writers_begun c s ws)))
      (moved_at acc (writers_after c s acc)) (λ j l. begun-moves j)

  movers_are : movers c s ws ≡ map guid_numbered (between 0 bound (moved_at acc (writers_after c s acc)))
  movers_are = sym (renumbered (movers c s ws) (movers_fit c s ws fits plain)) ∙ ap (map guid_numbered) movers-numbered

  movers-count : length (movers c s ws) ≡ sum_over 0 bound (λ j. bit (moved_at acc (writers_after c s acc) j))
  movers-count =
      sym (length-map num (movers c s ws)) ∙ ap length movers-numbered ∙ length-between 0 bound
      (moved_at acc (writers_after c s acc))

  last_are : (last : LastWriter) → last_after (movers c s ws) last ≡ last_in acc (writers_after c s acc) last
  unfolding last_in
  last_are last =
      ap (λ (l : List Guid). last_after l last) movers_are ∙ last-greatest bound
      (moved_at acc (writers_after c s acc)) last

-- in code 37 those that change class are those that were alive and are not alive
lapsed-is : (clock : ℕ) (o : Option Writer) →
    moved o (lapses clock o) ≡ (is_alive (class o) && is_not_alive (class (lapses clock o)))
unfolding lapses
lapsed-is clock none = refl
lapsed-is clock (some w) =
    split (run_out clock w) (λ e. rw e (alive-now w.liveliness.state (left_true _ _ e)))
    (λ e. rw e (unmoved (class_in w.liveliness.state)))
  where
    left_true : (a b : Bool) → (a && b) ≡ true → a ≡ true
    left_true true b e = refl
    left_true false b e = e

    alive-now : (st : WriterState) → S.alive_in st ≡ true →
        differ (class_in st) not_alive ≡ (is_alive (class_in st) && true)
    alive-now Unasserted e = sym e
    alive-now Alive e = refl
    alive-now NotAlive e = refl
    alive-now Departed e = refl

    unmoved : (a : Class) → differ a a ≡ (is_alive a && is_not_alive a)
    unmoved alive = refl
    unmoved not_alive = refl
    unmoved neither = refl

pub expired_are : (s : Sheet) (ws : List Writer) (acc : Writers) → FitsGuid s.guid → All Plain ws →
    Within writer_key 0 bound ws → ((j : ℕ) → lookup writer_key j ws ≡ acc j) →
    movers expire s ws ≡ expired_in acc (writers_after expire s acc)
unfolding expired_in writers_after
expired_are s ws acc f plain rises agree =
    movers_are expire s ws acc f plain rises agree
    ∙ ap (map guid_numbered)
    (between_ext writer_key 0 bound (moved_at acc (writers_after expire s acc)) (expired_at acc (writers_after expire s acc))
    (λ j l. lapsed-is s.a (acc j)))

-- ---- both counts

class_tests : (c : Class) → (is_alive_class c ≡ is_alive c) × (is_not_alive_class c ≡ is_not_alive c)
class_tests alive = (refl, refl)
class_tests not_alive = (refl, refl)
class_tests neither = (refl, refl)

module _ (ws : List Writer) (acc : Writers) (rises : Within writer_key 0 bound ws)
    (agree : (j : ℕ) → lookup writer_key j ws ≡ acc j) where
  -- a count over the table is a count over all GUIDs
  counted : (p : Class → Bool) (q : Class → Bool) → ((c : Class) → p c ≡ q c) → p neither ≡ false →
      length (pick (λ w. p (class_of w.liveliness.state)) ws) ≡ length (between 0 bound (λ g. q (class (acc g))))
  counted p q e n =
      sym (length-map writer_key (pick (λ w. p (class_of w.liveliness.state)) ws))
      ∙ ap length
      (pick-between writer_key 0 bound (λ w. p (class_of w.liveliness.state)) ws (rw (zero-add bound) rises)
      ∙ between_ext writer_key 0 bound (λ j. test (λ w. p (class_of w.liveliness.state)) (lookup writer_key j ws))
      (λ g. q (class (acc g)))
      (λ j l. one (lookup writer_key j ws) ∙ ap (λ (o : Option Writer). q (class o)) (agree j)))
    where
      one : (o : Option Writer) → test (λ w. p (class_of w.liveliness.state)) o ≡ q (class o)
      one none = sym n ∙ e neither
      one (some w) = e (class_of w.liveliness.state) ∙ ap q (by_state w.liveliness.state).same

  pub alive_are : alive_count ws ≡ alive_among acc
  unfolding alive_count alive_among
  alive_are = counted is_alive_class is_alive (λ c. (class_tests c).0) refl

  pub not_alive_are : not_alive_count ws ≡ not_alive_among acc
  unfolding not_alive_count not_alive_among
  not_alive_are = counted is_not_alive_class is_not_alive (λ c. (class_tests c).1) refl

-- ---- a call that the writers see

pub writer-heard : (c : TrackerCall) (s : Sheet) (st : State) (acc : WriterAccounts) → FitsGuid s.guid →
    All Plain st.writers → WriterSim st acc →
    WriterSim (tracker_state c s st) (heard_by c s acc (writers_after c s acc.at))
unfolding tracker_state
writer-heard c s st acc f plain m =
    record {
      rising = after-rises c s st.writers acc.at f plain m.rising m.agree;
      agree = after_agrees c s st.writers acc.at f plain m.rising m.agree;
      lost = lost_are c _ _ _ _ lapsed m.lost;
      acknowledged_alive =
          acknowledged_are c _ _ s.first _ _ (alive_are st.writers acc.at m.rising m.agree)
          m.acknowledged_alive;
      acknowledged_not_alive =
          acknowledged_are c _ _ s.second _ _ (not_alive_are st.writers acc.at m.rising m.agree)
          m.acknowledged_not_alive;
      last =
          last_are c s st.writers acc.at f plain m.rising m.agree st.last_writer
          ∙ ap (last_in acc.at (writers_after c s acc.at)) m.last;
      changes =
          rw (m.changes, movers-count c s st.writers acc.at f plain m.rising m.agree)
          (mod-add-mod (sum_over 0 bound acc.moves) (2 ^ 64) _
          ∙ ap (λ (n : ℕ). n % 2 ^ 64)
          (sym (sum-add 0 bound acc.moves (λ g. bit (moved_at acc.at (writers_after c s acc.at) g)))));
    }
  where
    lapsed : c ≡ expire → movers c s st.writers ≡ expired_in acc.at (writers_after c s acc.at)
    lapsed e =
        subst (λ (d : TrackerCall). movers d s st.writers ≡ expired_in acc.at (writers_after d s acc.at)) (sym e)
        (expired_are s st.writers acc.at f plain m.rising m.agree)
