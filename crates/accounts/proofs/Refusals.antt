-- Demand 3 is not vacuous: a sheet in order is refused by nothing but 8 and 9 to 13, each exactly where section 8 says on
-- the accounts.
--     *-number           the number of a call, from the state
--     *-busy             the same, from the accounts
--     only-busy          the number of a call of a list, whose sheet is in order
--     nothing_else       it is 0, 8 in code 40 alone, or 9 to 13
--     never_3            no call of a list is refused by 3
--     ..-32, ..-128      each with 32 places, and with 128
use mathlib.Core.Bool.{Bool, true, false, not, ◌&&◌, ◌||◌, cond}
use mathlib.Core.List.{List, [], ◌∷◌}
use mathlib.Core.Option.{Option, none, some}
use mathlib.Core.Path.{◌≡◌, refl, sym, ap, ◌∙◌, subst}
use Prim.Native.Nat.{ℕ, ◌*◌}
use borrow.Author.Tests.{eqb-true, eqb-false, eq-eqb}
use lib.Dec.{eqb, leb}
use lib.ListN.{length}
use Rattle.octets.specs.Bounds.{Bytes}
use Rattle.model.specs.declared.AcknowledgeUse.{AcknowledgeUse}
use Rattle.model.specs.declared.AcknowledgeUse.TheVariants.{Nothing, Whole, Part}
use Rattle.model.specs.declared.Guid.{Guid}
use Rattle.model.specs.declared.Instance.{Instance}
use Rattle.model.specs.declared.Sheet.{Sheet}
use Rattle.model.specs.Call.{Left, turn, settle, judged, coded, call_in, call_of}
use Rattle.model.specs.declared.InstanceCall.{InstanceCall}
use Rattle.model.specs.declared.TrackerCall.{TrackerCall}
use Rattle.model.specs.declared.JoinedCall.{JoinedCall}
use Rattle.model.specs.declared.TrackerCall.TheVariants.{Unmatched as unmatched, LostWithParticipant as lost_with_participant, Expire as expire}
use Rattle.model.specs.declared.JoinedCall.TheVariants.{Admit as admit, Lapse as lapse, Part as part, Depart as depart}
use Rattle.model.specs.Calls.{Call, instances, tracker, joined, call_of_code}
use Rattle.model.specs.Guids.{num}
use Rattle.model.specs.InstanceCalls.{Turned, known, begins, full, spent, crowds, accepted, at_limit, reached, late_refusal, instance_turn, instance_call}
use Rattle.model.specs.Instances.{rule, limited_by, has_key}
use Rattle.model.specs.Joined.{in_order, passes_filter, sampled, admitted, admit_with, after_loss, loss_call}
use Rattle.model.specs.Refusals.{lengths_ok, times_used, clocks_used, holder_fits, kind_ok, acknowledge_ok, nanoseconds_ok, sheet_refusal}
use Rattle.model.specs.Sheets.{sheet_of}
use Rattle.model.specs.State.{Lent, State, figure_ok, instance_key, lay_out}
use Rattle.model.specs.Tables.{all, is_some, find}
use Rattle.model.specs.WellFormed.{clock_ok}
use Rattle.model.specs.Writers.{movers, tracker_late, tracker_rule, acknowledgeable_with, no_place, appends, too_many}
use Rattle.model.proofs.CallLaws.{told-accepts}
use Rattle.model.proofs.StateLaws.{Fitting, read_back}
use Rattle.model.proofs.TrackerLaws.{late_number_lem}
use Rattle.accounts.specs.Accounts.{Accounts}
use Rattle.accounts.specs.Busy.{Ordered, late_number, acknowledges, allowed, busy_instance, busy_tracker, busy_match, busy_expire, busy_admit, busy_joined, busy, in_part, busy_acknowledge, Never3, OnlyBusy, NothingElse}
use Rattle.model.proofs.Tests.{split}
use Rattle.accounts.proofs.Basics.{either, never}
use Rattle.accounts.proofs.Demand3.{formed, anew, after-fresh, instances_are, writers_are}
use Rattle.accounts.proofs.InStep.{InStep, laid_sizes, held_fits}
use Rattle.accounts.proofs.Runs.{told_in, after-in}
use Rattle.accounts.proofs.SheetLaws.{SheetFits, sheet_fits}
use Rattle.accounts.proofs.TurnLaws.{any_lookup}
use Rattle.accounts.proofs.WriterSound.{all_plain}
use Rattle.accounts.proofs.WriterTurns.{only-expire, expired_are}

-- ---- the number of a turn, from the state

instance-number : (places : ℕ) (c : InstanceCall) (s : Sheet) (st : State) →
    (instance_call places c s st).answer.number ≡ cond (limited_by (rule c).reach && at_limit s st) 0
    (late_refusal places c s st)
unfolding instance_call instance_turn
instance-number places c s st =
    split (limited_by (rule c).reach && at_limit s st)
    (λ l. rw l)
    (λ l. split (eqb (late_refusal places c s st) 0)
    (λ e. rw (l, e) (told-accepts c s _ _ ∙ sym (eqb-true (late_refusal places c s st) 0 e)))
    (λ e. rw (l, e)))

loss_number : (c : TrackerCall) (gs : List Guid) (s : Sheet) (st : State) →
    (loss_call c gs s st).answer.number ≡ tracker_late c s st
unfolding loss_call after_loss
loss_number c gs s st =
    split (eqb (tracker_late c s st) 0) (λ e. rw e (sym (eqb-true (tracker_late c s st) 0 e))) (λ e. rw e)

admit-number : (places : ℕ) (s : Sheet) (st : State) (x : Option Instance) →
    (admit_with places s st x).answer.number
    ≡ cond (not (in_order s x)) 0
    (cond (not (passes_filter s x)) 0
    (cond (at_limit s st) 0
    (cond (not (known s st) && full places st) 9 (cond (not (known s st) && spent st) 13 (cond (crowds s x) 10 0)))))
unfolding admit_with
admit-number places s st x =
    split (not (in_order s x))
    (λ e. rw e)
    (λ e1. split (not (passes_filter s x))
    (λ e. rw (e1, e))
    (λ e2. split (at_limit s st)
    (λ e. rw (e1, e2, e))
    (λ e3. split (not (known s st) && full places st)
    (λ e. rw (e1, e2, e3, e))
    (λ e4. split (not (known s st) && spent st)
    (λ e. rw (e1, e2, e3, e4, e))
    (λ e5. split (crowds s x)
    (λ e. rw (e1, e2, e3, e4, e5, e))
    (λ e6. split (not (accepted s x))
    (λ e. rw (e1, e2, e3, e4, e5, e6, e))
    (λ e7. rw (e1, e2, e3, e4, e5, e6, e7) taken)))))))
  where
    taken : (admitted s st).answer.number ≡ 0
    taken = unfold admitted sampled in refl

-- what is left once a sheet has passed 4 to 7
passing : (s : Sheet) (st : State) (c : Call) → Ordered c s → sheet_refusal c s st ≡ cond (not (acknowledge_ok c s st)) 8 0
unfolding sheet_refusal
passing s st c o = rw (o.times, o.clocks, o.holder, o.kind)

-- ---- the same, from the accounts

module _ (places : ℕ) (s : Sheet) (st : State) (acc : Accounts) (fits : SheetFits s) (m : InStep places st acc) where
  known_is : known s st ≡ is_some (acc.instances.at (num s.key))
  known_is = any_lookup instance_key (num s.key) st.instances ∙ ap is_some (m.sim.instances.agree (num s.key))

  instance-busy : (c : InstanceCall) → (instance_call places c s st).answer.number ≡ busy_instance places c s acc
  unfolding late_refusal busy_instance
  instance-busy c = instance-number places c s st ∙ rw (known_is, instances_are places st acc m, m.sim.instances.next)

  admit-busy : (admit_with places s st (find (has_key s.key) st.instances)).answer.number ≡ busy_admit places s acc
  unfolding busy_admit
  admit-busy =
      admit-number places s st (find (has_key s.key) st.instances)
      ∙ rw (known_is, m.sim.instances.agree (num s.key), instances_are places st acc m, m.sim.instances.next)

  expire-busy : too_many (movers expire s st.writers) st ≡ busy_expire expire s acc
  expire-busy =
      rw (
        expired_are s st.writers acc.writers.at fits.guid
            (all_plain st.writers m.writers.each) m.sim.writers.rising m.sim.writers.agree,
        m.sim.writers.lost,
      )

  match_busy : no_place s st ≡ busy_match s acc
  match_busy = rw (m.sim.writers.agree (num s.guid), writers_are places st acc m)

  late_busy : (c : TrackerCall) → tracker_late c s st ≡ cond ((tracker_rule c).matches && busy_match s acc) 11 (cond (appends (tracker_rule c).lost && busy_expire c s acc) 12 0)
  late_busy c = rw (match_busy, appended)
    where
      appended : (appends (tracker_rule c).lost && too_many (movers c s st.writers) st) ≡ (appends (tracker_rule c).lost && busy_expire c s acc)
      appended =
          split (appends (tracker_rule c).lost)
          (λ e. rw e (subst (λ (d : TrackerCall). too_many (movers d s st.writers) st ≡ busy_expire d s acc) (sym (only-expire c e)) expire-busy))
          (λ e. rw e)

  -- the number of a call that is judged
  abbrev judged_number : Call → ℕ
  judged_number c = cond (eqb (sheet_refusal c s st) 0) (turn places c s st).answer.number (sheet_refusal c s st)

  ordered_number : (c : Call) → Ordered c s → acknowledge_ok c s st ≡ true →
      judged_number c ≡ (turn places c s st).answer.number
  ordered_number c o a = rw (passing s st c o, a)

  acknowledge-busy : (u : AcknowledgeUse) → not (acknowledgeable_with u s st) ≡ (in_part u && busy_acknowledge s acc)
  acknowledge-busy Nothing = refl
  acknowledge-busy Whole = refl
  acknowledge-busy Part = rw (m.sim.writers.acknowledged_alive, m.sim.writers.acknowledged_not_alive)

  tracker-busy : (c : TrackerCall) → Ordered (tracker c) s → judged_number (tracker c) ≡ busy_tracker c s acc
  tracker-busy c o =
      rw (passing s st (tracker c) o, late_number_lem c s st, acknowledge-busy (tracker_rule c).acknowledges, late_busy c)
      (eight (in_part (tracker_rule c).acknowledges && busy_acknowledge s acc) _)
    where
      eight : (b : Bool) (n : ℕ) → ◌≡◌ {A = ℕ} (cond (eqb (cond b 8 0) 0) n (cond b 8 0)) (cond b 8 n)
      eight true n = refl
      eight false n = refl

  joined-busy : (c : JoinedCall) → (turn places (joined c) s st).answer.number ≡ busy_joined places c s acc
  joined-busy admit = admit-busy
  joined-busy lapse = loss_number expire (movers expire s st.writers) s st ∙ late_busy expire
  joined-busy part = loss_number unmatched (s.guid ∷ []) s st
  joined-busy depart = loss_number lost_with_participant (s.guid ∷ []) s st

  judged-busy : (c : Call) → Ordered c s → judged_number c ≡ busy places c s acc
  judged-busy (instances c) o = ordered_number (instances c) o refl ∙ instance-busy c
  judged-busy (tracker c) o = tracker-busy c o
  judged-busy (joined c) o = ordered_number (joined c) o refl ∙ joined-busy c

-- ---- on bytes

-- the buffers of the accounts have their lengths
laid_lengths : (places : ℕ) (sheet : List ℕ) (st : State) (out : List ℕ) → Fitting places st → length sheet ≡ 256 →
    length out ≡ 4096 →
    lengths_ok places sheet (lay_out places st out) ≡ true
unfolding lengths_ok lay_out
laid_lengths places sheet st out f n o =
    let s = laid_sizes places st out f in rw (s.pens, s.writers, s.lost, n, o, eq-eqb (places * 512) (places * 512) refl)

settled-number : (places : ℕ) (t : Turned) (l : Lent) → (settle places t l).answer.number ≡ t.answer.number
unfolding settle
settled-number places t l = split (eqb t.answer.number 0) (λ e. rw e) (λ e. rw e)

judged-number : (places : ℕ) (c : Call) (s : Sheet) (st : State) (out : List ℕ) → Fitting places st →
    (judged places c s (lay_out places st out)).answer.number
    ≡ cond (eqb (sheet_refusal c s st) 0) (turn places c s st).answer.number (sheet_refusal c s st)
unfolding judged
judged-number places c s st out f =
    rw (read_back places st out f)
    (split (eqb (sheet_refusal c s st) 0) (λ e. rw e (settled-number places (turn places c s st) (lay_out places st out)))
    (λ e. rw e))

call-number : (places : ℕ) (sheet : List ℕ) (st : State) (out : List ℕ) (acc : Accounts) (c : Call) →
    length sheet ≡ 256 → length out ≡ 4096 → call_of_code (sheet_of sheet).code ≡ some c → InStep places st acc →
    (call_in places sheet (lay_out places st out)).answer.number
    ≡ cond (eqb (sheet_refusal c (sheet_of sheet) st) 0) (turn places c (sheet_of sheet) st).answer.number
    (sheet_refusal c (sheet_of sheet) st)
unfolding call_in
call-number places sheet st out acc c n o q m =
    rw (laid_lengths places sheet st out (held_fits places st acc m) n o, q, formed places st out acc m)
    (judged-number places c (sheet_of sheet) st out (held_fits places st acc m))

-- the number of a call on a state in step with the accounts
pub held_busy : (places : ℕ) (sheet : List ℕ) (st : State) (out : List ℕ) (acc : Accounts) (c : Call) → Bytes sheet → length sheet ≡ 256 →
    length out ≡ 4096 → call_of_code (sheet_of sheet).code ≡ some c → Ordered c (sheet_of sheet) → InStep places st acc →
    (call_in places sheet (lay_out places st out)).answer.number ≡ busy places c (sheet_of sheet) acc
held_busy places sheet st out acc c bytes n o q d m =
    call-number places sheet st out acc c n o q m ∙ judged-busy places (sheet_of sheet) st acc (sheet_fits sheet bytes n) m c d

pub only-busy : (places : ℕ) → figure_ok places ≡ true → OnlyBusy places call_of
only-busy places ok is out i c b bytes n o q d =
    let m = after-fresh places is out b in
    rw (after-in places ok is out i, told_in places ok is out)
    (ap (λ (l : Lent). (call_in places i.sheet l).answer.number) (anew places i.out m)
    ∙ held_busy places i.sheet m.state i.out _ c bytes n o q d m.held)

pub only_busy_32 : OnlyBusy 32 call_of
only_busy_32 = only-busy 32 refl

pub only_busy_128 : OnlyBusy 128 call_of
only_busy_128 = only-busy 128 refl

-- ---- which numbers there are

-- a number that passes a test
pub record Passes (p : ℕ → Bool) (n : ℕ) : Type 0 where
  pub is : p n ≡ true

-- a refusal by n where b holds, else what comes after it
link : (p : ℕ → Bool) (b : Bool) (n m : ℕ) → p n ≡ true → Passes p m → Passes p (cond b n m)
link p b n m e q = either (Passes p) b n m (λ d. record { is = e }) (λ d. q)

-- the numbers of a turn: 0, or 9 to 13
zero_late : Passes late_number 0
zero_late = record { is = refl }

tracker_late_lem : (c : TrackerCall) (s : Sheet) (st : State) → Passes late_number (tracker_late c s st)
tracker_late_lem c s st =
    link late_number ((tracker_rule c).matches && no_place s st) 11 _ refl
    (link late_number (appends (tracker_rule c).lost && too_many (movers c s st.writers) st) 12 0 refl zero_late)

instance_late : (places : ℕ) (c : InstanceCall) (s : Sheet) (st : State) →
    Passes late_number (instance_call places c s st).answer.number
unfolding late_refusal
instance_late places c s st =
    subst (Passes late_number) (sym (instance-number places c s st))
    (link late_number (limited_by (rule c).reach && at_limit s st) 0 _ refl
    (link late_number (begins c s st && full places st) 9 _ refl
    (link late_number (begins c s st && spent st) 13 _ refl
    (link late_number ((rule c).adds_writer && crowds s (reached c s st.instances)) 10 0 refl zero_late))))

admit_late : (places : ℕ) (s : Sheet) (st : State) (x : Option Instance) →
    Passes late_number (admit_with places s st x).answer.number
admit_late places s st x =
    subst (Passes late_number) (sym (admit-number places s st x))
    (link late_number (not (in_order s x)) 0 _ refl
    (link late_number (not (passes_filter s x)) 0 _ refl
    (link late_number (at_limit s st) 0 _ refl
    (link late_number (not (known s st) && full places st) 9 _ refl
    (link late_number (not (known s st) && spent st) 13 _ refl
    (link late_number (crowds s x) 10 0 refl zero_late))))))

loss_late : (c : TrackerCall) (gs : List Guid) (s : Sheet) (st : State) →
    Passes late_number (loss_call c gs s st).answer.number
loss_late c gs s st = subst (Passes late_number) (sym (loss_number c gs s st)) (tracker_late_lem c s st)

joined_late : (places : ℕ) (c : JoinedCall) (s : Sheet) (st : State) →
    Passes late_number (turn places (joined c) s st).answer.number
joined_late places admit s st = admit_late places s st (find (has_key s.key) st.instances)
joined_late places lapse s st = loss_late expire (movers expire s st.writers) s st
joined_late places part s st = loss_late unmatched (s.guid ∷ []) s st
joined_late places depart s st = loss_late lost_with_participant (s.guid ∷ []) s st

turn_late : (places : ℕ) (c : Call) (s : Sheet) (st : State) → Passes late_number (turn places c s st).answer.number
turn_late places (instances c) s st = instance_late places c s st
turn_late places (tracker c) s st = subst (Passes late_number) (sym (late_number_lem c s st)) (tracker_late_lem c s st)
turn_late places (joined c) s st = joined_late places c s st

-- the numbers of a sheet: 0, or 4 to 8
abbrev early : ℕ → Bool
early n = eqb n 0 || leb 4 n

sheet_early : (c : Call) (s : Sheet) (st : State) → Passes early (sheet_refusal c s st)
unfolding sheet_refusal
sheet_early c s st =
    link early (not (all nanoseconds_ok (times_used c s))) 4 _ refl
    (link early (not (all clock_ok (clocks_used c s))) 5 _ refl
    (link early (not (holder_fits c s)) 6 _ refl
    (link early (not (kind_ok c s)) 7 _ refl (link early (not (acknowledge_ok c s st)) 8 0 refl record { is = refl }))))

-- ---- no call is refused by 3, whatever its sheet and Out

-- a number that passes a test which 3 does not pass
not-3 : (p : ℕ → Bool) (n : ℕ) → p 3 ≡ false → Passes p n → eqb n 3 ≡ false
not-3 p n e q = split (eqb n 3) (λ d. never (sym q.is ∙ ap p (eqb-true n 3 d) ∙ e)) (λ d. d)

coded_other : (places : ℕ) (o : Option Call) (s : Sheet) (st : State) (out : List ℕ) (acc : Accounts) → InStep places st acc →
    eqb (coded places o s (lay_out places st out)).answer.number 3 ≡ false
coded_other places none s st out acc m = refl
coded_other places (some c) s st out acc m =
    rw (formed places st out acc m, judged-number places c s st out (held_fits places st acc m))
    (either (λ (n : ℕ). eqb n 3 ≡ false) (eqb (sheet_refusal c s st) 0) (turn places c s st).answer.number
    (sheet_refusal c s st)
    (λ e. not-3 late_number _ refl (turn_late places c s st)) (λ e. not-3 early _ refl (sheet_early c s st)))

pub call_other : (places : ℕ) (sheet : List ℕ) (st : State) (out : List ℕ) (acc : Accounts) → InStep places st acc →
    eqb (call_in places sheet (lay_out places st out)).answer.number 3 ≡ false
unfolding call_in
call_other places sheet st out acc m =
    split (lengths_ok places sheet (lay_out places st out))
    (λ e. rw e (coded_other places (call_of_code (sheet_of sheet).code) (sheet_of sheet) st out acc m))
    (λ e. rw e)

pub never_3 : (places : ℕ) → figure_ok places ≡ true → Never3 places call_of
never_3 places ok is out i b =
    let m = after-fresh places is out b in
    eqb-false _ 3
    (ap (λ (r : Left). eqb r.answer.number 3) (after-in places ok is out i)
    ∙ ap (λ (l : Lent). eqb (call_in places i.sheet l).answer.number 3) (anew places i.out m)
    ∙ call_other places i.sheet m.state i.out _ m.held)

pub never_3_32 : Never3 32 call_of
never_3_32 = never_3 32 refl

pub never_3_128 : Never3 128 call_of
never_3_128 = never_3 128 refl

-- ---- 8 stands in code 40 alone

only_40 : (u : AcknowledgeUse) (s : Sheet) (st : State) → acknowledgeable_with u s st ≡ false → in_part u ≡ true
only_40 Nothing s st e = never e
only_40 Whole s st e = never e
only_40 Part s st e = refl

acknowledge_40 : (c : Call) (s : Sheet) (st : State) → acknowledge_ok c s st ≡ false → acknowledges c ≡ true
acknowledge_40 (instances c) s st e = never e
acknowledge_40 (tracker c) s st e = only_40 (tracker_rule c).acknowledges s st e
acknowledge_40 (joined c) s st e = never e

judged-allowed : (places : ℕ) (c : Call) (s : Sheet) (st : State) → Ordered c s →
    allowed c (cond (eqb (sheet_refusal c s st) 0) (turn places c s st).answer.number (sheet_refusal c s st)) ≡ true
judged-allowed places c s st o =
    split (acknowledge_ok c s st)
    (λ e. rw (passing s st c o, e, (turn_late places c s st).is))
    (λ e. rw (passing s st c o, e, acknowledge_40 c s st e))

pub nothing_else : (places : ℕ) → figure_ok places ≡ true → NothingElse places call_of
nothing_else places ok is out i c b n o q d =
    let m = after-fresh places is out b in
    ap (λ (r : Left). allowed c r.answer.number) (after-in places ok is out i)
    ∙ ap (λ (l : Lent). allowed c (call_in places i.sheet l).answer.number) (anew places i.out m)
    ∙ ap (allowed c) (call-number places i.sheet m.state i.out _ c n o q m.held)
    ∙ judged-allowed places c (sheet_of i.sheet) m.state d

pub nothing_else_32 : NothingElse 32 call_of
nothing_else_32 = nothing_else 32 refl

pub nothing_else_128 : NothingElse 128 call_of
nothing_else_128 = nothing_else 128 refl
