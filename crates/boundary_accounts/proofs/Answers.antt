-- What a call answers stands in the answer's 72 bytes: outcome and handle fit their fields.
--     call_fits        so they do in every call on a state in step with accounts
--     outcome_read, handle_read      and are read back
use Prim.Native.Nat.{ℕ, ◌^◌, ◌≤◌, ◌<◌}
use mathlib.Core.Bool.{Bool, true, false, not, ◌&&◌, cond}
use mathlib.Core.List.{List, [], ◌∷◌, ◌++◌, append_assoc}
use mathlib.Core.Option.{Option, none, some}
use mathlib.Core.Path.{◌≡◌, refl, sym, ap, ◌∙◌}
use native.Mathlib.Omega.{arith}
use lib.Dec.{eqb}
use lib.ListN.{get_or}
use Rattle.octets.specs.Fields.{reads, Fit}
use Rattle.octets.specs.Lay.{All}
use Rattle.octets.specs.Octets.{be}
use Rattle.octets.specs.Patch.{digits, fields, Same}
use Rattle.model.specs.declared.Answer.{Answer}
use Rattle.model.specs.declared.Guid.{Guid}
use Rattle.model.specs.declared.Instance.{Instance}
use Rattle.model.specs.declared.InstanceState.{InstanceState}
use Rattle.model.specs.declared.InstanceStateKind.{InstanceStateKind}
use Rattle.model.specs.declared.InstanceStateKind.TheVariants.{Alive, NotAliveDisposed, NotAliveNoWriters}
use Rattle.model.specs.declared.InstanceCall.{InstanceCall}
use Rattle.model.specs.declared.InstanceCall.TheVariants.{ObserveAdmitted as observe_admitted, AcceptUnderExclusiveOwnership as accept_under_exclusive_ownership}
use Rattle.model.specs.declared.JoinedCall.{JoinedCall}
use Rattle.model.specs.declared.JoinedCall.TheVariants.{Admit as admit, Lapse as lapse, Part as part, Depart as depart}
use Rattle.model.specs.declared.Report.{Report}
use Rattle.model.specs.declared.Report.TheVariants.{Nothing as Unreported, Left, Owner, Prefix, Purge}
use Rattle.model.specs.declared.Says.{Says}
use Rattle.model.specs.declared.Says.TheVariants.{Nothing, Handle, Known, Samples, Info, Accepted, Released}
use Rattle.model.specs.declared.Sheet.{Sheet}
use Rattle.model.specs.declared.TrackerCall.{TrackerCall}
use Rattle.model.specs.declared.TrackerCall.TheVariants.{Unmatched as unmatched, LostWithParticipant as lost_with_participant, Expire as expire}
use Rattle.model.specs.declared.TrackerReport.{TrackerReport}
use Rattle.model.specs.declared.TrackerReport.TheVariants.{Moved, MovedAndDue, Lost, Status, Silent}
use Rattle.model.specs.declared.Writer.{Writer}
use Rattle.model.specs.Call.{Left as CallLeft, turn, call_in}
use Rattle.model.specs.Calls.{Call, instances, tracker, joined}
use Rattle.model.specs.Handles.{allocated, not_nil}
use Rattle.model.specs.InstanceCalls.{Turned, refused, known, at_limit, full, spent, crowds, accepted, begins, begun, kept, acts, instances_after, answer_of, reported, told, handle_answer, samples_answer, info_answer, reached, next_after, late_refusal, instance_turn, instance_call}
use Rattle.model.specs.InstanceRecord.{bit, kind_number}
use Rattle.model.specs.Instances.{effect, rule, reaches, limited_by, on_every, has_key, started}
use Rattle.model.specs.Joined.{in_order, passes_filter, sampled, admitted, admit_with, after_loss, loss_call, joined_call}
use Rattle.model.specs.Sheets.{sheet_of}
use Rattle.model.specs.State.{State, lay_out, instance_key}
use Rattle.model.specs.Tables.{find, put, sift, kept as kept_in}
use Rattle.model.specs.Writers.{tracker_rule, writers_after, movers, told_with, tracker_late, tracker_turn, tracker_call}
use Rattle.model.proofs.FieldLaws.{reads_front}
use Rattle.model.proofs.TableLaws.{all-put}
use Rattle.accounts.specs.Accounts.{Accounts}
use Rattle.accounts.proofs.Basics.{either, all_weaken}
use Rattle.accounts.proofs.Demand3.{call_cases}
use Rattle.accounts.proofs.InStep.{InStep}
use Rattle.accounts.proofs.InstanceSound.{Handled}
use Rattle.boundary.specs.Layouts.{answer_bytes}

-- outcome and handle fit their fields
pub record AnswerFits (a : Answer) : Type 0 where
  pub outcome : a.outcome < 256
  pub handle : a.handle.0 < 256 ^ 8

abbrev HandleFits : Instance → Type 0
HandleFits x = x.handle.0 < 256 ^ 8

abbrev Fits : Turned → Type 0
Fits t = AnswerFits t.answer

plain_fits : {a : Answer} → a.outcome ≤ 4 → a.handle.0 ≡ 0 → AnswerFits a
plain_fits o h = record { outcome = omega arith; handle = omega arith }

refused_fits : (n : ℕ) (st : State) → Fits (refused n st)
refused_fits n st = plain_fits (omega arith) refl

-- ---- handles of the instances

found_handle : (p : Instance → Bool) (xs : List Instance) → All HandleFits xs → AnswerFits (handle_answer (find p xs))
unfolding find
found_handle p [] f = plain_fits (omega arith) refl
found_handle p (x ∷ xs) f =
    either (λ (o : Option Instance). AnswerFits (handle_answer o)) (p x) (some x) (find p xs)
    (λ e. record { outcome = omega arith; handle = f.0 }) (λ e. found_handle p xs f.1)

found_samples : (p : Instance → Bool) (xs : List Instance) → All HandleFits xs → AnswerFits (samples_answer (find p xs))
unfolding find
found_samples p [] f = plain_fits (omega arith) refl
found_samples p (x ∷ xs) f =
    either (λ (o : Option Instance). AnswerFits (samples_answer o)) (p x) (some x) (find p xs)
    (λ e. record { outcome = omega arith; handle = f.0 }) (λ e. found_samples p xs f.1)

-- an instance that stays keeps its handle
acting : (c : InstanceCall) (s : Sheet) (xs : List Instance) → All HandleFits xs → All HandleFits (sift (acts c s) xs)
unfolding sift
acting c s [] f = tt
acting c s (x ∷ xs) f = each (reaches c s x) (effect c s x.state) (acting c s xs f.1)
  where
    each : (b : Bool) (o : Option InstanceState) → All HandleFits (sift (acts c s) xs) →
        All HandleFits (kept_in (cond b (kept x o) (some x)) (sift (acts c s) xs))
    each true none r = r
    each true (some y) r = (f.0, r)
    each false o r = (f.0, r)

given : (n : ℕ) → n ≤ 2 ^ 63 → not_nil n < 256 ^ 8
given n h = either (λ (m : ℕ). m < 256 ^ 8) (eqb n 0) 1 n (λ e. omega arith) (λ e. omega arith)

-- the one that a call starts takes the next
started_fits : (key : Guid) (n : ℕ) → n ≤ 2 ^ 63 → HandleFits (started key (allocated n).handle.0)
unfolding started allocated
started_fits key n h = given n h

begun_fits : (c : InstanceCall) (s : Sheet) (st : State) → st.next_handle ≤ 2 ^ 63 → All HandleFits st.instances →
    All HandleFits (begun c s st)
unfolding begun
begun_fits c s st h f =
    either (All HandleFits) (begins c s st) (put instance_key (started s.key (allocated st.next_handle).handle.0) st.instances) st.instances
    (λ e. all-put instance_key HandleFits (started s.key (allocated st.next_handle).handle.0) st.instances
    (started_fits s.key st.next_handle h) f)
    (λ e. f)

-- ---- calls on instances

info_fits : (o : Option Instance) → AnswerFits (info_answer o)
info_fits none = plain_fits (omega arith) refl
info_fits (some x) = plain_fits (omega arith) refl

said_fits : (y : Says) (s : Sheet) (before after : Option Instance) → AnswerFits (handle_answer before) → AnswerFits (samples_answer after) →
    AnswerFits (answer_of y s before after)
said_fits Nothing s before after f g = plain_fits (omega arith) refl
said_fits Handle s before after f g = f
said_fits Known s before after f g = plain_fits (omega arith) refl
said_fits Samples s before after f g = g
said_fits Info s before after f g = info_fits after
said_fits Accepted s before after f g = plain_fits (omega arith) refl
said_fits Released s before after f g = plain_fits (omega arith) refl

reported_fits : (k : Report) (s : Sheet) (before : List Instance) → AnswerFits (reported k s before)
reported_fits Unreported s before = plain_fits (omega arith) refl
reported_fits Left s before = plain_fits (omega arith) refl
reported_fits Owner s before = plain_fits (omega arith) refl
reported_fits Prefix s before = plain_fits (omega arith) refl
reported_fits Purge s before = plain_fits (omega arith) refl

told_fits : (c : InstanceCall) (s : Sheet) (before after : List Instance) → All HandleFits before → All HandleFits after →
    AnswerFits (told c s before after)
told_fits c s before after f g =
    either AnswerFits (on_every c) _ _ (λ e. reported_fits (rule c).reports s before)
    (λ e. said_fits (rule c).says s (reached c s before) (reached c s after) (found_handle (reaches c s) before f) (found_samples (reaches c s) after g))

-- the instances of a state have handles that fit, and so has the next
record Handles (st : State) : Type 0 where
  next : st.next_handle ≤ 2 ^ 63
  each : All HandleFits st.instances

turn_fits : (c : InstanceCall) (s : Sheet) (st : State) → Handles st → Fits (instance_turn c s st)
unfolding instance_turn instances_after
turn_fits c s st h =
    let b = begun_fits c s st h.next h.each in told_fits c s (begun c s st) (sift (acts c s) (begun c s st)) b (acting c s (begun c s st) b)

instance_fits : (places : ℕ) (c : InstanceCall) (s : Sheet) (st : State) → Handles st → Fits (instance_call places c s st)
unfolding instance_call
instance_fits places c s st h =
    either Fits (limited_by (rule c).reach && at_limit s st) _ _
    (λ e. plain_fits (omega arith) refl)
    (λ e. either Fits (eqb (late_refusal places c s st) 0) _ _ (λ d. turn_fits c s st h) (λ d. refused_fits (late_refusal places c s st) st))

-- ---- calls on writers

report_fits : (k : TrackerReport) (gone : List Guid) (ws : List Writer) (st : State) → AnswerFits (told_with k gone ws st)
report_fits Moved gone ws st = plain_fits (omega arith) refl
report_fits MovedAndDue gone ws st = plain_fits (omega arith) refl
report_fits Lost gone ws st = plain_fits (omega arith) refl
report_fits Status gone ws st = plain_fits (omega arith) refl
report_fits Silent gone ws st = plain_fits (omega arith) refl

tracker_fits : (c : TrackerCall) (s : Sheet) (st : State) → Fits (tracker_call c s st)
unfolding tracker_call tracker_turn
tracker_fits c s st =
    either Fits (eqb (tracker_late c s st) 0) _ _ (λ e. report_fits (tracker_rule c).report (movers c s st.writers) (writers_after c s st.writers) st) (λ e. refused_fits (tracker_late c s st) st)

-- ---- joined calls

-- code 16 starts nothing
tried_handles : (s : Sheet) (st : State) → Handles st → Handles (instance_turn accept_under_exclusive_ownership s st).state
unfolding instance_turn instances_after begun next_after
tried_handles s st h = record { next = h.next; each = acting accept_under_exclusive_ownership s st.instances h.each }

admitted_fits : (s : Sheet) (st : State) → Handles st → Fits (admitted s st)
unfolding admitted sampled
admitted_fits s st h =
    let o = turn_fits observe_admitted s (instance_turn accept_under_exclusive_ownership s st).state (tried_handles s st h) in
    record { outcome = omega arith; handle = o.handle }

admit_fits : (places : ℕ) (s : Sheet) (st : State) (x : Option Instance) → Handles st → Fits (admit_with places s st x)
unfolding admit_with
admit_fits places s st x h =
    either Fits (not (in_order s x)) _ _ (λ e. plain_fits (omega arith) refl) (λ e.
    either Fits (not (passes_filter s x)) _ _ (λ e. plain_fits (omega arith) refl) (λ e.
    either Fits (at_limit s st) _ _ (λ e. plain_fits (omega arith) refl) (λ e.
    either Fits (not (known s st) && full places st) _ _ (λ e. refused_fits 9 st) (λ e.
    either Fits (not (known s st) && spent st) _ _ (λ e. refused_fits 13 st) (λ e.
    either Fits (crowds s x) _ _ (λ e. refused_fits 10 st) (λ e.
    either Fits (not (accepted s x)) _ _ (λ e. plain_fits (omega arith) refl) (λ e. admitted_fits s st h)))))))

loss_fits : (c : TrackerCall) (gs : List Guid) (s : Sheet) (st : State) → Fits (loss_call c gs s st)
unfolding loss_call after_loss
loss_fits c gs s st =
    either Fits (eqb (tracker_late c s st) 0) _ _ (λ e. plain_fits (omega arith) refl) (λ e. refused_fits (tracker_late c s st) st)

joined_fits : (places : ℕ) (c : JoinedCall) (s : Sheet) (st : State) → Handles st → Fits (joined_call places c s st)
joined_fits places admit s st h = admit_fits places s st (find (has_key s.key) st.instances) h
joined_fits places lapse s st h = loss_fits expire (movers expire s st.writers) s st
joined_fits places part s st h = loss_fits unmatched (s.guid ∷ []) s st
joined_fits places depart s st h = loss_fits lost_with_participant (s.guid ∷ []) s st

-- ---- any call

any_fits : (places : ℕ) (c : Call) (s : Sheet) (st : State) → Handles st → Fits (turn places c s st)
any_fits places (instances c) s st h = instance_fits places c s st h
any_fits places (tracker c) s st h = tracker_fits c s st
any_fits places (joined c) s st h = joined_fits places c s st h

held_handles : (places : ℕ) (st : State) (acc : Accounts) → InStep places st acc → Handles st
held_handles places st acc m =
    record {
      next = m.instances.high;
      each = all_weaken (Handled st.next_handle) HandleFits (λ x b. omega (arith, b.1, m.instances.high)) st.instances m.instances.below;
    }

abbrev Left-fits : CallLeft → Type 0
Left-fits r = AnswerFits r.answer

pub call_fits : (places : ℕ) (st : State) (out : List ℕ) (acc : Accounts) → InStep places st acc → (sheet : List ℕ) →
    Left-fits (call_in places sheet (lay_out places st out))
call_fits places st out acc m sheet =
    call_cases Left-fits places sheet st out acc m (λ n e. plain_fits (omega arith) refl)
    (λ c n q a e. any_fits places c (sheet_of sheet) st (held_handles places st acc m))

-- ---- the front of an answer, up to its handle

abbrev front_widths : List ℕ
front_widths = 1 ∷ 1 ∷ 1 ∷ 1 ∷ 1 ∷ 1 ∷ 1 ∷ 1 ∷ 8 ∷ []

abbrev front_values : Answer → List ℕ
front_values a =
    a.number ∷ a.outcome ∷ bit a.yes ∷ bit a.present
    ∷ bit a.info.view_new ∷ kind_number a.info.kind ∷ bit a.next_due.present ∷ 0
    ∷ a.handle.0 ∷ []

fields-append : (ks ls vs ws : List ℕ) → Same ks vs → fields (ks ++ ls) (vs ++ ws) ≡ fields ks vs ++ fields ls ws
fields-append [] ls [] ws e = refl
fields-append [] ls (v ∷ vs) ws e = absurd e
fields-append (k ∷ ks) ls [] ws e = absurd e
fields-append (k ∷ ks) ls (v ∷ vs) ws e =
    ap (λ (l : List ℕ). digits k v ++ l) (fields-append ks ls vs ws e) ∙ sym (append_assoc (digits k v) (fields ks vs) (fields ls ws))

bit_fits : (b : Bool) → bit b < 256
bit_fits true = omega arith
bit_fits false = omega arith

kind_fits : (k : InstanceStateKind) → kind_number k < 256
kind_fits Alive = omega arith
kind_fits NotAliveDisposed = omega arith
kind_fits NotAliveNoWriters = omega arith

module _ (a : Answer) (zero_number : a.number ≡ 0) (f : AnswerFits a) where
  front_fits : Fit front_widths (front_values a)
  front_fits =
      let y = bit_fits a.yes in
      let p = bit_fits a.present in
      let v = bit_fits a.info.view_new in
      let k = kind_fits a.info.kind in
      let d = bit_fits a.next_due.present in
      omega (arith, f, zero_number)

  front_back : reads front_widths (answer_bytes a) 0 0 ≡ front_values a
  unfolding answer_bytes
  front_back = rw (fields-append front_widths _ (front_values a) _ tt) (reads_front front_widths (front_values a) _ front_fits)

  pub outcome_read : be 1 (answer_bytes a) 1 ≡ a.outcome
  outcome_read = ap (λ (l : List ℕ). get_or l 1 0) front_back

  pub handle_read : be 8 (answer_bytes a) 8 ≡ a.handle.0
  handle_read = ap (λ (l : List ℕ). get_or l 8 0) front_back
