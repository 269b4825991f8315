-- The instances' half of demand 3: a call turns the table of instances as section 6 moves each account.
--     told-silent        a call that may start none answers no handle
--     turned_at          what is found at a key after a call is the account's step of what was found there
--     instance-heard     an instance call keeps table and accounts in step
--     limit_heard        so does one that is stopped at its limit
--     stopped_heard      so does admit with outcomes 1 to 4
--     admit-heard        so does admit with outcome 0
--     handle-there, handle_new      the handle that it answers
--     loss_heard         so do codes 49 to 51
--     tracker-heard      a tracker call leaves the instances' accounts as they are
use mathlib.Core.Bool.{Bool, true, false, not, ◌&&◌, cond}
use mathlib.Core.List.{List, [], ◌∷◌, ◌++◌, append-nil}
use mathlib.Core.Option.{Option, none, some}
use mathlib.Core.Path.{◌≡◌, refl, sym, ap, ◌∙◌}
use Prim.Native.Nat.{ℕ, suc, ◌+◌, ◌^◌, ◌≤◌, ◌<◌}
use native.Mathlib.Nat.{add-zero, mod-eq_of_lt}
use native.Mathlib.Omega.{arith}
use borrow.Author.Tests.{eqb-true, eq-eqb, ne_eqb, not-true}
use lib.Dec.{eqb}
use lib.ListN.{length, length-append}
use Rattle.model.specs.declared.Answer.{Answer}
use Rattle.model.specs.declared.Guid.{Guid}
use Rattle.model.specs.declared.Instance.{Instance}
use Rattle.model.specs.declared.InstanceState.{InstanceState}
use Rattle.model.specs.declared.MaybeTime.{MaybeTime}
use Rattle.model.specs.declared.Reach.{Reach}
use Rattle.model.specs.declared.Reach.TheVariants.{ByKey as by_key, StartingByKey as starting_by_key, StartingWithin as starting_within, ByHandle as by_handle, Every as every}
use Rattle.model.specs.declared.Report.{Report}
use Rattle.model.specs.declared.Report.TheVariants.{Nothing as Unreported, Left, Owner, Prefix, Purge}
use Rattle.model.specs.declared.Says.{Says}
use Rattle.model.specs.declared.Says.TheVariants.{Nothing, Handle, Known, Samples, Info, Accepted, Released}
use Rattle.model.specs.declared.Sheet.{Sheet}
use Rattle.model.specs.declared.InstanceCall.{InstanceCall}
use Rattle.model.specs.declared.TrackerCall.{TrackerCall}
use Rattle.model.specs.declared.JoinedCall.{JoinedCall}
use Rattle.model.specs.declared.InstanceCall.TheVariants.{Register as register, EnsureRegisteredLimited as ensure_registered_limited, Dispose as dispose, Unregister as unregister, UnregisterWriter as unregister_writer, NoteWriter as note_writer, DropWriter as drop_writer, ObserveLifecycle as observe_lifecycle, ObserveAdmitted as observe_admitted, NoteAdmitted as note_admitted, RecordDelivery as record_delivery, NoteTaken as note_taken, MarkViewSeen as mark_view_seen, MarkViewNew as mark_view_new, DrainSamples as drain_samples, AcceptUnderExclusiveOwnership as accept_under_exclusive_ownership, UpdateOwnerStrength as update_owner_strength, ClearOwnerForWriter as clear_owner_for_writer, ClearOwnerForWriterPrefix as clear_owner_for_writer_prefix, ReleaseOwnerOf as release_owner_of, Autopurge as autopurge}
use Rattle.model.specs.declared.JoinedCall.TheVariants.{Admit as admit}
use Rattle.model.specs.Calls.{Call, instances, tracker, joined}
use Rattle.model.specs.Guids.{num}
use Rattle.model.specs.Handles.{not_nil, allocated}
use Rattle.model.specs.InstanceCalls.{known, begins, begun, next_after, kept, acts, instances_after, handle_answer, samples_answer, info_answer, reached, answer_of, reported, told, instance_turn}
use Rattle.model.specs.InstanceRecord.{bit}
use Rattle.model.specs.Instances.{effect, rule, has_key, reaches_by, reaches, starts_by, limited_by, is_every, on_every, started, owned_from, ownership_tried, admitted_observed, admitted_noted}
use Rattle.model.specs.Joined.{sampled, admitted, left_without_all, loses}
use Rattle.model.specs.State.{State, instance_key}
use Rattle.model.specs.Tables.{is_some, find, sift}
use Rattle.model.specs.Times.{if_present}
use Rattle.model.proofs.AdmitLaws.{first_taken, tried_again, admitted-state}
use Rattle.model.proofs.CallLaws.{told-one, told-every}
use Rattle.model.proofs.Keeps.{lasting}
use Rattle.model.proofs.Fits.{FitsGuid}
use Rattle.model.proofs.Tests.{both, split}
use Rattle.accounts.specs.InstanceAccounts as S
use Rattle.accounts.specs.InstanceAccounts.{way_of, reached_by, is_keyed, Event, on_present, on_absent, on_instance, InstanceAccounts, starts_at}
use Rattle.accounts.specs.Ranges.{bound, up_from}
use Rattle.accounts.proofs.Basics.{missing, eqb_sym, never}
use Rattle.accounts.proofs.RangeLaws.{num-below, up_more}
use Rattle.accounts.proofs.TurnLaws.{bind, lookup, Within, Keeps, lookup_key, any_lookup, begin, begun_at, Below, lookup_begin, within_begin, lookup_sift, within-sift, turn_at}

-- ---- how a call reaches, and whether it answers a handle

abbrev hands : Says → Bool
hands Nothing = false
hands Handle = true
hands Known = false
hands Samples = true
hands Info = false
hands Accepted = false
hands Released = false

-- section 6's reading of the table of the calls: the way is its reach, and what may start an instance answers a handle
record Read (c : InstanceCall) : Type 0 where
  way : (s : Sheet) (x : Instance) → reaches c s x ≡ reached_by (way_of c) s (instance_key x) x
  handed : hands (rule c).says ≡ starts_by (rule c).reach

read : (c : InstanceCall) → Read c
read register = record { way = λ s x. refl; handed = refl }
read ensure_registered_limited = record { way = λ s x. refl; handed = refl }
read dispose = record { way = λ s x. refl; handed = refl }
read unregister = record { way = λ s x. refl; handed = refl }
read unregister_writer = record { way = λ s x. refl; handed = refl }
read note_writer = record { way = λ s x. refl; handed = refl }
read drop_writer = record { way = λ s x. refl; handed = refl }
read observe_lifecycle = record { way = λ s x. refl; handed = refl }
read observe_admitted = record { way = λ s x. refl; handed = refl }
read note_admitted = record { way = λ s x. refl; handed = refl }
read record_delivery = record { way = λ s x. refl; handed = refl }
read note_taken = record { way = λ s x. refl; handed = refl }
read mark_view_seen = record { way = λ s x. refl; handed = refl }
read mark_view_new = record { way = λ s x. refl; handed = refl }
read drain_samples = record { way = λ s x. refl; handed = refl }
read accept_under_exclusive_ownership = record { way = λ s x. refl; handed = refl }
read update_owner_strength = record { way = λ s x. refl; handed = refl }
read clear_owner_for_writer = record { way = λ s x. refl; handed = refl }
read clear_owner_for_writer_prefix = record { way = λ s x. refl; handed = refl }
read release_owner_of = record { way = λ s x. refl; handed = refl }
read autopurge = record { way = λ s x. refl; handed = refl }

reach-is : (c : InstanceCall) (s : Sheet) (x : Instance) → reaches c s x ≡ reached_by (way_of c) s (instance_key x) x
reach-is c s x = (read c).way s x

-- a call that may start an instance reaches by key
starting : (r : Reach) (s : Sheet) → starts_by r ≡ true → reaches_by r s ≡ has_key s.key
starting by_key s e = refl
starting starting_by_key s e = refl
starting starting_within s e = refl
starting by_handle s e = never (sym e)
starting every s e = never (sym e)

starting_reach : (r : Reach) (s : Sheet) (x : Instance) → starts_by r ≡ true → reaches_by r s x ≡ has_key s.key x
starting_reach r s x e = ap (λ (p : Instance → Bool). p x) (starting r s e)

starting_find : (r : Reach) (s : Sheet) (xs : List Instance) → starts_by r ≡ true → find (reaches_by r s) xs ≡ lookup instance_key (num s.key) xs
starting_find r s xs e = ap (λ (p : Instance → Bool). find p xs) (starting r s e)

starting_one : (r : Reach) → starts_by r ≡ true → is_every r ≡ false
starting_one by_key e = refl
starting_one starting_by_key e = refl
starting_one starting_within e = refl
starting_one by_handle e = refl
starting_one every e = never (sym e)

limited-starts : (r : Reach) → limited_by r ≡ true → starts_by r ≡ true
limited-starts by_key e = never (sym e)
limited-starts starting_by_key e = refl
limited-starts starting_within e = refl
limited-starts by_handle e = never (sym e)
limited-starts every e = never (sym e)

-- ---- key and handle stay

kept_key : (x y : Instance) (o : Option InstanceState) → kept x o ≡ some y → (y.key ≡ x.key) × (y.handle ≡ x.handle)
kept_key x y none e = missing e
kept_key x y (some z) e =
    let p : record { key = x.key; handle = x.handle; state = z } ≡ y = cc in
    (sym (ap (λ (i : Instance). i.key) p), sym (ap (λ (i : Instance). i.handle) p))

leaving-is : (x : Instance) (o : Option InstanceState) → kept x o ≡ S.leaving x o
leaving-is x none = refl
leaving-is x (some y) = refl

pub acts_stay : (c : InstanceCall) (s : Sheet) (x y : Instance) → acts c s x ≡ some y →
    (y.key ≡ x.key) × (y.handle ≡ x.handle)
acts_stay c s x y e =
    split (reaches c s x)
    (λ d. kept_key x y (effect c s x.state) (rw d at e))
    (λ d. let q : some x ≡ some y = rw d at e in let p : x ≡ y = cc in
    (sym (ap (λ (i : Instance). i.key) p), sym (ap (λ (i : Instance). i.handle) p)))

acts_keeps : (c : InstanceCall) (s : Sheet) → Keeps instance_key (acts c s)
acts_keeps c s x y e = ap num (acts_stay c s x y e).0

-- ---- the turn

start_of : InstanceCall → Sheet → State → Option Instance
start_of c s st = cond (begins c s st) (some (started s.key (allocated st.next_handle).handle.0)) none

begun-is : (c : InstanceCall) (s : Sheet) (st : State) →
    begun c s st ≡ begin instance_key (start_of c s st) st.instances
unfolding begun start_of
begun-is c s st = split (begins c s st) (λ e. rw e) (λ e. rw e)

start_below : (c : InstanceCall) (s : Sheet) (st : State) → FitsGuid s.key → Below instance_key bound (start_of c s st)
unfolding start_of started
start_below c s st f = split (begins c s st) (λ e. rw e (num-below s.key f)) (λ e. rw e tt)

pub known_is : (s : Sheet) (st : State) → known s st ≡ is_some (lookup instance_key (num s.key) st.instances)
known_is s st = any_lookup instance_key (num s.key) st.instances

unknown_none : {A : Type 0} (o : Option A) → is_some o ≡ false → o ≡ none
unknown_none none e = refl
unknown_none (some x) e = never e

-- a call that starts an instance finds none at its key
pub begins-absent : (c : InstanceCall) (s : Sheet) (st : State) → begins c s st ≡ true →
    (starts_by (rule c).reach ≡ true) × (lookup instance_key (num s.key) st.instances ≡ none)
begins-absent c s st e =
    let p = both (starts_by (rule c).reach) (not (known s st)) e in
    (p.0, unknown_none _ (sym (known_is s st) ∙ not-true (known s st) p.1))

-- ---- the handle that a call answers

abbrev pub handle_in : Option Instance → ℕ
handle_in none = 0
handle_in (some x) = x.handle.0

handle-answer : (o : Option Instance) → (handle_answer o).handle.0 ≡ handle_in o
handle-answer none = refl
handle-answer (some x) = refl

pub samples_answer_lem : (o : Option Instance) → (samples_answer o).handle.0 ≡ handle_in o
samples_answer_lem none = refl
samples_answer_lem (some x) = refl

info_answer_lem : (o : Option Instance) → (info_answer o).handle.0 ≡ 0
info_answer_lem none = refl
info_answer_lem (some x) = refl

answer-handle : (y : Says) (s : Sheet) (before after : Option Instance) → (hands y ≡ true → handle_in after ≡ handle_in before) →
    (answer_of y s before after).handle.0 ≡ cond (hands y) (handle_in before) 0
answer-handle Nothing s before after e = refl
answer-handle Handle s before after e = handle-answer before
answer-handle Known s before after e = refl
answer-handle Samples s before after e = samples_answer_lem after ∙ e refl
answer-handle Info s before after e = info_answer_lem after
answer-handle Accepted s before after e = refl
answer-handle Released s before after e = refl

report_handle : (k : Report) (s : Sheet) (before : List Instance) → (reported k s before).handle.0 ≡ 0
report_handle Unreported s before = refl
report_handle Left s before = refl
report_handle Owner s before = refl
report_handle Prefix s before = refl
report_handle Purge s before = refl

kept-handle : (x : Instance) (o : Option InstanceState) → is_some o ≡ true → handle_in (kept x o) ≡ x.handle.0
kept-handle x none e = never (sym e)
kept-handle x (some y) e = refl

-- a call on one instance finds after it acts what it found before, by its handle
acted_handle : (c : InstanceCall) (s : Sheet) → on_every c ≡ false → (o : Option Instance) → handle_in (bind (acts c s) o) ≡ handle_in o
acted_handle c s e none = refl
acted_handle c s e (some x) =
    split (reaches c s x) (λ r. rw r (kept-handle x (effect c s x.state) (lasting c s x.state e))) (λ r. rw r)

-- a call that may start none answers no handle
pub told-silent : (c : InstanceCall) (s : Sheet) (before after : List Instance) → starts_by (rule c).reach ≡ false → (told c s before after).handle.0 ≡ 0
told-silent c s before after e =
    let none : hands (rule c).says ≡ false = (read c).handed ∙ e in
    split (on_every c)
    (λ d. ap (λ (a : Answer). a.handle.0) (told-every c s before after d) ∙ report_handle (rule c).reports s before)
    (λ d. ap (λ (a : Answer). a.handle.0) (told-one c s before after d)
    ∙ answer-handle (rule c).says s (reached c s before) (reached c s after) (λ h. never (sym h ∙ none))
    ∙ ap (λ (b : Bool). cond b (handle_in (reached c s before)) 0) none)

module _ (c : InstanceCall) (s : Sheet) (before : List Instance) (w : Within instance_key 0 bound before) where
  abbrev after : List Instance
  after = sift (acts c s) before

  -- a call that may start an instance
  starting_handle : starts_by (rule c).reach ≡ true → handle_in (reached c s after) ≡ handle_in (reached c s before)
  starting_handle e =
      ap handle_in (starting_find (rule c).reach s after e)
      ∙ ap handle_in (lookup_sift instance_key (num s.key) 0 bound (acts c s) before (acts_keeps c s) w)
      ∙ acted_handle c s (starting_one (rule c).reach e) (lookup instance_key (num s.key) before)
      ∙ sym (ap handle_in (starting_find (rule c).reach s before e))

  answer-is : (answer_of (rule c).says s (reached c s before) (reached c s after)).handle.0
      ≡ cond (starts_by (rule c).reach) (handle_in (reached c s before)) 0
  answer-is =
      answer-handle (rule c).says s (reached c s before) (reached c s after) (λ e. starting_handle (sym (read c).handed ∙ e))
      ∙ ap (λ (b : Bool). cond b (handle_in (reached c s before)) 0) (read c).handed

  told-handle : (told c s before after).handle.0
      ≡ cond (starts_by (rule c).reach) (handle_in (lookup instance_key (num s.key) before)) 0
  told-handle = split (starts_by (rule c).reach) (λ e. starting e) (λ e. rw e (told-silent c s before after e))
    where
      starting : starts_by (rule c).reach ≡ true →
          (told c s before after).handle.0 ≡ cond (starts_by (rule c).reach) (handle_in (lookup instance_key (num s.key) before)) 0
      starting e =
          ap (λ (a : Answer). a.handle.0) (told-one c s before after (starting_one (rule c).reach e)) ∙ answer-is
          ∙ ap (λ (o : Option Instance). cond (starts_by (rule c).reach) (handle_in o) 0) (starting_find (rule c).reach s before e)

-- a call that may start an instance, at its own key or not
abbrev pub event_by : Sheet → ℕ → ℕ → Event
event_by s h outcome = record { sheet = s; number = 0; handle = h; outcome = outcome }

pub not-nil : (n : ℕ) → 1 ≤ n → not_nil n ≡ n
not-nil n l = rw (ne_eqb n 0 (λ q. omega arith))

module _ (c : InstanceCall) (s : Sheet) (st : State) (fits : FitsGuid s.key)
    (rises : Within instance_key 0 bound st.instances) (one : 1 ≤ st.next_handle) where
  unfoldable pub answered : ℕ
  answered = (instance_turn c s st).answer.handle.0

  begun-rises : Within instance_key 0 bound (begun c s st)
  begun-rises =
      rw (begun-is c s st) (within_begin instance_key bound (start_of c s st) st.instances (start_below c s st fits) rises)

  answered_is : answered ≡ cond (starts_by (rule c).reach)
      (handle_in (begun_at instance_key (start_of c s st) (num s.key) (lookup instance_key (num s.key) st.instances))) 0
  unfolding answered instance_turn instances_after
  answered_is =
      told-handle c s (begun c s st) begun-rises
      ∙ ap (λ (o : Option Instance). cond (starts_by (rule c).reach) (handle_in o) 0)
      (ap (lookup instance_key (num s.key)) (begun-is c s st) ∙ lookup_begin instance_key (start_of c s st) st.instances
      (num s.key))

  -- it starts an instance, and answers the handle to come
  answered_new : begins c s st ≡ true → answered ≡ st.next_handle
  answered_new e = answered_is ∙ new
    where
      new : cond (starts_by (rule c).reach)
          (handle_in (begun_at instance_key (start_of c s st) (num s.key)
          (lookup instance_key (num s.key) st.instances))) 0 ≡ st.next_handle
      new =
          unfold start_of started allocated in
          rw (e, (begins-absent c s st e).0, eq-eqb (num s.key) (num s.key) refl) (not-nil st.next_handle one)

  -- it starts none, and at an absent key answers none
  answered_none : begins c s st ≡ false → lookup instance_key (num s.key) st.instances ≡ none → answered ≡ 0
  answered_none e n = answered_is ∙ nothing
    where
      starts : starts_by (rule c).reach ≡ false
      starts =
          split (starts_by (rule c).reach) (λ d. never (rw (d, known_is s st, n) at e)) (λ d. d)

      nothing : cond (starts_by (rule c).reach)
          (handle_in (begun_at instance_key (start_of c s st) (num s.key)
          (lookup instance_key (num s.key) st.instances))) 0 ≡ 0
      nothing = rw starts

  -- ---- at each key

  absent-at : (j : ℕ) (gone : List Guid) (outcome : ℕ) → lookup instance_key j st.instances ≡ none →
      bind (acts c s) (begun_at instance_key (start_of c s st) j none) ≡ on_absent (instances c) (event_by s answered outcome) j
  absent-at j gone outcome n =
      split (begins c s st) (λ e. begun-at e) (λ e. other_at e)
    where
      begun-at : begins c s st ≡ true →
          bind (acts c s) (begun_at instance_key (start_of c s st) j none) ≡ on_absent (instances c)
          (event_by s answered outcome) j
      begun-at e =
          unfold start_of started allocated in
          rw (answered_new e, e, eqb_sym (num s.key) j, ne_eqb st.next_handle 0 (λ q. omega arith))
          (split (eqb j (num s.key))
          (λ d. rw (
            d,
            starting_reach (rule c).reach s (started s.key st.next_handle)
                (begins-absent c s st e).0,
            eq-eqb (num s.key) (num s.key) refl,
          )
          (leaving-is (started s.key st.next_handle) (effect c s (started s.key st.next_handle).state)))
          (λ d. rw d))

      other_at : begins c s st ≡ false →
          bind (acts c s) (begun_at instance_key (start_of c s st) j none) ≡ on_absent (instances c)
          (event_by s answered outcome) j
      other_at e =
          unfold start_of in
          split (eqb j (num s.key))
          (λ d. rw (e, d, answered_none e (rw (eqb-true j (num s.key) d) at n)))
          (λ d. rw (e, d))

  present-at : (j : ℕ) (gone : List Guid) (outcome : ℕ) (x : Instance) → lookup instance_key j st.instances ≡ some x →
      bind (acts c s) (begun_at instance_key (start_of c s st) j (some x)) ≡ on_present (instances c)
      (event_by s answered outcome) gone j x
  present-at j gone outcome x n =
      ap (bind (acts c s)) same-there ∙ rw
      (reach-is c s x, lookup_key instance_key j st.instances x n, leaving-is x (effect c s x.state))
    where
      same-there : begun_at instance_key (start_of c s st) j (some x) ≡ some x
      same-there =
          unfold start_of started in
          split (begins c s st)
          (λ e. rw e
          (split (eqb (num s.key) j)
          (λ d.
          let p : lookup instance_key j st.instances ≡ none = rw (← eqb-true (num s.key) j d)
          (begins-absent c s st e).1 in missing (sym p ∙ n))
          (λ d. rw d)))
          (λ e. rw e)

  pub turned_at : (j : ℕ) (gone : List Guid) (outcome : ℕ) →
      lookup instance_key j (instances_after c s st) ≡ on_instance (instances c) (event_by s answered outcome) gone j
      (lookup instance_key j st.instances)
  unfolding instances_after
  turned_at j gone outcome =
      ap (λ (l : List Instance). lookup instance_key j (sift (acts c s) l)) (begun-is c s st)
      ∙ turn_at instance_key bound (start_of c s st) (acts c s) st.instances (start_below c s st fits)
      (acts_keeps c s) rises j
      ∙ go (lookup instance_key j st.instances) refl
    where
      go : (o : Option Instance) → lookup instance_key j st.instances ≡ o →
          bind (acts c s) (begun_at instance_key (start_of c s st) j o) ≡ on_instance (instances c)
          (event_by s answered outcome) gone j o
      go none n = absent-at j gone outcome n
      go (some x) n = present-at j gone outcome x n

  pub turned_rises : Within instance_key 0 bound (instances_after c s st)
  unfolding instances_after
  turned_rises = within-sift instance_key 0 bound (acts c s) (begun c s st) (acts_keeps c s) begun-rises

-- ---- the instances' accounts in step with the table

pub record InstanceSim (st : State) (acc : InstanceAccounts) : Type 0 where
  pub rising : Within instance_key 0 bound st.instances
  pub agree : (j : ℕ) → lookup instance_key j st.instances ≡ acc.at j
  pub handles : acc.handles ≡ up_from 1 (length acc.handles)
  pub next : st.next_handle ≡ 1 + length acc.handles

one-next : (st : State) (acc : InstanceAccounts) → InstanceSim st acc → 1 ≤ st.next_handle
one-next st acc m = omega (arith, m.next)

-- handles after a call that starts one with the handle to come, or none
handles_more : (b : Bool) (hs new : List ℕ) (next after : ℕ) → hs ≡ up_from 1 (length hs) → next ≡ 1 + length hs →
    new ≡ cond b (next ∷ []) [] → after ≡ next + bit b →
    (hs ++ new ≡ up_from 1 (length (hs ++ new))) × (after ≡ 1 + length (hs ++ new))
handles_more true hs new next after e n d a =
    let l : length (hs ++ (next ∷ [])) ≡ suc (length hs) = omega (arith, length-append hs (next ∷ [])) in
    rw (d, l) (
      ap (λ (x : List ℕ). x ++ (next ∷ [])) e ∙ rw n (up_more 1 (length hs)),
      omega arith,
    )
handles_more false hs new next after e n d a = rw (d, append-nil hs) (e, omega arith)

-- a state whose instances stay, and accounts that no call altered
instances_stay : (st st' : State) (acc : InstanceAccounts) (c : Call) (e : Event) (gone : List Guid) →
    st'.instances ≡ st.instances →
    st'.next_handle ≡ st.next_handle → e.handle ≡ 0 →
    ((j : ℕ) (x : Instance) → lookup instance_key j st.instances ≡ some x → on_present c e gone j x ≡ some x) →
    InstanceSim st acc →
    InstanceSim st' (S.reach (some c) e gone acc)
instances_stay st st' acc c e gone same next silent quiet m =
    record {
      rising = rw same m.rising;
      agree = λ j. rw (same, ← m.agree j) (go j (lookup instance_key j st.instances) refl);
      handles = rw none_start (rw (append-nil acc.handles) m.handles);
      next = rw none_start (rw (append-nil acc.handles) (next ∙ m.next));
    }
  where
    go : (j : ℕ) (o : Option Instance) → lookup instance_key j st.instances ≡ o → o ≡ on_instance c e gone j o
    go j none n = split (is_keyed e.sheet j) (λ d. rw (d, silent)) (λ d. rw d)
    go j (some x) n = sym (quiet j x n)

    none_at : (o : Option Instance) → starts_at e o ≡ []
    none_at none = rw silent
    none_at (some x) = refl

    none_start : starts_at e (acc.at (num e.sheet.key)) ≡ []
    none_start = none_at (acc.at (num e.sheet.key))

pub tracker-heard : (st st' : State) (acc : InstanceAccounts) (c : TrackerCall) (e : Event) (gone : List Guid) →
    st'.instances ≡ st.instances → st'.next_handle ≡ st.next_handle → e.handle ≡ 0 → InstanceSim st acc →
    InstanceSim st' (S.reach (some (tracker c)) e gone acc)
tracker-heard st st' acc c e gone same next silent m =
    instances_stay st st' acc (tracker c) e gone same next silent (λ j x n. refl) m

-- codes 2 and 9 at the limit
pub limit_heard : (st : State) (acc : InstanceAccounts) (c : InstanceCall) (s : Sheet) (gone : List Guid) →
    limited_by (rule c).reach ≡ true →
    known s st ≡ false → InstanceSim st acc → InstanceSim st (S.reach (some (instances c)) (event_by s 0 0) gone acc)
limit_heard st acc c s gone limited unknown m =
    instances_stay st st acc (instances c) (event_by s 0 0) gone refl refl refl far m
  where
    far : (j : ℕ) (x : Instance) → lookup instance_key j st.instances ≡ some x →
        on_present (instances c) (event_by s 0 0) gone j x ≡ some x
    far j x n =
        let k : instance_key x ≡ j = lookup_key instance_key j st.instances x n in
        let r : reached_by (way_of c) s j x ≡ eqb j (num s.key) =
        rw (← k) (sym (reach-is c s x) ∙ starting_reach (rule c).reach s x (limited-starts (rule c).reach limited)) in
        split (eqb j (num s.key))
        (λ d.
        let p : lookup instance_key j st.instances ≡ none =
        rw (eqb-true j (num s.key) d) (unknown_none _ (sym (known_is s st) ∙ unknown)) in missing (sym p ∙ n))
        (λ d. rw (r, d))

-- outcomes 1 to 4 of admit
cond_off : {A : Type 0} (b : Bool) (x y : A) → cond (b && false) x y ≡ y
cond_off true x y = refl
cond_off false x y = refl

stopped_stays : (s : Sheet) (outcome : ℕ) (gone : List Guid) (j : ℕ) (x : Instance) → eqb outcome 0 ≡ false →
    on_present (joined admit) (event_by s 0 outcome) gone j x ≡ some x
stopped_stays s outcome gone j x e =
    ap (λ (b : Bool). cond (is_keyed s j && b) (S.leaving x (some (S.admitting s x.state))) (some x)) e
    ∙ cond_off (is_keyed s j) (S.leaving x (some (S.admitting s x.state))) (some x)

pub stopped_heard : (st : State) (acc : InstanceAccounts) (s : Sheet) (outcome : ℕ) (gone : List Guid) →
    eqb outcome 0 ≡ false → InstanceSim st acc →
    InstanceSim st (S.reach (some (joined admit)) (event_by s 0 outcome) gone acc)
stopped_heard st acc s outcome gone e m =
    instances_stay st st acc (joined admit) (event_by s 0 outcome) gone refl refl refl
    (λ j x n. stopped_stays s outcome gone j x e) m

-- ---- an instance call that acts

-- the counter moves on by one where an instance is started
pub next-is : (c : InstanceCall) (s : Sheet) (st : State) → 1 ≤ st.next_handle →
    (begins c s st ≡ true → st.next_handle < 2 ^ 63) →
    next_after c s st ≡ st.next_handle + bit (begins c s st)
unfolding next_after allocated
next-is c s st one room =
    split (begins c s st)
    (λ e. let l : st.next_handle < 2 ^ 63 = room e in
    rw (e, not-nil st.next_handle one) (mod-eq_of_lt {n = st.next_handle + 1} {m = 2 ^ 64} (omega arith)))
    (λ e. rw e (sym (add-zero st.next_handle)))

-- the handles that the call starts
starts_are : (c : InstanceCall) (s : Sheet) (st : State) (fits : FitsGuid s.key)
    (rises : Within instance_key 0 bound st.instances) (one : 1 ≤ st.next_handle) (outcome : ℕ) →
    starts_at (event_by s (answered c s st fits rises one) outcome) (lookup instance_key (num s.key) st.instances) ≡ cond
    (begins c s st) (st.next_handle ∷ []) []
starts_are c s st fits rises one outcome =
    split (begins c s st)
    (λ e. rw (
      (begins-absent c s st e).1,
      answered_new c s st fits rises one e,
      e,
      ne_eqb st.next_handle 0
          (λ q. omega arith),
    ))
    (λ e. rw e (go e (lookup instance_key (num s.key) st.instances) refl))
  where
    go : begins c s st ≡ false → (o : Option Instance) → lookup instance_key (num s.key) st.instances ≡ o →
        starts_at (event_by s (answered c s st fits rises one) outcome) o ≡ []
    go e none n = rw (answered_none c s st fits rises one e n)
    go e (some x) n = refl

pub instance-heard : (st : State) (acc : InstanceAccounts) (c : InstanceCall) (s : Sheet) (gone : List Guid)
    (outcome : ℕ) → FitsGuid s.key →
    (begins c s st ≡ true → st.next_handle < 2 ^ 63) → InstanceSim st acc →
    InstanceSim (instance_turn c s st).state
    (S.reach (some (instances c)) (event_by s (instance_turn c s st).answer.handle.0 outcome) gone acc)
unfolding instance_turn answered
instance-heard st acc c s gone outcome fits room m =
    let one : 1 ≤ st.next_handle = one-next st acc m in
    let h : ℕ = answered c s st fits m.rising one in
    let more = handles_more (begins c s st) acc.handles (starts_at (event_by s h outcome) (acc.at (num s.key)))
    st.next_handle (next_after c s st)
    m.handles m.next
    (ap (starts_at (event_by s h outcome)) (sym (m.agree (num s.key))) ∙ starts_are c s st fits m.rising one outcome)
    (next-is c s st one room) in
    record {
      rising = turned_rises c s st fits m.rising one;
      agree = λ j. turned_at c s st fits m.rising one j gone outcome
          ∙ ap (on_instance (instances c) (event_by s h outcome) gone j) (m.agree j);
      handles = more.0;
      next = more.1;
    }

-- ---- admit with outcome 0: codes 16, 9 and 10, and a further 16

-- the further one takes an instance that was started
started_taken : (s : Sheet) (k : Guid) (h : ℕ) →
    ownership_tried s (admitted_noted s (admitted_observed s (started k h).state))
    ≡ owned_from s (admitted_noted s (admitted_observed s (started k h).state))
unfolding started
started_taken s k h = first_taken s

-- the four on one account are section 6's one, where 16 and 10 answer no handle
admit-steps : (s : Sheet) (gone : List Guid) (j h before after last : ℕ) (o : Option Instance) → before ≡ 0 → after ≡ 0 →
    last ≡ 0 →
    on_instance (instances accept_under_exclusive_ownership) (event_by s last 0) [] j
    (on_instance (instances note_admitted) (event_by s after 0) [] j
    (on_instance (instances observe_admitted) (event_by s h 0) [] j
    (on_instance (instances accept_under_exclusive_ownership) (event_by s before 0) [] j o)))
    ≡ on_instance (joined admit) (event_by s h 0) gone j o
admit-steps s gone j h before after last none e d f =
    split (is_keyed s j)
    (λ k. rw (e, k) (split (eqb h 0) (λ z. rw (z, k, d, f) (still k)) (λ z. rw (z, k, k, k, started_taken s s.key h))))
    (λ k. rw (e, k, k, k, k))
  where
    quiet : (c : InstanceCall) → is_keyed s j ≡ true → on_absent (instances c) (event_by s 0 0) j ≡ none
    quiet c k = rw k

    still : is_keyed s j ≡ true →
        on_instance (instances accept_under_exclusive_ownership) (event_by s 0 0) [] j (on_absent (instances note_admitted) (event_by s 0 0) j) ≡ none
    still k =
        ap (on_instance (instances accept_under_exclusive_ownership) (event_by s 0 0) [] j) (quiet note_admitted k)
        ∙ quiet accept_under_exclusive_ownership k
admit-steps s gone j h before after last (some x) e d f =
    split (is_keyed s j) (λ k. rw (k, k, k, k, tried_again s x.state)) (λ k. rw (k, k, k, k))

-- code 16 neither starts nor purges
pub tried_none : (s : Sheet) (j h : ℕ) (o : Option Instance) → h ≡ 0 →
    on_instance (instances accept_under_exclusive_ownership) (event_by s h 0) [] j o ≡ none → o ≡ none
tried_none s j h none e n = refl
tried_none s j h (some x) e n =
    split (is_keyed s j)
    (λ k. let q : S.leaving x (effect accept_under_exclusive_ownership s x.state) ≡ none = rw k at n in missing (sym q))
    (λ k. let q : some x ≡ none = rw k at n in q)

tried_starts : (s : Sheet) (j h before : ℕ) (o : Option Instance) → before ≡ 0 →
    starts_at (event_by s h 0) (on_instance (instances accept_under_exclusive_ownership) (event_by s before 0) [] j o) ≡ starts_at
    (event_by s h 0) o
tried_starts s j h before none e = split (is_keyed s j) (λ k. rw (e, k)) (λ k. rw k)
tried_starts s j h before (some x) e = split (is_keyed s j) (λ k. rw k) (λ k. rw k)

silent-starts : (s : Sheet) (h : ℕ) (o : Option Instance) → h ≡ 0 → starts_at (event_by s h 0) o ≡ []
silent-starts s h none e = rw e
silent-starts s h (some x) e = refl

-- accounts that agree at each key, with the same handles
same_accounts : (st : State) (acc acc' : InstanceAccounts) → ((j : ℕ) → acc.at j ≡ acc'.at j) →
    acc.handles ≡ acc'.handles →
    InstanceSim st acc → InstanceSim st acc'
same_accounts st acc acc' e d m =
    record {
      rising = m.rising;
      agree = λ j. m.agree j ∙ e j;
      handles = rw (← d) m.handles;
      next = rw (← d) m.next;
    }

abbrev pub tried : Sheet → State → State
tried s st = (instance_turn accept_under_exclusive_ownership s st).state

abbrev pub observed : Sheet → State → State
observed s st = (instance_turn observe_admitted s (tried s st)).state

pub tried_next : (s : Sheet) (st : State) → (tried s st).next_handle ≡ st.next_handle
unfolding instance_turn next_after
tried_next s st = refl

pub tried_silent : (s : Sheet) (st : State) → (instance_turn accept_under_exclusive_ownership s st).answer.handle.0 ≡ 0
unfolding instance_turn
tried_silent s st = refl

noted_silent : (s : Sheet) (st : State) → (instance_turn note_admitted s st).answer.handle.0 ≡ 0
unfolding instance_turn
noted_silent s st = info_answer_lem (lookup instance_key (num s.key) (instances_after note_admitted s st))

admitted-handle : (s : Sheet) (st : State) →
    (admitted s st).answer.handle.0 ≡ (instance_turn observe_admitted s (tried s st)).answer.handle.0
unfolding admitted sampled
admitted-handle s st = refl

abbrev pub noted : Sheet → State → State
noted s st = (instance_turn note_admitted s (observed s st)).state

pub admitted-is : (s : Sheet) (st : State) → (admitted s st).state ≡ tried s (noted s st)
admitted-is s st = admitted-state s st ∙ ap (tried s) (unfold sampled in refl)

module _ (s : Sheet) (st : State) (acc : InstanceAccounts) (fits : FitsGuid s.key) (m : InstanceSim st acc)
    (room : lookup instance_key (num s.key) st.instances ≡ none → st.next_handle < 2 ^ 63) where
  abbrev k : ℕ
  k = num s.key

  abbrev h1 : ℕ
  h1 = (instance_turn accept_under_exclusive_ownership s st).answer.handle.0

  abbrev h2 : ℕ
  h2 = (instance_turn observe_admitted s (tried s st)).answer.handle.0

  abbrev acc1 : InstanceAccounts
  acc1 = S.reach (some (instances accept_under_exclusive_ownership)) (event_by s h1 0) [] acc

  abbrev acc2 : InstanceAccounts
  acc2 = S.reach (some (instances observe_admitted)) (event_by s h2 0) [] acc1

  m1 : InstanceSim (tried s st) acc1
  m1 = instance-heard st acc accept_under_exclusive_ownership s [] 0 fits (λ e. never (sym e)) m

  room1 : begins observe_admitted s (tried s st) ≡ true → (tried s st).next_handle < 2 ^ 63
  room1 e =
      rw (tried_next s st)
      (room (m.agree k ∙ tried_none s k h1 (acc.at k) (tried_silent s st)
      (sym (m1.agree k) ∙ (begins-absent observe_admitted s (tried s st) e).1)))

  m2 : InstanceSim (observed s st) acc2
  m2 = instance-heard (tried s st) acc1 observe_admitted s [] 0 fits room1 m1

  pub admit-heard : (gone : List Guid) →
      InstanceSim (admitted s st).state (S.reach (some (joined admit)) (event_by s (admitted s st).answer.handle.0 0) gone acc)
  admit-heard gone =
      rw (admitted-is s st, admitted-handle s st) (same_accounts (tried s (noted s st)) acc4 _ points starts m4)
    where
      h3 : ℕ
      h3 = (instance_turn note_admitted s (observed s st)).answer.handle.0

      h4 : ℕ
      h4 = (instance_turn accept_under_exclusive_ownership s (noted s st)).answer.handle.0

      acc3 : InstanceAccounts
      acc3 = S.reach (some (instances note_admitted)) (event_by s h3 0) [] acc2

      acc4 : InstanceAccounts
      acc4 = S.reach (some (instances accept_under_exclusive_ownership)) (event_by s h4 0) [] acc3

      m3 : InstanceSim (noted s st) acc3
      m3 = instance-heard (observed s st) acc2 note_admitted s [] 0 fits (λ e. never (sym e)) m2

      m4 : InstanceSim (tried s (noted s st)) acc4
      m4 = instance-heard (noted s st) acc3 accept_under_exclusive_ownership s [] 0 fits (λ e. never (sym e)) m3

      points : (j : ℕ) → acc4.at j ≡ on_instance (joined admit) (event_by s h2 0) gone j (acc.at j)
      points j =
          admit-steps s gone j h2 h1 h3 h4 (acc.at j) (tried_silent s st) (noted_silent s (observed s st)) (tried_silent s (noted s st))

      starts : acc4.handles ≡ acc.handles ++ starts_at (event_by s h2 0) (acc.at k)
      starts =
          rw (
            silent-starts s h4 (acc3.at k) (tried_silent s (noted s st)),
            append-nil acc3.handles,
            silent-starts s h3 (acc2.at k) (noted_silent s (observed s st)),
            append-nil acc2.handles,
            silent-starts s h1 (acc.at k) (tried_silent s st),
            append-nil acc.handles,
          ) (ap (λ (l : List ℕ). acc.handles ++ l) (tried_starts s k h2 h1 (acc.at k) (tried_silent s st)))

  -- the handle answered is that of the instance found
  answered_found : h2 ≡ handle_in (acc2.at k)
  answered_found = found ∙ ap handle_in (m2.agree k)
    where
      found : h2 ≡ handle_in (lookup instance_key k (observed s st).instances)
      found = unfold instance_turn in samples_answer_lem (lookup instance_key k (instances_after observe_admitted s (tried s st)))

  tried_there : (x : Instance) → acc.at k ≡ some x →
      handle_in (on_instance (instances observe_admitted) (event_by s h2 0) [] k
      (on_instance (instances accept_under_exclusive_ownership) (event_by s h1 0) [] k (acc.at k))) ≡ x.handle.0
  tried_there x e = rw e (split (eqb k k) (λ d. rw (d, d)) (λ d. rw (d, d)))

  pub handle-there : (x : Instance) → acc.at k ≡ some x → h2 ≡ x.handle.0
  handle-there x e = answered_found ∙ tried_there x e

  unknown : acc.at k ≡ none → known s (tried s st) ≡ false
  unknown e = known_is s (tried s st) ∙ ap is_some (m1.agree k ∙ gone)
    where
      gone : acc1.at k ≡ none
      gone = rw (e, tried_silent s st) (split (eqb k k) (λ d. rw d) (λ d. rw d))

  more : acc.at k ≡ none → (observed s st).next_handle ≡ (tried s st).next_handle + 1
  more e =
      unfold instance_turn in
      next-is observe_admitted s (tried s st) (omega (arith, m1.next)) room1
      ∙ ap (λ (b : Bool). (tried s st).next_handle + bit (not b)) (unknown e)

  pub handle_new : acc.at k ≡ none → eqb h2 0 ≡ false
  handle_new e =
      split (eqb h2 0)
      (λ d.
      let z : h2 ≡ 0 = eqb-true h2 0 d in
      let n : length acc2.handles ≡ length acc1.handles + length (starts_at (event_by s h2 0) (acc1.at k)) =
      length-append acc1.handles (starts_at (event_by s h2 0) (acc1.at k)) in
      let q : length (starts_at (event_by s h2 0) (acc1.at k)) ≡ 0 = ap length (silent-starts s h2 (acc1.at k) z) in
      absurd (omega (arith, n, q, more e, m2.next, m1.next)))
      (λ d. d)

-- ---- codes 49 to 51

loses_keeps : (gone : List Guid) (at : MaybeTime) → Keeps instance_key (loses gone at)
loses_keeps gone at x y e = ap num (kept_key x y (some (left_without_all gone at x.state)) e).0

pub loss_heard : (st st' : State) (acc : InstanceAccounts) (c : JoinedCall) (s : Sheet) (gone : List Guid) →
    st'.instances ≡ sift (loses gone (if_present s.time_1)) st.instances → st'.next_handle ≡ st.next_handle →
    ((j : ℕ) (x : Instance) → on_present (joined c) (event_by s 0 0) gone j x ≡ S.losing gone s x) → InstanceSim st acc →
    InstanceSim st' (S.reach (some (joined c)) (event_by s 0 0) gone acc)
loss_heard st st' acc c s gone same next losing m =
    record {
      rising = rw same (within-sift instance_key 0 bound f st.instances (loses_keeps gone at) m.rising);
      agree = λ j. rw same
          (lookup_sift instance_key j 0 bound f st.instances (loses_keeps gone at) m.rising
          ∙ rw (← m.agree j) (go j (lookup instance_key j st.instances)));
      handles = rw none_start (rw (append-nil acc.handles) m.handles);
      next = rw none_start (rw (append-nil acc.handles) (next ∙ m.next));
    }
  where
    at : MaybeTime
    at = if_present s.time_1

    f : Instance → Option Instance
    f = loses gone at

    go : (j : ℕ) (o : Option Instance) → bind f o ≡ on_instance (joined c) (event_by s 0 0) gone j o
    go j none = split (is_keyed s j) (λ d. rw d) (λ d. rw d)
    go j (some x) = sym (losing j x)

    none_start : starts_at (event_by s 0 0) (acc.at (num s.key)) ≡ []
    none_start = silent-starts s 0 (acc.at (num s.key)) refl
