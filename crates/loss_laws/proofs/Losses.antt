-- Codes 49, 50 and 51 as calls one after the other: a tracker call, then codes 7 and 18 for each writer that is gone.
--     called_for       the state after codes 7 and 18 for one writer after the other, with the same sheet but for its GUID
--     cleared_for      the sum of what the codes 18 answer, owners cleared
--     listed_for       the handles that the codes 7 list; `drop-lists` says that they are
--     composed        what these calls leave and answer together
--     loss_calls      code 49, 50 or 51, not refused, is that
--     lapse-calls, part-calls, depart-calls      each code
use Prim.Native.Nat.{ℕ, suc, ◌+◌}
use mathlib.Core.Bool.{Bool, true, false, not, ◌||◌, cond}
use mathlib.Core.List.{List, [], ◌∷◌, ◌++◌, map}
use mathlib.Core.Path.{◌≡◌, refl, sym, ap, ◌∙◌, subst}
use native.Mathlib.Omega.{arith}
use borrow.Author.Tests.{eqb-true, eqb-false, eq-eqb, ne_eqb}
use lib.Dec.{eqb}
use lib.ListN.{length}
use Rattle.octets.specs.Lay.{All}
use Rattle.octets.specs.Patch.{digits}
use Rattle.model.specs.declared.Guid.{Guid}
use Rattle.model.specs.declared.Instance.{Instance}
use Rattle.model.specs.declared.InstanceCall.TheVariants.{DropWriter, ClearOwnerForWriter}
use Rattle.model.specs.declared.JoinedCall.TheVariants.{Lapse, Part, Depart}
use Rattle.model.specs.declared.MaybeTime.{MaybeTime}
use Rattle.model.specs.declared.Sheet.{Sheet}
use Rattle.model.specs.declared.TrackerCall.{TrackerCall}
use Rattle.model.specs.declared.TrackerCall.TheVariants.{Unmatched, LostWithParticipant, Expire}
use Rattle.model.specs.Answers.{with_list}
use Rattle.model.specs.InstanceCalls.{Turned, with_instances, acts, begun, next_after, instances_after, late_refusal, handle_bytes, owned_by, instance_turn, instance_call}
use Rattle.model.specs.InstanceRecord.{bit}
use Rattle.model.specs.Instances.{owns, left_by, writer_dropped}
use Rattle.model.specs.Joined.{left_without, left_without_all, left_by_one, clearings, clearings_in, loses, left_writerless, after_loss, loss_call, joined_call}
use Rattle.model.specs.State.{State}
use Rattle.model.specs.Tables.{pick, all, sift}
use Rattle.model.specs.Times.{if_present}
use Rattle.model.specs.WellFormed.{other_handle, handles_distinct}
use Rattle.model.specs.Writers.{movers, tracker_late, tracker_state, tracker_turn, tracker_call}
use Rattle.model.proofs.Tests.{both, split}

-- ---- the calls

-- the same sheet, naming another writer
abbrev pub naming : Guid → Sheet → Sheet
naming g s =
    record {
      key = s.key;
      guid = g;
      handle = s.handle;
      time_1 = s.time_1;
      time_2 = s.time_2;
      a = s.a;
      b = s.b;
      first = s.first;
      second = s.second;
      deadline_present = s.deadline_present;
      lease_present = s.lease_present;
      manual = s.manual;
      by_source = s.by_source;
      kind = s.kind;
      code = s.code;
      holder = s.holder;
    }

-- code 7, then code 18, for one writer
abbrev pub drop_call : ℕ → Sheet → Guid → State → Turned
drop_call places s g st = instance_call places DropWriter (naming g s) st

abbrev pub clear_call : ℕ → Sheet → Guid → State → Turned
clear_call places s g st = instance_call places ClearOwnerForWriter (naming g s) (drop_call places s g st).state

-- for each of several, one after the other
unfoldable pub called_for : ℕ → Sheet → List Guid → State → State
called_for places s [] st = st
called_for places s (g ∷ gs) st = called_for places s gs (clear_call places s g st).state

-- the sum of owners cleared
unfoldable pub cleared_for : ℕ → Sheet → List Guid → State → ℕ
cleared_for places s [] st = 0
cleared_for places s (g ∷ gs) st = (clear_call places s g st).answer.count + cleared_for places s gs (clear_call places s g st).state

-- ---- the lists

abbrev pub handle_of : Instance → ℕ
handle_of x = x.handle.0

abbrev leaves : Guid → Instance → Bool
leaves g x = left_by g x.state

-- handles, 8 bytes each
unfoldable pub handles_laid : List ℕ → List ℕ
handles_laid [] = []
handles_laid (h ∷ hs) = digits 8 h ++ handles_laid hs

-- the handles that code 7 lists for one writer
unfoldable pub listed_handles : Guid → List Instance → List ℕ
listed_handles g xs = map handle_of (pick (leaves g) xs)

-- all those lists
unfoldable pub listed_for : ℕ → Sheet → List Guid → State → List ℕ
listed_for places s [] st = []
listed_for places s (g ∷ gs) st = listed_handles g st.instances ++ listed_for places s gs (clear_call places s g st).state

unfoldable pub among : List ℕ → ℕ → Bool
among [] h = false
among (n ∷ ns) h = eqb n h || among ns h

-- each handle of these lists once, in key order: the handles of the table, of which one of the lists has them
abbrev pub once_in_order : List ℕ → List Instance → List ℕ
once_in_order hs xs = pick (among hs) (map handle_of xs)

-- ---- a tracker call and these calls together: the answer is that of the tracker call, the number of handles in Out and the
-- sum of owners cleared

abbrev pub composed : ℕ → TrackerCall → List Guid → Sheet → State → Turned
composed places c gs s st =
    record {
      answer = with_list (tracker_call c s st).answer (cleared_for places s gs (tracker_call c s st).state)
          (length (once_in_order (listed_for places s gs (tracker_call c s st).state) st.instances));
      state = called_for places s gs (tracker_call c s st).state;
      list = handles_laid (once_in_order (listed_for places s gs (tracker_call c s st).state) st.instances);
    }

laid-handles : (xs : List Instance) → handle_bytes xs ≡ handles_laid (map handle_of xs)
unfolding handle_bytes handles_laid
laid-handles [] = refl
laid-handles (x ∷ xs) = rw (laid-handles xs)

-- ---- one writer: both calls turn each instance alone

abbrev losing : Guid → MaybeTime → Instance → Instance
losing g at x = record { key = x.key; handle = x.handle; state = left_without g at x.state }

abbrev dropping : Guid → MaybeTime → Instance → Instance
dropping g at x = record { key = x.key; handle = x.handle; state = writer_dropped g at x.state }

module _ (places : ℕ) (s : Sheet) (g : Guid) (st : State) where
  abbrev at : MaybeTime
  at = if_present s.time_1

  dropped_all : (xs : List Instance) → sift (acts DropWriter (naming g s)) xs ≡ map (dropping g at) xs
  unfolding sift
  dropped_all [] = refl
  dropped_all (x ∷ xs) = rw (dropped_all xs)

  cleared_all : (xs : List Instance) → sift (acts ClearOwnerForWriter (naming g s)) (map (dropping g at) xs) ≡ map (losing g at) xs
  unfolding sift
  cleared_all [] = refl
  cleared_all (x ∷ xs) = rw (cleared_all xs)

  drop-is : (drop_call places s g st).state ≡ with_instances (map (dropping g at) st.instances) st.next_handle st
  unfolding instance_call late_refusal instance_turn instances_after begun next_after
  drop-is = rw (dropped_all st.instances)

  pub drop-lists : (drop_call places s g st).list ≡ handles_laid (listed_handles g st.instances)
  unfolding instance_call late_refusal instance_turn begun listed_handles
  drop-lists = laid-handles (pick (leaves g) st.instances)

  clear_is : (clear_call places s g st).state ≡ with_instances (map (losing g at) st.instances) st.next_handle st
  unfolding instance_call late_refusal instance_turn instances_after begun next_after
  clear_is = rw (dropped_all st.instances, cleared_all st.instances)

  clear_counts : (clear_call places s g st).answer.count ≡ length (pick (owned_by (naming g s)) (map (dropping g at) st.instances))
  unfolding instance_call late_refusal instance_turn instances_after begun
  clear_counts = rw (dropped_all st.instances)

-- ---- several writers, on the instances alone

module _ (places : ℕ) (s : Sheet) where
  abbrev when : MaybeTime
  when = if_present s.time_1

  loses_more : (g : Guid) (gs : List Guid) (xs : List Instance) → sift (loses gs when) (map (losing g when) xs) ≡ sift (loses (g ∷ gs) when) xs
  unfolding sift left_without_all
  loses_more g gs [] = refl
  loses_more g gs (x ∷ xs) = rw (loses_more g gs xs)

  loses_none : (xs : List Instance) → sift (loses [] when) xs ≡ xs
  unfolding sift left_without_all
  loses_none [] = refl
  loses_none (x ∷ xs) = rw (loses_none xs)

  -- state
  states : (gs : List Guid) (st : State) → with_instances (sift (loses gs when) st.instances) st.next_handle st ≡ called_for places s gs st
  unfolding called_for
  states [] st = rw (loses_none st.instances)
  states (g ∷ gs) st =
      rw (clear_is places s g st)
      (ap (λ (xs : List Instance). with_instances xs st.next_handle st) (sym (loses_more g gs st.instances))
      ∙ states gs (with_instances (map (losing g when) st.instances) st.next_handle st))

  -- owners cleared
  owned_more : (g : Guid) (x : Instance) (xs : List Instance) →
      length (pick (owned_by (naming g s)) (map (dropping g when) (x ∷ xs)))
      ≡ bit (owns g (writer_dropped g when x.state).owner) + length (pick (owned_by (naming g s)) (map (dropping g when) xs))
  unfolding pick
  owned_more g x xs = each (owns g (writer_dropped g when x.state).owner)
    where
      rest : List Instance
      rest = pick (owned_by (naming g s)) (map (dropping g when) xs)

      each : (b : Bool) → length (cond b (dropping g when x ∷ rest) rest) ≡ bit b + length rest
      each true = omega arith
      each false = omega arith

  clears_none : (xs : List Instance) → clearings_in [] when xs ≡ 0
  unfolding clearings_in clearings
  clears_none [] = refl
  clears_none (x ∷ xs) = rw (clears_none xs)

  clears_more : (g : Guid) (gs : List Guid) (xs : List Instance) →
      clearings_in (g ∷ gs) when xs ≡ length (pick (owned_by (naming g s)) (map (dropping g when) xs)) + clearings_in gs when (map (losing g when) xs)
  unfolding clearings_in clearings
  clears_more g gs [] = unfold pick in refl
  clears_more g gs (x ∷ xs) =
      let e = clears_more g gs xs in
      let o = owned_more g x xs in
      omega arith

  counts : (gs : List Guid) (st : State) → clearings_in gs when st.instances ≡ cleared_for places s gs st
  unfolding cleared_for
  counts [] st = clears_none st.instances
  counts (g ∷ gs) st =
      rw (clear_is places s g st, clear_counts places s g st)
      (clears_more g gs st.instances
      ∙ ap (λ (n : ℕ). length (pick (owned_by (naming g s)) (map (dropping g when) st.instances)) + n)
      (counts gs (with_instances (map (losing g when) st.instances) st.next_handle st)))

-- ---- the lists: a handle is listed exactly if its instance is, since handles are distinct

never : {A : Type 0} → true ≡ false → A
never e = let z : ◌≡◌ {A = ℕ} 0 1 = cc in absurd (omega arith)

unequal : (b : Bool) → not b ≡ true → b ≡ false
unequal true e = never (sym e)
unequal false e = refl

-- no other handle of the list is n
abbrev Other : ℕ → Instance → Type 0
Other n x = eqb (handle_of x) n ≡ false

others : (n : ℕ) (xs : List Instance) → all (other_handle n) xs ≡ true → All (Other n) xs
unfolding all
others n [] e = tt
others n (x ∷ xs) e =
    let p = both (not (eqb (handle_of x) n)) (all (other_handle n) xs) e in
    (unequal (eqb (handle_of x) n) p.0, others n xs p.1)

eqb_sym : (a b : ℕ) → eqb a b ≡ eqb b a
eqb_sym a b =
    split (eqb a b) (λ e. e ∙ sym (eq-eqb b a (sym (eqb-true a b e)))) (λ e. e ∙ sym (ne_eqb b a (λ d. eqb-false a b e (sym d))))

module _ (p : Instance → Bool) where
  missing : (n : ℕ) (xs : List Instance) → All (Other n) xs → among (map handle_of (pick p xs)) n ≡ false
  unfolding among pick
  missing n [] o = refl
  missing n (x ∷ xs) o = split (p x) (λ e. rw (e, o.0) (missing n xs o.1)) (λ e. rw e (missing n xs o.1))

  -- the test holds of an instance exactly if its handle is among those picked
  abbrev Picked : List Instance → Instance → Type 0
  Picked ys x = p x ≡ among (map handle_of (pick p ys)) (handle_of x)

  -- one more instance in front does not matter to those with other handles
  picked_more : (y : Instance) (ys xs : List Instance) → All (Other (handle_of y)) xs → All (Picked ys) xs → All (Picked (y ∷ ys)) xs
  unfolding among pick
  picked_more y ys [] o a = tt
  picked_more y ys (x ∷ xs) o a = (
    split (p y) (λ e. rw (e, eqb_sym (handle_of y) (handle_of x), o.0) a.0) (λ e. rw e a.0),
    picked_more y ys xs o.1 a.1,
  )

  picked_first : (y : Instance) (ys : List Instance) → All (Other (handle_of y)) ys → Picked (y ∷ ys) y
  unfolding among pick
  picked_first y ys o = split (p y) (λ e. rw (e, eq-eqb (handle_of y) (handle_of y) refl)) (λ e. rw e (sym (missing (handle_of y) ys o)))

  picked : (xs : List Instance) → handles_distinct xs ≡ true → All (Picked xs) xs
  unfolding handles_distinct
  picked [] d = tt
  picked (x ∷ xs) d =
      let b = both (all (other_handle (handle_of x)) xs) (handles_distinct xs) d in
      let o = others (handle_of x) xs b.0 in
      (picked_first x xs o, picked_more x xs xs o (picked xs b.1))

-- what holds of a handle and of its instance picks the same
pick-handles : (p : Instance → Bool) (q : ℕ → Bool) (xs : List Instance) → All (λ x. p x ≡ q (handle_of x)) xs →
    map handle_of (pick p xs) ≡ pick q (map handle_of xs)
unfolding pick
pick-handles p q [] a = refl
pick-handles p q (x ∷ xs) a =
    split (q (handle_of x))
    (λ e. rw (a.0, e) (ap {B = List ℕ} (λ l. handle_of x ∷ l) (pick-handles p q xs a.1)))
    (λ e. rw (a.0, e) (pick-handles p q xs a.1))

among-append : (hs ks : List ℕ) (n : ℕ) → among (hs ++ ks) n ≡ (among hs n || among ks n)
unfolding among
among-append [] ks n = refl
among-append (h ∷ hs) ks n = split (eqb h n) (λ e. rw e) (λ e. rw e (among-append hs ks n))

module _ (places : ℕ) (s : Sheet) where
  abbrev Listed : List Guid → State → Instance → Type 0
  Listed gs st x = left_writerless gs (if_present s.time_1) x ≡ among (listed_for places s gs st) (handle_of x)

  all_of : (P : Instance → Type 0) → ((x : Instance) → P x) → (xs : List Instance) → All P xs
  all_of P h [] = tt
  all_of P h (x ∷ xs) = (h x, all_of P h xs)

  -- handles stay as they are, and so stay distinct
  others-kept : (g : Guid) (n : ℕ) (xs : List Instance) → all (other_handle n) (map (losing g (if_present s.time_1)) xs) ≡ all (other_handle n) xs
  unfolding all
  others-kept g n [] = refl
  others-kept g n (x ∷ xs) = rw (others-kept g n xs)

  distinct_kept : (g : Guid) (xs : List Instance) → handles_distinct (map (losing g (if_present s.time_1)) xs) ≡ handles_distinct xs
  unfolding handles_distinct
  distinct_kept g [] = refl
  distinct_kept g (x ∷ xs) = rw (others-kept g (handle_of x) xs, distinct_kept g xs)

  -- the first list and all further ones
  joined : (g : Guid) (gs : List Guid) (hs ks : List ℕ) (xs : List Instance) → All (λ x. leaves g x ≡ among hs (handle_of x)) xs →
      All (λ x. left_writerless gs (if_present s.time_1) x ≡ among ks (handle_of x)) (map (losing g (if_present s.time_1)) xs) →
      All (λ x. left_writerless (g ∷ gs) (if_present s.time_1) x ≡ among (hs ++ ks) (handle_of x)) xs
  unfolding left_by_one
  joined g gs hs ks [] a b = tt
  joined g gs hs ks (x ∷ xs) a b = (rw (among-append hs ks (handle_of x), a.0, b.0), joined g gs hs ks xs a.1 b.1)

  listed-all : (gs : List Guid) (st : State) → handles_distinct st.instances ≡ true → All (Listed gs st) st.instances
  unfolding listed_for listed_handles left_by_one
  listed-all [] st d = all_of (Listed [] st) (λ x. unfold among in refl) st.instances
  listed-all (g ∷ gs) st d =
      subst
      (λ (u : State). All (λ x. left_writerless (g ∷ gs) (if_present s.time_1) x ≡ among (listed_handles g st.instances ++ listed_for places s gs u) (handle_of x))
      st.instances)
      (sym (clear_is places s g st))
      (joined g gs (listed_handles g st.instances) (listed_for places s gs next) st.instances (picked (leaves g) st.instances d)
      (listed-all gs next (distinct_kept g st.instances ∙ d)))
    where
      next : State
      next = with_instances (map (losing g (if_present s.time_1)) st.instances) st.next_handle st

  lists : (gs : List Guid) (st : State) → handles_distinct st.instances ≡ true →
      map handle_of (pick (left_writerless gs (if_present s.time_1)) st.instances) ≡ once_in_order (listed_for places s gs st) st.instances
  lists gs st d =
      pick-handles (left_writerless gs (if_present s.time_1)) (among (listed_for places s gs st)) st.instances (listed-all gs st d)

-- ---- the calls together

length-map : (xs : List Instance) → length xs ≡ length (map handle_of xs)
length-map [] = refl
length-map (x ∷ xs) = ap suc (length-map xs)

module _ (places : ℕ) (s : Sheet) (gs : List Guid) where
  after-calls : (t : Turned) → handles_distinct t.state.instances ≡ true →
      after_loss gs (if_present s.time_1) t
      ≡ record {
        answer = with_list t.answer (cleared_for places s gs t.state) (length (once_in_order (listed_for places s gs t.state) t.state.instances));
        state = called_for places s gs t.state;
        list = handles_laid (once_in_order (listed_for places s gs t.state) t.state.instances);
      }
  unfolding after_loss
  after-calls t d =
      rw (
        laid-handles (pick (left_writerless gs (if_present s.time_1)) t.state.instances),
        length-map (pick (left_writerless gs (if_present s.time_1)) t.state.instances),
        lists places s gs t.state d,
        counts places s gs t.state,
        states places s gs t.state,
      )

  pub loss_calls : (c : TrackerCall) (st : State) → tracker_late c s st ≡ 0 → handles_distinct st.instances ≡ true →
      loss_call c gs s st ≡ composed places c gs s st
  unfolding loss_call tracker_call
  loss_calls c st e d = rw (eq-eqb (tracker_late c s st) 0 e) (unfold tracker_turn tracker_state in after-calls (tracker_turn c s st) d)

pub lapse-calls : (places : ℕ) (s : Sheet) (st : State) → tracker_late Expire s st ≡ 0 → handles_distinct st.instances ≡ true →
    joined_call places Lapse s st ≡ composed places Expire (movers Expire s st.writers) s st
lapse-calls places s st e d = loss_calls places s (movers Expire s st.writers) Expire st e d

pub part-calls : (places : ℕ) (s : Sheet) (st : State) → handles_distinct st.instances ≡ true →
    joined_call places Part s st ≡ composed places Unmatched (s.guid ∷ []) s st
part-calls places s st d = loss_calls places s (s.guid ∷ []) Unmatched st refl d

pub depart-calls : (places : ℕ) (s : Sheet) (st : State) → handles_distinct st.instances ≡ true →
    joined_call places Depart s st ≡ composed places LostWithParticipant (s.guid ∷ []) s st
depart-calls places s st d = loss_calls places s (s.guid ∷ []) LostWithParticipant st refl d
