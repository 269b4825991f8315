-- A call leaves the instances' part of the state well formed.
--     instance-sound     an instance call that acts
--     admit-sound        admit with outcome 0
--     losses_sound       codes 49 to 51
--     stays-sound        a call that leaves the instances
use mathlib.Core.Bool.{Bool, true, false}
use mathlib.Core.List.{List, [], ◌∷◌}
use mathlib.Core.Logic.{◌≢◌}
use mathlib.Core.Option.{Option, none, some}
use mathlib.Core.Path.{◌≡◌, refl, sym, ap, ◌∙◌, subst}
use Prim.Native.Nat.{ℕ, suc, ◌+◌, ◌^◌, ◌≤◌, ◌<◌}
use native.Mathlib.Omega.{arith}
use borrow.Author.Tests.{eqb-true, ne_eqb}
use lib.Dec.{eqb, ltb}
use lib.ListN.{length}
use Rattle.octets.specs.Lay.{All}
use Rattle.model.specs.declared.Guid.{Guid}
use Rattle.model.specs.declared.Instance.{Instance}
use Rattle.model.specs.declared.InstanceHandle.{InstanceHandle}
use Rattle.model.specs.declared.InstanceState.{InstanceState}
use Rattle.model.specs.declared.MaybeTime.{MaybeTime}
use Rattle.model.specs.declared.Reach.{Reach}
use Rattle.model.specs.declared.Reach.TheVariants.{ByKey as by_key, StartingByKey as starting_by_key, StartingWithin as starting_within, ByHandle as by_handle, Every as every}
use Rattle.model.specs.declared.Sheet.{Sheet}
use Rattle.model.specs.declared.InstanceCall.{InstanceCall}
use Rattle.model.specs.declared.InstanceCall.TheVariants.{ObserveAdmitted as observe_admitted, NoteAdmitted as note_admitted, AcceptUnderExclusiveOwnership as accept_under_exclusive_ownership}
use Rattle.model.specs.Calls.{instances}
use Rattle.model.specs.Guids.{num}
use Rattle.model.specs.Handles.{allocated}
use Rattle.model.specs.InstanceCalls.{begins, begun, next_after, kept, acts, instances_after, crowds, reached, instance_turn}
use Rattle.model.specs.InstanceRecord.{bit}
use Rattle.model.specs.Instances.{effect, rule, reaches_by, reaches, is_every, started, started_state, admitted_observed}
use Rattle.model.specs.Joined.{admitted, left_without_all, loses}
use Rattle.model.specs.Refusals.{nanoseconds_ok, times_used_by, holder_used_by}
use Rattle.model.specs.Sets.{has}
use Rattle.model.specs.State.{State, instance_key}
use Rattle.model.specs.Tables.{all, find, sift, put}
use Rattle.model.specs.Tables as T
use Rattle.model.proofs.CallLaws.{added-one}
use Rattle.model.proofs.Fits.{FitsGuid}
use Rattle.model.proofs.Keeps.{tried_writers, observed_writers}
use Rattle.model.proofs.TableLaws.{all-put, length-sift}
use Rattle.accounts.specs.InstanceAccounts.{is_keyed, on_instance}
use Rattle.accounts.specs.Ranges.{bound}
use Rattle.accounts.proofs.Basics.{missing, either, never, all_weaken}
use Rattle.model.proofs.Tests.{split}
use Rattle.accounts.proofs.EffectLaws.{Room, SoundAfter, effect-sound, lost-sound, started-sound}
use Rattle.accounts.proofs.InstanceTurns.{acts_stay, begins-absent, next-is, not-nil, answered, turned_at, turned_rises, event_by, tried, observed, noted, tried_next, tried_none, tried_silent, admitted-is}
use Rattle.accounts.proofs.SheetLaws.{SheetFits}
use Rattle.accounts.proofs.Sound.{SoundTime, SoundState}
use Rattle.accounts.proofs.TurnLaws.{lookup, Within, keyed, all-sift, length-put}

pub record SoundInstance (x : Instance) : Type 0 where
  pub key : FitsGuid x.key
  pub state : SoundState x.state

abbrev pub Handled : ℕ → Instance → Type 0
Handled next x = (1 ≤ x.handle.0) × (x.handle.0 < next)

abbrev pub Other : ℕ → Instance → Type 0
Other h x = x.handle.0 ≢ h

abbrev pub Distinct : List Instance → Type 0
Distinct [] = Unit {0}
Distinct (x ∷ xs) = All (Other x.handle.0) xs × Distinct xs

pub record SoundInstances (places : ℕ) (st : State) : Type 0 where
  pub low : 1 ≤ st.next_handle
  pub high : st.next_handle ≤ 2 ^ 63
  pub few : length st.instances ≤ places
  pub each : All SoundInstance st.instances
  pub below : All (Handled st.next_handle) st.instances
  pub distinct : Distinct st.instances

-- ---- handles stay distinct

flip : (a b : ℕ) → a ≢ b → b ≢ a
flip a b h e = h (sym e)

distinct_put : (y : Instance) (xs : List Instance) → All (Other y.handle.0) xs → Distinct xs →
    Distinct (put instance_key y xs)
unfolding put
distinct_put y [] o d = (tt, tt)
distinct_put y (x ∷ xs) o d =
    split (ltb (num x.key) (num y.key))
    (λ e. rw e (
      all-put instance_key (Other x.handle.0) y xs (flip x.handle.0 y.handle.0 o.0) d.0,
      distinct_put y xs o.1 d.1,
    ))
    (λ e. rw e (split (eqb (num x.key) (num y.key)) (λ q. rw q (o.1, d.1)) (λ q. rw q (o, d))))

distinct_kept : (h : ℕ) (o : Option Instance) (xs : List Instance) → ((y : Instance) → o ≡ some y → y.handle.0 ≡ h) →
    All (Other h) xs → Distinct xs →
    Distinct (T.kept o xs)
distinct_kept h none xs e a d = d
distinct_kept h (some y) xs e a d = (rw (e y refl) a, d)

distinct_sift : (f : Instance → Option Instance) (xs : List Instance) →
    ((x y : Instance) → f x ≡ some y → y.handle.0 ≡ x.handle.0) → Distinct xs →
    Distinct (sift f xs)
unfolding sift
distinct_sift f [] stay d = tt
distinct_sift f (x ∷ xs) stay d =
    distinct_kept x.handle.0 (f x) (sift f xs) (stay x)
    (all-sift (Other x.handle.0) (Other x.handle.0) f xs (λ a b o e q. o (sym (stay a b e) ∙ q)) d.0)
    (distinct_sift f xs stay d.1)

below_more : (n : ℕ) (b : Bool) (xs : List Instance) → All (Handled n) xs → All (Handled (n + bit b)) xs
below_more n b xs a = all_weaken (Handled n) (Handled (n + bit b)) (λ x h. (h.0, omega (arith, h.1))) xs a

below_other : (n : ℕ) (xs : List Instance) → All (Handled n) xs → All (Other n) xs
below_other n xs a = all_weaken (Handled n) (Other n) (λ x h e. omega (arith, h.1)) xs a

-- ---- what a search by handle or key finds is the only one

module _ (p : Instance → Bool) where
  abbrev Missed : Instance → Type 0
  Missed x = p x ≡ false

  abbrev Lone : List Instance → Type 0
  Lone [] = Unit {0}
  Lone (x ∷ xs) = (p x ≡ true → All Missed xs) × Lone xs

  abbrev FoundIn : List Instance → Instance → Type 0
  FoundIn xs x = p x ≡ true → find p xs ≡ some x

  lone_found : (xs : List Instance) → Lone xs → All (FoundIn xs) xs
  unfolding find
  lone_found [] l = tt
  lone_found (x ∷ xs) l = (
    (λ e. rw e),
    split (p x)
        (λ e. all_weaken Missed (FoundIn (x ∷ xs)) (λ y n q. never (sym q ∙ n)) xs (l.0 e))
        (λ e. all_weaken (FoundIn xs) (FoundIn (x ∷ xs)) (λ y h q. rw e (h q)) xs (lone_found xs l.1)),
  )

distinct_lone : (h : ℕ) (xs : List Instance) → Distinct xs → Lone (λ x. eqb x.handle.0 h) xs
distinct_lone h [] d = tt
distinct_lone h (x ∷ xs) d = (
  (λ e. all_weaken (Other x.handle.0) (λ y. eqb y.handle.0 h ≡ false)
      (λ y o. ne_eqb y.handle.0 h (λ q. o (q ∙ sym (eqb-true x.handle.0 h e)))) xs d.0),
  distinct_lone h xs d.1,
)

keys_from : (lo hi : ℕ) (xs : List Instance) → Within instance_key lo hi xs → All (λ x. lo ≤ instance_key x) xs
keys_from lo hi [] w = tt
keys_from lo hi (x ∷ xs) w = (
  w.0,
  all_weaken (λ y. suc (instance_key x) ≤ instance_key y) (λ y. lo ≤ instance_key y) (λ y l. omega (arith, w.0)) xs
      (keys_from (suc (instance_key x)) hi xs w.2),
)

rising_lone : (k lo hi : ℕ) (xs : List Instance) → Within instance_key lo hi xs → Lone (keyed instance_key k) xs
rising_lone k lo hi [] w = tt
rising_lone k lo hi (x ∷ xs) w = (
  (λ e. all_weaken (λ y. suc (instance_key x) ≤ instance_key y) (λ y. eqb (instance_key y) k ≡ false)
      (λ y l. ne_eqb (instance_key y) k (λ q. omega (arith, eqb-true (instance_key x) k e))) xs
      (keys_from (suc (instance_key x)) hi xs w.2)),
  rising_lone k (suc (instance_key x)) hi xs w.2,
)

lone_by : (r : Reach) (s : Sheet) (xs : List Instance) → is_every r ≡ false → Within instance_key 0 bound xs → Distinct xs →
    Lone (reaches_by r s) xs
lone_by by_key s xs e w d = rising_lone (num s.key) 0 bound xs w
lone_by starting_by_key s xs e w d = rising_lone (num s.key) 0 bound xs w
lone_by starting_within s xs e w d = rising_lone (num s.key) 0 bound xs w
lone_by by_handle s xs e w d = distinct_lone s.handle.0 xs d
lone_by every s xs e w d = never e

lone : (c : InstanceCall) (s : Sheet) (xs : List Instance) → (rule c).adds_writer ≡ true → Within instance_key 0 bound xs →
    Distinct xs → Lone (reaches c s) xs
lone c s xs e w d = lone_by (rule c).reach s xs (added-one c e) w d

-- ---- an instance call that acts

-- what an accepted call has on its sheet and finds in the state
pub record Entry (places : ℕ) (c : InstanceCall) (s : Sheet) (st : State) : Type 0 where
  pub fits : SheetFits s
  pub place : begins c s st ≡ true → length st.instances < places
  pub handle : begins c s st ≡ true → st.next_handle < 2 ^ 63
  pub crowd : (rule c).adds_writer ≡ true → crowds s (reached c s st.instances) ≡ false
  pub times : all nanoseconds_ok (times_used_by c s) ≡ true
  pub holder : holder_used_by c s ≡ true → s.holder.len ≤ 144

kept-sound : (x y : Instance) (o : Option InstanceState) → FitsGuid x.key → SoundAfter o → kept x o ≡ some y →
    SoundInstance y
kept-sound x y none f m e = missing e
kept-sound x y (some z) f m e =
    let p : record { key = x.key; handle = x.handle; state = z } ≡ y = cc in subst SoundInstance p record { key = f; state = m }

-- the call may put its GUID into the set, where it does
abbrev Roomed : InstanceCall → Sheet → Instance → Type 0
Roomed c s x = reaches c s x ≡ true → (rule c).adds_writer ≡ true → Room s.guid x.state

started-room : (g : Guid) → Room g started_state
unfolding started_state has
started-room g = refl

module _ (places : ℕ) (c : InstanceCall) (s : Sheet) (st : State) (en : Entry places c s st)
    (w : Within instance_key 0 bound st.instances) (m : SoundInstances places st) where
  fresh : Instance
  fresh = started s.key (allocated st.next_handle).handle.0

  begun_either : (P : List Instance → Type 0) → (begins c s st ≡ true → P (put instance_key fresh st.instances)) → P st.instances → P (begun c s st)
  unfolding begun fresh
  begun_either P p q = either P (begins c s st) _ _ p (λ e. q)

  begun_all : (P : Instance → Type 0) → (begins c s st ≡ true → P fresh) → All P st.instances → All P (begun c s st)
  begun_all P p a = begun_either (All P) (λ e. all-put instance_key P fresh st.instances (p e) a) a

  fresh-handle : fresh.handle.0 ≡ st.next_handle
  unfolding fresh started allocated
  fresh-handle = not-nil st.next_handle m.low

  fresh-sound : SoundInstance fresh
  unfolding fresh started
  fresh-sound = record { key = en.fits.key; state = started-sound }

  fresh-room : Roomed c s fresh
  unfolding fresh started
  fresh-room r a = started-room s.guid

  rooms : All (Roomed c s) st.instances
  rooms =
      split (rule c).adds_writer
      (λ a.
      all_weaken (FoundIn (reaches c s) st.instances) (Roomed c s)
      (λ x found r b. ap (crowds s) (sym (found r)) ∙ en.crowd a) st.instances
      (lone_found (reaches c s) st.instances (lone c s st.instances a w m.distinct)))
      (λ a. all_weaken SoundInstance (Roomed c s) (λ x q r b. never (sym b ∙ a)) st.instances m.each)

  abbrev Ready : Instance → Type 0
  Ready x = SoundInstance x × Roomed c s x

  pair_up : (xs : List Instance) → All SoundInstance xs → All (Roomed c s) xs → All Ready xs
  pair_up [] a b = tt
  pair_up (x ∷ xs) a b = ((a.0, b.0), pair_up xs a.1 b.1)

  acts-sound : (x y : Instance) → Ready x → acts c s x ≡ some y → SoundInstance y
  acts-sound x y q e =
      split (reaches c s x)
      (λ d.
      kept-sound x y (effect c s x.state) q.0.key
      (effect-sound c s x.state en.fits record { times = en.times; holder = en.holder; room = q.1 d }
      q.0.state)
      (rw d at e))
      (λ d. let v : some x ≡ some y = rw d at e in let p : x ≡ y = cc in subst SoundInstance p q.0)

  stays : (x y : Instance) → acts c s x ≡ some y → y.handle.0 ≡ x.handle.0
  stays x y e = ap (λ (h : InstanceHandle). h.0) (acts_stay c s x y e).1

  next-at : next_after c s st ≡ st.next_handle + bit (begins c s st)
  next-at = next-is c s st m.low en.handle

  bit_at : (b : Bool) → b ≡ true → bit b ≡ 1
  bit_at b e = rw e

  begun-below : All (Handled (st.next_handle + bit (begins c s st))) (begun c s st)
  begun-below =
      begun_all (Handled (st.next_handle + bit (begins c s st)))
      (λ e. (omega (arith, fresh-handle, m.low), omega (arith, fresh-handle, bit_at (begins c s st) e)))
      (below_more st.next_handle (begins c s st) st.instances m.below)

  begun_distinct : Distinct (begun c s st)
  begun_distinct =
      begun_either Distinct
      (λ e. distinct_put fresh st.instances (rw fresh-handle (below_other st.next_handle st.instances m.below)) m.distinct) m.distinct

  fresh_key : instance_key fresh ≡ num s.key
  unfolding fresh started
  fresh_key = refl

  begun-few : length (begun c s st) ≤ places
  begun-few =
      begun_either (λ (xs : List Instance). length xs ≤ places)
      (λ e. rw (length-put instance_key 0 bound fresh st.instances w, fresh_key, (begins-absent c s st e).1) (omega (arith, en.place e))) m.few

  pub instance-sound : SoundInstances places (instance_turn c s st).state
  unfolding instance_turn instances_after
  instance-sound =
      record {
        low = rw next-at (omega (arith, m.low));
        high = rw next-at (high (begins c s st) refl);
        few = omega (arith, length-sift (acts c s) (begun c s st), begun-few);
        each = all-sift Ready SoundInstance (acts c s) (begun c s st) acts-sound
            (begun_all Ready (λ e. (fresh-sound, fresh-room)) (pair_up st.instances m.each rooms));
        below =
            rw next-at
            (all-sift (Handled (st.next_handle + bit (begins c s st))) (Handled (st.next_handle + bit (begins c s st)))
            (acts c s) (begun c s st)
            (λ x y h e. (omega (arith, h.0, stays x y e), omega (arith, h.1, stays x y e))) begun-below);
        distinct = distinct_sift (acts c s) (begun c s st) stays begun_distinct;
      }
    where
      high : (b : Bool) → begins c s st ≡ b → st.next_handle + bit b ≤ 2 ^ 63
      high true e = omega (arith, en.handle e)
      high false e = omega (arith, m.high)

-- ---- codes 49 to 51

loses_stay : (gone : List Guid) (at : MaybeTime) (x y : Instance) → loses gone at x ≡ some y → y.handle.0 ≡ x.handle.0
loses_stay gone at x y e =
    let p : record { key = x.key; handle = x.handle; state = left_without_all gone at x.state } ≡ y = cc in
    sym (ap (λ (i : Instance). i.handle.0) p)

pub losses_sound : (places : ℕ) (gone : List Guid) (at : MaybeTime) (st st' : State) → SoundTime at →
    st'.instances ≡ sift (loses gone at) st.instances → st'.next_handle ≡ st.next_handle → SoundInstances places st →
    SoundInstances places st'
losses_sound places gone at st st' t same next m =
    record {
      low = rw next m.low;
      high = rw next m.high;
      few = rw same (omega (arith, length-sift (loses gone at) st.instances, m.few));
      each =
          rw same
          (all-sift SoundInstance SoundInstance (loses gone at) st.instances
          (λ x y q e. kept-sound x y (some (left_without_all gone at x.state)) q.key
          (lost-sound gone at x.state t q.state) e) m.each);
      below =
          rw (same, next)
          (all-sift (Handled st.next_handle) (Handled st.next_handle) (loses gone at) st.instances
          (λ x y h e. (omega (arith, h.0, loses_stay gone at x y e), omega (arith, h.1, loses_stay gone at x y e)))
          m.below);
      distinct = rw same (distinct_sift (loses gone at) st.instances (loses_stay gone at) m.distinct);
    }

pub stays-sound : (places : ℕ) (st st' : State) → st'.instances ≡ st.instances → st'.next_handle ≡ st.next_handle →
    SoundInstances places st →
    SoundInstances places st'
stays-sound places st st' same next m =
    record {
      low = rw next m.low;
      high = rw next m.high;
      few = rw same m.few;
      each = rw same m.each;
      below = rw (same, next) m.below;
      distinct = rw same m.distinct;
    }

-- ---- admit with outcome 0

tried_crowds : (s : Sheet) (j h : ℕ) (o : Option Instance) → h ≡ 0 →
    crowds s (on_instance (instances accept_under_exclusive_ownership) (event_by s h 0) [] j o) ≡ crowds s o
tried_crowds s j h none e = split (is_keyed s j) (λ k. rw (e, k)) (λ k. rw k)
tried_crowds s j h (some x) e = split (is_keyed s j) (λ k. rw (k, tried_writers s x.state)) (λ k. rw k)

observed_crowds : (s : Sheet) (j h : ℕ) (o : Option Instance) → crowds s o ≡ false →
    crowds s (on_instance (instances observe_admitted) (event_by s h 0) [] j o) ≡ false
observed_crowds s j h none n =
    split (is_keyed s j)
    (λ k. split (eqb h 0) (λ z. rw (k, z)) (λ z. rw (k, z) started-crowds))
    (λ k. rw k)
  where
    started-crowds : Room s.guid (admitted_observed s (started s.key h).state)
    started-crowds = unfold started in rw (observed_writers s started_state) (started-room s.guid)
observed_crowds s j h (some x) n = split (is_keyed s j) (λ k. rw (k, observed_writers s x.state) n) (λ k. rw k n)

tried_few : (s : Sheet) (st : State) → length (tried s st).instances ≤ length st.instances
unfolding instance_turn instances_after begun
tried_few s st = length-sift (acts accept_under_exclusive_ownership s) st.instances

turned_instances : (c : InstanceCall) (s : Sheet) (st : State) →
    (instance_turn c s st).state.instances ≡ instances_after c s st
unfolding instance_turn
turned_instances c s st = refl

-- what an accepted admit with outcome 0 has on its sheet and finds in the state
pub record Admission (places : ℕ) (s : Sheet) (st : State) : Type 0 where
  pub fits : SheetFits s
  pub time1 : nanoseconds_ok s.time_1 ≡ true
  pub time2 : nanoseconds_ok s.time_2 ≡ true
  pub holder : s.holder.len ≤ 144
  pub place : lookup instance_key (num s.key) st.instances ≡ none → length st.instances < places
  pub handle : lookup instance_key (num s.key) st.instances ≡ none → st.next_handle < 2 ^ 63
  pub crowd : crowds s (lookup instance_key (num s.key) st.instances) ≡ false

one_time : (t : MaybeTime) → nanoseconds_ok t ≡ true → all nanoseconds_ok (t ∷ []) ≡ true
unfolding all
one_time t e = rw e

two-times : (t u : MaybeTime) → nanoseconds_ok t ≡ true → nanoseconds_ok u ≡ true → all nanoseconds_ok (t ∷ u ∷ []) ≡ true
unfolding all
two-times t u e d = rw (e, d)

-- code 16
trying_sound : (places : ℕ) (s : Sheet) (st : State) → SheetFits s → nanoseconds_ok s.time_2 ≡ true →
    Within instance_key 0 bound st.instances → SoundInstances places st → SoundInstances places (tried s st)
trying_sound places s st f t w m =
    instance-sound places accept_under_exclusive_ownership s st
    record {
      fits = f;
      place = λ e. never (sym e);
      handle = λ e. never (sym e);
      crowd = λ e. never (sym e);
      times = one_time s.time_2 t;
      holder = λ e. never (sym e);
    } w m

module _ (places : ℕ) (s : Sheet) (st : State) (ad : Admission places s st) (w : Within instance_key 0 bound st.instances)
    (m : SoundInstances places st) where
  tried_rises : Within instance_key 0 bound (tried s st).instances
  tried_rises =
      rw (turned_instances accept_under_exclusive_ownership s st)
      (turned_rises accept_under_exclusive_ownership s st ad.fits.key w m.low)

  tried_sound : SoundInstances places (tried s st)
  tried_sound = trying_sound places s st ad.fits ad.time2 w m

  tried_at : lookup instance_key (num s.key) (tried s st).instances
      ≡ on_instance (instances accept_under_exclusive_ownership)
      (event_by s (answered accept_under_exclusive_ownership s st ad.fits.key w m.low) 0) [] (num s.key)
      (lookup instance_key (num s.key) st.instances)
  tried_at =
      ap (lookup instance_key (num s.key)) (turned_instances accept_under_exclusive_ownership s st)
      ∙ turned_at accept_under_exclusive_ownership s st ad.fits.key w m.low (num s.key) [] 0

  answered_zero : answered accept_under_exclusive_ownership s st ad.fits.key w m.low ≡ 0
  answered_zero = unfold answered in tried_silent s st

  still_absent : begins observe_admitted s (tried s st) ≡ true → lookup instance_key (num s.key) st.instances ≡ none
  still_absent e =
      tried_none s (num s.key) _ (lookup instance_key (num s.key) st.instances) answered_zero
      (sym tried_at ∙ (begins-absent observe_admitted s (tried s st) e).1)

  observed_sound : SoundInstances places (observed s st)
  observed_sound =
      instance-sound places observe_admitted s (tried s st)
      record {
        fits = ad.fits;
        place = λ e. omega (arith, tried_few s st, ad.place (still_absent e));
        handle = λ e. rw (tried_next s st) (ad.handle (still_absent e));
        crowd = λ e. never (sym e);
        times = one_time s.time_1 ad.time1;
        holder = λ e. ad.holder;
      } tried_rises tried_sound

  observed_rises : Within instance_key 0 bound (observed s st).instances
  observed_rises =
      rw (turned_instances observe_admitted s (tried s st))
      (turned_rises observe_admitted s (tried s st) ad.fits.key tried_rises tried_sound.low)

  observed_room : crowds s (lookup instance_key (num s.key) (observed s st).instances) ≡ false
  observed_room =
      ap (λ (xs : List Instance). crowds s (lookup instance_key (num s.key) xs))
      (turned_instances observe_admitted s (tried s st))
      ∙ ap (crowds s)
      (turned_at observe_admitted s (tried s st) ad.fits.key tried_rises tried_sound.low (num s.key) [] 0)
      ∙ observed_crowds s (num s.key) _ (lookup instance_key (num s.key) (tried s st).instances)
      (ap (crowds s) tried_at
      ∙ tried_crowds s (num s.key) _ (lookup instance_key (num s.key) st.instances) answered_zero
      ∙ ad.crowd)

  noted_sound : SoundInstances places (noted s st)
  noted_sound =
      instance-sound places note_admitted s (observed s st)
      record {
        fits = ad.fits;
        place = λ e. never (sym e);
        handle = λ e. never (sym e);
        crowd = λ e. observed_room;
        times = two-times s.time_1 s.time_2 ad.time1 ad.time2;
        holder = λ e. never (sym e);
      } observed_rises observed_sound

  noted_rises : Within instance_key 0 bound (noted s st).instances
  noted_rises =
      rw (turned_instances note_admitted s (observed s st))
      (turned_rises note_admitted s (observed s st) ad.fits.key observed_rises observed_sound.low)

  pub admit-sound : SoundInstances places (admitted s st).state
  admit-sound =
      rw (admitted-is s st) (trying_sound places s (noted s st) ad.fits ad.time2 noted_rises noted_sound)
