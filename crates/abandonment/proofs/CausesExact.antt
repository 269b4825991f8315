-- The calls that turn an alive instance to no-writers are the causes, for every list.
use mathlib.Core.Bool.{Bool, true, false, not, ◌&&◌, cond}
use mathlib.Core.List.{List, [], ◌∷◌}
use mathlib.Core.Option.{Option, none, some}
use mathlib.Core.Path.{◌≡◌, refl, sym, ap, ◌∙◌}
use Prim.Native.Nat.{ℕ, ◌-◌}
use lib.Dec.{eqb}
use Rattle.octets.specs.Lay.{All}
use Rattle.model.specs.declared.Guid.{Guid}
use Rattle.model.specs.declared.Instance.{Instance}
use Rattle.model.specs.declared.InstanceState.{InstanceState}
use Rattle.model.specs.declared.InstanceStateKind.{InstanceStateKind}
use Rattle.model.specs.declared.InstanceStateKind.TheVariants.{Alive, NotAliveNoWriters}
use Rattle.model.specs.declared.MaybeTime.{MaybeTime}
use Rattle.model.specs.Call.{call_in}
use Rattle.model.specs.declared.InstanceCall.{InstanceCall}
use Rattle.model.specs.declared.InstanceCall.TheVariants.{Register as register, EnsureRegisteredLimited as ensure_registered_limited, Dispose as dispose, Unregister as unregister, UnregisterWriter as unregister_writer, NoteWriter as note_writer, DropWriter as drop_writer, ObserveLifecycle as observe_lifecycle, ObserveAdmitted as observe_admitted, NoteAdmitted as note_admitted, RecordDelivery as record_delivery, NoteTaken as note_taken, MarkViewSeen as mark_view_seen, MarkViewNew as mark_view_new, DrainSamples as drain_samples, AcceptUnderExclusiveOwnership as accept_under_exclusive_ownership, UpdateOwnerStrength as update_owner_strength, ClearOwnerForWriter as clear_owner_for_writer, ClearOwnerForWriterPrefix as clear_owner_for_writer_prefix, ReleaseOwnerOf as release_owner_of, Autopurge as autopurge}
use Rattle.model.specs.declared.JoinedCall.TheVariants.{Admit as admit, Lapse as lapse, Part as part, Depart as depart}
use Rattle.model.specs.Calls.{Call, instances, tracker, joined, calls, amongst}
use Rattle.model.specs.Guids.{num}
use Rattle.model.specs.Instances.{effect, disposed, writer_noted, left_by, admitted_noted, ownership_tried, purged, writers_in}
use Rattle.model.specs.Joined.{left_without_all}
use Rattle.model.specs.Sets.{has, remove, is_empty}
use Rattle.model.specs.State.{Lent}
use Rattle.model.specs.Tables.{all, pick}
use Rattle.model.specs.Times.{if_present}
use Rattle.model.proofs.Tests.{split}
use Rattle.accounts.specs.Accounts.{Accounts, accepted, gone_by, advance, accounts_of}
use Rattle.accounts.specs.InstanceAccounts.{Event, way_of, reached_by, is_keyed, on_present}
use Rattle.accounts.specs.Ranges.{bound}
use Rattle.accounts.specs.WriterAccounts.{Writers, expired_at, expired_in}
use Rattle.accounts.proofs.Basics.{never, missing}
use Rattle.accounts.proofs.Demand3.{After, after-fresh}
use Rattle.accounts.proofs.Sound.{SoundState}
use Rattle.accounts.proofs.TurnLaws.{Within}
use Rattle.abandonment.specs.Standing.{expires, named}
use Rattle.abandonment.specs.Causes.{is_no_writers, is_abandoned, is_at, leaves_all, causes}
use Rattle.abandonment.specs.Claims.{ran, left, after, last_event, ExactCauses}
use Rattle.abandonment.proofs.SetLaws.{has-expired, has_within}
use Rattle.abandonment.proofs.KindLaws.{Quiet, quiet_delivery, quiet_taken, quiet-seen, quiet_new, quiet-drained, quiet_tried, quiet_strength, quiet_cleared, quiet-prefix, quiet-released, alive-registered, alive-ensured, alive_lifecycle, alive_observed, admittedly_kind, noted_kind, admitted-alive, dropped_kind, sound-set}
use Rattle.abandonment.proofs.CauseLaws.{is, is_in, empty_removed, leaves-one, told-kind, all_same, lost_abandoned, counted-out, unregistered-kind, unregistered-writer-kind}
use Rattle.abandonment.proofs.OnInstance.{one-gone as named-gone}
use Rattle.abandonment.proofs.Steps.{◌⨾◌, by_code, apart, on_writers, test, NoneOf, none_of, none_known}
use Rattle.abandonment.proofs.Abandonment.{pen-after, sound-at, after_one}

-- ---- the causes of a code

abbrev named_only : Event → Instance → Bool
named_only e x = leaves_all (named e) (writers_in x.state)

-- the codes that can leave an instance without writers
abbrev leaving : List ℕ
leaving = 4 ∷ 5 ∷ 7 ∷ 50 ∷ 51 ∷ 49 ∷ []

causes_other : (e : Event) (before after : Writers) (x : Instance) → NoneOf e leaving → causes e before after x ≡ false
unfolding causes
causes_other e before after x q =
    split (eqb e.number 0) (λ z. rw (z, q.0, q.1.0, q.1.1.0, q.1.1.1.0, q.1.1.1.1.0, q.1.1.1.1.1.0)) (λ z. rw z)

-- ---- each code

module _ (e : Event) (before after : Writers) (k : ℕ) (x : Instance) (alive : x.state.life.kind ≡ Alive)
    (sound : SoundState x.state) where
  abbrev set : List Guid
  set = writers_in x.state

  abbrev at : MaybeTime
  at = if_present e.sheet.time_1

  rises : Within num 0 bound set
  rises = sound-set x.state sound

  abbrev Step : ℕ → Call → Type 0
  Step n c =
      e.sheet.code ≡ n → eqb e.number 0 ≡ true →
      is_abandoned (on_present c e (gone_by c e.sheet (expired_in before after)) k x) ≡ causes e before after x

  -- a call that leaves what it reaches in a kind other than no-writers
  steady : (n : ℕ) (c : InstanceCall) (y : InstanceState) → apart leaving n ≡ true → effect c e.sheet x.state ≡ some y →
      is_no_writers y.life.kind ≡ false → Step n (instances c)
  steady n c y o is f d z =
      split (reached_by (way_of c) e.sheet k x)
      (λ r. rw (r, is) f)
      (λ r. rw r (ap is_no_writers alive))
      ∙ sym (causes_other e before after x (none_of e n leaving d o))

  quiet : (n : ℕ) (c : InstanceCall) → apart leaving n ≡ true → Quiet c e.sheet x.state → Step n (instances c)
  quiet n c o q = steady n c q.left o q.is (ap is_no_writers (q.kind ∙ alive))

  disposes : Step 3 (instances dispose)
  disposes = steady 3 dispose (disposed at x.state) refl refl (unfold disposed in refl)

  notes : Step 6 (instances note_writer)
  notes =
      steady 6 note_writer (writer_noted e.sheet.guid x.state) refl refl
      (ap is_no_writers (noted_kind e.sheet.guid x.state ∙ alive))

  notes-admitted : Step 10 (instances note_admitted)
  notes-admitted =
      steady 10 note_admitted (admitted_noted e.sheet x.state) refl refl
      (ap is_no_writers (admittedly_kind e.sheet x.state ∙ alive))

  unregisters : Step 4 (instances unregister)
  unregisters d z =
      unfold causes in
      rw (z, test e 4 4 d)
      (split (is_at e x)
      (λ r. rw (r, unregistered-kind at x.state alive)
      (told-kind (eqb (x.state.life.writer_count - 1) 0) ∙ counted-out x.state.life.writer_count))
      (λ r. rw r (ap is_no_writers alive)))

  unregisters_writer : Step 5 (instances unregister_writer)
  unregisters_writer d z =
      unfold causes in
      rw (z, test e 5 4 d, test e 5 5 d)
      (split (is_at e x)
      (λ r. rw (r, unregistered-writer-kind e.sheet.guid at x.state alive)
      (told-kind (is_empty (remove e.sheet.guid set)) ∙ empty_removed 0 bound e.sheet.guid set rises))
      (λ r. rw r (ap is_no_writers alive)))

  drops : Step 7 (instances drop_writer)
  drops d z =
      unfold causes in
      rw (z, test e 7 4 d, test e 7 5 d, test e 7 7 d)
      (ap is_no_writers
      (dropped_kind e.sheet.guid at x.state
      ∙ ap (λ (j : InstanceStateKind). cond (left_by e.sheet.guid x.state) NotAliveNoWriters j) alive)
      ∙ told-kind (left_by e.sheet.guid x.state)
      ∙ leaves-one e.sheet.guid x.state rises alive)

  purges : Step 21 (instances autopurge)
  purges d z = rw kept (ap is_no_writers alive ∙ sym (causes_other e before after x (none_of e 21 leaving d refl)))
    where
      kept : purged e.sheet x.state ≡ false
      kept = unfold purged in rw alive

  tracks : (n : ℕ) (c : Call) → on_writers leaving n c ≡ true → Step n c
  tracks n (instances c) o = never (sym o)
  tracks n (tracker c) o = λ d z. ap is_no_writers alive ∙ sym (causes_other e before after x (none_of e n leaving d o))
  tracks n (joined c) o = never (sym o)

  admits : Step 48 (joined admit)
  admits d z =
      split (is_keyed e.sheet k && eqb e.outcome 0)
      (λ r. rw r (ap is_no_writers (admitted-alive e.sheet (ownership_tried e.sheet x.state))))
      (λ r. rw r (ap is_no_writers alive))
      ∙ sym (causes_other e before after x (none_of e 48 leaving d refl))

  lapses : Step 49 (joined lapse)
  lapses d z =
      unfold causes in
      rw (z, test e 49 4 d, test e 49 5 d, test e 49 7 d, test e 49 50 d, test e 49 51 d, test e 49 49 d)
      (lost_abandoned (expired_in before after) at x.state rises alive
      ∙ ap (λ (b : Bool). not (is_empty set) && b) (all_same (is_in (expired_in before after)) (expires before after) set expired))
    where
      expired : (m : Guid) → has m set ≡ true → has m (expired_in before after) ≡ expires before after m
      expired m h = unfold expired_in in has-expired (expired_at before after) m (has_within 0 bound m set rises h)

  one-gone : is_no_writers (left_without_all (e.sheet.guid ∷ []) at x.state).life.kind ≡ named_only e x
  one-gone =
      lost_abandoned (e.sheet.guid ∷ []) at x.state rises alive
      ∙ ap (λ (b : Bool). not (is_empty set) && b) (all_same (is_in (e.sheet.guid ∷ [])) (named e) set (λ m h. named-gone e m))

  parts : Step 50 (joined part)
  parts d z = unfold causes in rw (z, test e 50 4 d, test e 50 5 d, test e 50 7 d, test e 50 50 d) one-gone

  departs : Step 51 (joined depart)
  departs d z = unfold causes in rw (z, test e 51 4 d, test e 51 5 d, test e 51 7 d, test e 51 50 d, test e 51 51 d) one-gone

  -- but for those on writers, in the order of the codes
  steps : All (λ n. Step n.code n.call) (pick (λ n. not (on_writers leaving n.code n.call)) calls)
  unfolding calls pick
  steps =
      quiet 1 register refl (alive-registered e.sheet x.state alive)
      ⨾ quiet 2 ensure_registered_limited refl (alive-ensured e.sheet x.state alive)
      ⨾ disposes
      ⨾ unregisters
      ⨾ unregisters_writer
      ⨾ notes
      ⨾ drops
      ⨾ quiet 8 observe_lifecycle refl (alive_lifecycle e.sheet x.state alive)
      ⨾ quiet 9 observe_admitted refl (alive_observed e.sheet x.state alive)
      ⨾ notes-admitted
      ⨾ quiet 11 record_delivery refl (quiet_delivery e.sheet x.state)
      ⨾ quiet 12 note_taken refl (quiet_taken e.sheet x.state)
      ⨾ quiet 13 mark_view_seen refl (quiet-seen e.sheet x.state)
      ⨾ quiet 14 mark_view_new refl (quiet_new e.sheet x.state)
      ⨾ quiet 15 drain_samples refl (quiet-drained e.sheet x.state)
      ⨾ quiet 16 accept_under_exclusive_ownership refl (quiet_tried e.sheet x.state)
      ⨾ quiet 17 update_owner_strength refl (quiet_strength e.sheet x.state)
      ⨾ quiet 18 clear_owner_for_writer refl (quiet_cleared e.sheet x.state)
      ⨾ quiet 19 clear_owner_for_writer_prefix refl (quiet-prefix e.sheet x.state)
      ⨾ quiet 20 release_owner_of refl (quiet-released e.sheet x.state)
      ⨾ purges
      ⨾ admits
      ⨾ lapses
      ⨾ parts
      ⨾ departs
      ⨾ tt

  pub step : (c : Call) → accepted e ≡ some c → eqb e.number 0 ≡ true →
      is_abandoned (on_present c e (gone_by c e.sheet (expired_in before after)) k x) ≡ causes e before after x
  step c a z = by_code Step (on_writers leaving) tracks steps e c a refl z

-- ---- a call that is skipped

unheard : (e : Event) (before after : Writers) (x : Instance) → accepted e ≡ none → causes e before after x ≡ false
unheard e before after x q =
    split (eqb e.number 0)
    (λ z. causes_other e before after x (none_known e leaving q z (unfold all amongst calls in refl)))
    (λ z. unfold causes in rw z)

accepted-zero : (e : Event) (c : Call) → accepted e ≡ some c → eqb e.number 0 ≡ true
accepted-zero e c q = split (eqb e.number 0) (λ z. z) (λ z. missing (rw z at q))

heard : (e : Event) (acc : Accounts) (k : ℕ) (x : Instance) → acc.instances.at k ≡ some x →
    x.state.life.kind ≡ Alive → SoundState x.state →
    is_abandoned ((advance e acc).instances.at k) ≡ causes e acc.writers.at (advance e acc).writers.at x
heard e acc k x q alive sound = go (accepted e) refl
  where
    reached : (c : Call) → accepted e ≡ some c →
        is_abandoned ((advance e acc).instances.at k)
        ≡ is_abandoned (on_present c e (gone_by c e.sheet (expired_in acc.writers.at (advance e acc).writers.at)) k x)
    reached c a = unfold advance in rw (a, q)

    go : (o : Option Call) → accepted e ≡ o →
        is_abandoned ((advance e acc).instances.at k) ≡ causes e acc.writers.at (advance e acc).writers.at x
    go none a =
        unfold advance in
        rw a (ap is_abandoned q ∙ ap is_no_writers alive ∙ sym (unheard e acc.writers.at acc.writers.at x a))
    go (some c) a =
        let s = step e acc.writers.at (advance e acc).writers.at k x alive sound c a (accepted-zero e c a) in
        reached c a ∙ s

pub exact_causes : (places : ℕ) → ExactCauses places (call_in places)
exact_causes places is out i b bytes k x there alive =
    ap is_abandoned (pen-after places _ _ one k) ∙ heard e acc (num k) x at alive (sound-at places i l acc bytes before (num k) x at)
  where
    l : Lent
    l = left places (call_in places) is out

    acc : Accounts
    acc = accounts_of (ran places (call_in places) is out)

    e : Event
    e = last_event places (call_in places) i is out

    before : After places l acc
    before = after-fresh places is out b

    one : After places (after places (call_in places) i is out).lent (advance e acc)
    one = after_one places i l acc bytes before

    at : acc.instances.at (num k) ≡ some x
    at = sym (pen-after places l acc before k) ∙ there
