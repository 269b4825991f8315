-- Kind and writer set of one instance under each call.
--     Quiet, quiet-*, alive-*      the calls that leave both, of any instance or of an alive one
--     admitted-alive, admitted-set      an admitted sample revives, and puts its writer in
--     left-kind, left-set      a lost writer
--     Shown, left_shown        alive exactly while the set is not empty
--     lost_shown, lost-has     several lost writers
use mathlib.Core.Bool.{Bool, true, false, not, ◌&&◌, ◌||◌, cond}
use mathlib.Core.List.{List, [], ◌∷◌}
use mathlib.Core.Option.{some}
use mathlib.Core.Path.{◌≡◌, refl, sym, ap, ◌∙◌}
use Prim.Native.Nat.{ℕ}
use Rattle.model.specs.declared.Guid.{Guid}
use Rattle.model.specs.declared.InstanceState.{InstanceState}
use Rattle.model.specs.declared.InstanceStateKind.{InstanceStateKind}
use Rattle.model.specs.declared.InstanceStateKind.TheVariants.{Alive, NotAliveDisposed, NotAliveNoWriters}
use Rattle.model.specs.declared.Life.{Life}
use Rattle.model.specs.declared.MaybeTime.{MaybeTime}
use Rattle.model.specs.declared.Sheet.{Sheet}
use Rattle.model.specs.declared.InstanceCall.{InstanceCall}
use Rattle.model.specs.declared.InstanceCall.TheVariants.{Register as register, EnsureRegisteredLimited as ensure_registered_limited, ObserveLifecycle as observe_lifecycle, ObserveAdmitted as observe_admitted, RecordDelivery as record_delivery, NoteTaken as note_taken, MarkViewSeen as mark_view_seen, MarkViewNew as mark_view_new, DrainSamples as drain_samples, AcceptUnderExclusiveOwnership as accept_under_exclusive_ownership, UpdateOwnerStrength as update_owner_strength, ClearOwnerForWriter as clear_owner_for_writer, ClearOwnerForWriterPrefix as clear_owner_for_writer_prefix, ReleaseOwnerOf as release_owner_of}
use Rattle.model.specs.Guids.{num, same}
use Rattle.model.specs.Instances.{effect, is_alive, revived_from, revived, revived_new, registered, ensured, lifecycle_observed, admitted_observed, admitted_noted, writer_noted, delivery_recorded, viewed, drained, owns, owns_prefix, takes_over, ownership_tried, strength_updated, owner_cleared, prefix_cleared, left_by, writer_dropped, writers_in}
use Rattle.model.specs.Joined.{left_without, left_without_all}
use Rattle.model.specs.Sets.{members, has, insert, remove, is_empty}
use Rattle.model.specs.Times.{always}
use Rattle.model.proofs.Keeps.{tried_writers, observed_writers}
use Rattle.model.proofs.SetLaws.{members_of}
use Rattle.model.proofs.Tests.{both, split}
use Rattle.accounts.specs.Ranges.{bound}
use Rattle.accounts.proofs.Basics.{never, eqb_sym}
use Rattle.accounts.proofs.Sound.{remove-within, SoundState}
use Rattle.accounts.proofs.TurnLaws.{Within}
use Rattle.abandonment.proofs.SetLaws.{has-remove, remove_absent, none_in, and_true}

-- ---- calls that leave kind and set

pub record Quiet (c : InstanceCall) (s : Sheet) (x : InstanceState) : Type 0 where
  pub left : InstanceState
  pub is : effect c s x ≡ some left
  pub kind : left.life.kind ≡ x.life.kind
  pub writers : left.writers ≡ x.writers

pub quiet_delivery : (s : Sheet) (x : InstanceState) → Quiet record_delivery s x
unfolding delivery_recorded
quiet_delivery s x = record { left = delivery_recorded (always s.time_1) x; is = refl; kind = refl; writers = refl }

pub quiet_taken : (s : Sheet) (x : InstanceState) → Quiet note_taken s x
unfolding viewed drained
quiet_taken s x = record { left = viewed false (drained s.second x); is = refl; kind = refl; writers = refl }

pub quiet-seen : (s : Sheet) (x : InstanceState) → Quiet mark_view_seen s x
unfolding viewed
quiet-seen s x = record { left = viewed false x; is = refl; kind = refl; writers = refl }

pub quiet_new : (s : Sheet) (x : InstanceState) → Quiet mark_view_new s x
unfolding viewed
quiet_new s x = record { left = viewed true x; is = refl; kind = refl; writers = refl }

pub quiet-drained : (s : Sheet) (x : InstanceState) → Quiet drain_samples s x
unfolding drained
quiet-drained s x = record { left = drained s.second x; is = refl; kind = refl; writers = refl }

pub tried_kind : (s : Sheet) (x : InstanceState) → (ownership_tried s x).life.kind ≡ x.life.kind
unfolding ownership_tried
tried_kind s x = split (takes_over s x) (λ e. rw e) (λ e. rw e)

pub quiet_tried : (s : Sheet) (x : InstanceState) → Quiet accept_under_exclusive_ownership s x
quiet_tried s x = record { left = ownership_tried s x; is = refl; kind = tried_kind s x; writers = tried_writers s x }

-- a change of the owner where a test holds
strength_keeps : (g : Guid) (n : ℕ) (x : InstanceState) →
    ((strength_updated g n x).life.kind ≡ x.life.kind) × ((strength_updated g n x).writers ≡ x.writers)
unfolding strength_updated
strength_keeps g n x = split (owns g x.owner) (λ e. rw e (refl, refl)) (λ e. rw e (refl, refl))

cleared_keeps : (g : Guid) (x : InstanceState) → ((owner_cleared g x).life.kind ≡ x.life.kind) × ((owner_cleared g x).writers ≡ x.writers)
unfolding owner_cleared
cleared_keeps g x = split (owns g x.owner) (λ e. rw e (refl, refl)) (λ e. rw e (refl, refl))

prefix_keeps : (g : Guid) (x : InstanceState) → ((prefix_cleared g x).life.kind ≡ x.life.kind) × ((prefix_cleared g x).writers ≡ x.writers)
unfolding prefix_cleared
prefix_keeps g x = split (owns_prefix g x.owner) (λ e. rw e (refl, refl)) (λ e. rw e (refl, refl))

quietly : {c : InstanceCall} {s : Sheet} {x : InstanceState} (y : InstanceState) → effect c s x ≡ some y →
    (y.life.kind ≡ x.life.kind) × (y.writers ≡ x.writers) → Quiet c s x
quietly y e k = record { left = y; is = e; kind = k.0; writers = k.1 }

pub quiet_strength : (s : Sheet) (x : InstanceState) → Quiet update_owner_strength s x
quiet_strength s x = quietly (strength_updated s.guid s.second x) refl (strength_keeps s.guid s.second x)

pub quiet_cleared : (s : Sheet) (x : InstanceState) → Quiet clear_owner_for_writer s x
quiet_cleared s x = quietly (owner_cleared s.guid x) refl (cleared_keeps s.guid x)

pub quiet-prefix : (s : Sheet) (x : InstanceState) → Quiet clear_owner_for_writer_prefix s x
quiet-prefix s x = quietly (prefix_cleared s.guid x) refl (prefix_keeps s.guid x)

pub quiet-released : (s : Sheet) (x : InstanceState) → Quiet release_owner_of s x
quiet-released s x = quietly (owner_cleared s.guid x) refl (cleared_keeps s.guid x)

-- ---- calls that revive

-- whatever it was, it is alive
pub revived-alive : (l : Life) → (revived l).kind ≡ Alive
unfolding revived
revived-alive l = go l.kind refl
  where
    go : (k : InstanceStateKind) → l.kind ≡ k → (revived_from k l).kind ≡ Alive
    go Alive e = e
    go NotAliveDisposed e = refl
    go NotAliveNoWriters e = refl

new_alive : (l : Life) → (revived_new l).kind ≡ Alive
unfolding revived_new
new_alive l = revived-alive l

pub alive-registered : (s : Sheet) (x : InstanceState) → x.life.kind ≡ Alive → Quiet register s x
unfolding registered
alive-registered s x e =
    record { left = registered s x; is = refl; kind = revived-alive x.life ∙ sym e; writers = refl }

pub alive-ensured : (s : Sheet) (x : InstanceState) → x.life.kind ≡ Alive → Quiet ensure_registered_limited s x
unfolding ensured
alive-ensured s x e = record { left = ensured x; is = refl; kind = new_alive x.life ∙ sym e; writers = refl }

pub alive_lifecycle : (s : Sheet) (x : InstanceState) → x.life.kind ≡ Alive → Quiet observe_lifecycle s x
unfolding lifecycle_observed
alive_lifecycle s x e = record { left = lifecycle_observed s x; is = refl; kind = refl; writers = refl }

pub alive_observed : (s : Sheet) (x : InstanceState) → x.life.kind ≡ Alive → Quiet observe_admitted s x
unfolding admitted_observed
alive_observed s x e =
    record { left = admitted_observed s x; is = refl; kind = new_alive x.life ∙ sym e; writers = refl }

-- ---- an admitted sample

observed_kind : (s : Sheet) (x : InstanceState) → (admitted_observed s x).life.kind ≡ Alive
unfolding admitted_observed
observed_kind s x = new_alive x.life

pub noted_kind : (g : Guid) (x : InstanceState) → (writer_noted g x).life.kind ≡ x.life.kind
unfolding writer_noted
noted_kind g x = refl

pub noted_set : (g : Guid) (x : InstanceState) → writers_in (writer_noted g x) ≡ insert g (writers_in x)
unfolding writer_noted
noted_set g x = members_of (insert g (writers_in x))

pub admittedly_kind : (s : Sheet) (x : InstanceState) → (admitted_noted s x).life.kind ≡ x.life.kind
unfolding admitted_noted
admittedly_kind s x = noted_kind s.guid x

admittedly_set : (s : Sheet) (x : InstanceState) → writers_in (admitted_noted s x) ≡ insert s.guid (writers_in x)
unfolding admitted_noted
admittedly_set s x = noted_set s.guid x

pub admitted-alive : (s : Sheet) (x : InstanceState) → (admitted_noted s (admitted_observed s x)).life.kind ≡ Alive
admitted-alive s x = admittedly_kind s (admitted_observed s x) ∙ observed_kind s x

pub admitted-set : (s : Sheet) (x : InstanceState) →
    writers_in (admitted_noted s (admitted_observed s x)) ≡ insert s.guid (writers_in x)
admitted-set s x =
    admittedly_set s (admitted_observed s x) ∙ ap (λ w. insert s.guid (members w)) (observed_writers s x)

-- ---- a lost writer

pub dropped_kind : (g : Guid) (at : MaybeTime) (x : InstanceState) →
    (writer_dropped g at x).life.kind ≡ cond (left_by g x) NotAliveNoWriters x.life.kind
unfolding writer_dropped
dropped_kind g at x =
    split (left_by g x) (λ e. rw e) (λ e. rw e (split (has g (writers_in x)) (λ d. rw d) (λ d. rw d)))

left-has : (g : Guid) (x : InstanceState) → left_by g x ≡ true → has g (writers_in x) ≡ true
unfolding left_by
left-has g x e = (both (has g (writers_in x)) _ e).0

dropped_set : (g : Guid) (at : MaybeTime) (x : InstanceState) →
    writers_in (writer_dropped g at x) ≡ remove g (writers_in x)
unfolding writer_dropped
dropped_set g at x =
    split (left_by g x)
    (λ e. rw e (members_of (remove g (writers_in x))))
    (λ e.
    rw e
    (split (has g (writers_in x))
    (λ d. rw d (members_of (remove g (writers_in x))))
    (λ d. rw d (sym (remove_absent g (writers_in x) d)))))

pub left-kind : (g : Guid) (at : MaybeTime) (x : InstanceState) →
    (left_without g at x).life.kind ≡ cond (left_by g x) NotAliveNoWriters x.life.kind
left-kind g at x = (cleared_keeps g (writer_dropped g at x)).0 ∙ dropped_kind g at x

pub left-set : (g : Guid) (at : MaybeTime) (x : InstanceState) → writers_in (left_without g at x) ≡ remove g (writers_in x)
left-set g at x = ap members (cleared_keeps g (writer_dropped g at x)).1 ∙ dropped_set g at x

-- ---- alive exactly while the set is not empty

abbrev pub shown : Bool → InstanceStateKind
shown true = NotAliveNoWriters
shown false = Alive

abbrev pub Shown : InstanceState → Type 0
Shown x = x.life.kind ≡ shown (is_empty (writers_in x))

shown_tests : (h r m : Bool) → (h ≡ true → m ≡ false) → (h ≡ false → r ≡ m) →
    cond (h && (r && is_alive (shown m))) NotAliveNoWriters (shown m) ≡ shown r
shown_tests true true true p q = never (sym (sym (p refl)))
shown_tests true true false p q = refl
shown_tests true false true p q = never (sym (sym (p refl)))
shown_tests true false false p q = refl
shown_tests false r m p q = sym (ap shown (q refl))

pub not_empty : (g : Guid) (xs : List Guid) → has g xs ≡ true → is_empty xs ≡ false
not_empty g xs e = split (is_empty xs) (λ d. never (sym e ∙ none_in g xs d)) (λ d. d)

pub left_shown : (g : Guid) (at : MaybeTime) (x : InstanceState) → Shown x → Shown (left_without g at x)
left_shown g at x e =
    left-kind g at x ∙ mid ∙ ap (λ (l : List Guid). shown (is_empty l)) (sym (left-set g at x))
  where
    mid : cond (left_by g x) NotAliveNoWriters x.life.kind ≡ shown (is_empty (remove g (writers_in x)))
    mid =
        unfold left_by in
        rw e
        (shown_tests (has g (writers_in x)) (is_empty (remove g (writers_in x))) (is_empty (writers_in x))
        (not_empty g (writers_in x)) (λ d. ap is_empty (remove_absent g (writers_in x) d)))

pub lost_shown : (gs : List Guid) (at : MaybeTime) (x : InstanceState) → Shown x → Shown (left_without_all gs at x)
unfolding left_without_all
lost_shown [] at x e = e
lost_shown (g ∷ gs) at x e = lost_shown gs at (left_without g at x) (left_shown g at x e)

both_out : (a b c : Bool) → ((a && not b) && not c) ≡ (a && not (b || c))
both_out true true c = refl
both_out true false c = refl
both_out false b c = refl

pub lost-has : (h : Guid) (gs : List Guid) (at : MaybeTime) (x : InstanceState) → Within num 0 bound (writers_in x) →
    has h (writers_in (left_without_all gs at x)) ≡ (has h (writers_in x) && not (has h gs))
unfolding left_without_all has
lost-has h [] at x w = and_true (has h (writers_in x))
lost-has h (g ∷ gs) at x w =
    lost-has h gs at (left_without g at x) (rw (left-set g at x) (remove-within 0 bound g (writers_in x) w))
    ∙ rw (left-set g at x, has-remove 0 bound h g (writers_in x) w, eqb_sym (num h) (num g))
    (both_out (has h (writers_in x)) (same g h) (has h gs))

-- ---- a sound set rises

pub sound-set : (x : InstanceState) → SoundState x → Within num 0 bound (writers_in x)
sound-set x m = rw (ap members m.writers.is ∙ members_of m.writers.list) m.writers.rises
