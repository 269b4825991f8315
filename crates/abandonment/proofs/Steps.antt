-- A call of a console's list keeps every instance in step with who stands for it.
--     by_code, on_writers      a claim on each code and its call; one law for all calls on writers
--     none_of, none_known     a code of none of some, by its number or where it is unknown
--     step           a call of the list
use mathlib.Core.Bool.{Bool, true, false, not, ◌&&◌, ◌||◌}
use mathlib.Core.List.{List, [], ◌∷◌}
use mathlib.Core.Option.{none, some}
use mathlib.Core.Path.{◌≡◌, refl, sym, ap, ◌∙◌, subst}
use Prim.Native.Nat.{ℕ}
use borrow.Author.Tests.{eqb-true, not-true}
use lib.Dec.{eqb}
use Rattle.octets.specs.Lay.{All}
use Rattle.model.specs.declared.Instance.{Instance}
use Rattle.model.specs.declared.InstanceState.{InstanceState}
use Rattle.model.specs.declared.InstanceCall.{InstanceCall}
use Rattle.model.specs.declared.InstanceCall.TheVariants.{Register as register, EnsureRegisteredLimited as ensure_registered_limited, Dispose as dispose, Unregister as unregister, UnregisterWriter as unregister_writer, NoteWriter as note_writer, DropWriter as drop_writer, ObserveLifecycle as observe_lifecycle, ObserveAdmitted as observe_admitted, NoteAdmitted as note_admitted, RecordDelivery as record_delivery, NoteTaken as note_taken, MarkViewSeen as mark_view_seen, MarkViewNew as mark_view_new, DrainSamples as drain_samples, AcceptUnderExclusiveOwnership as accept_under_exclusive_ownership, UpdateOwnerStrength as update_owner_strength, ClearOwnerForWriter as clear_owner_for_writer, ClearOwnerForWriterPrefix as clear_owner_for_writer_prefix, ReleaseOwnerOf as release_owner_of, Autopurge as autopurge}
use Rattle.model.specs.declared.JoinedCall.TheVariants.{Admit as admit, Lapse as lapse, Part as part, Depart as depart}
use Rattle.model.specs.Calls.{Call, instances, tracker, joined, Numbered, calls, amongst, call_of_code}
use Rattle.model.specs.Guids.{num}
use Rattle.model.specs.declared.InstanceStateKind.TheVariants.{Alive}
use Rattle.model.specs.Instances.{rule, starts_by}
use Rattle.model.specs.Tables.{all, is_some, pick}
use Rattle.model.proofs.Tests.{both, split}
use Rattle.accounts.specs.Accounts.{Accounts, accepted, gone_by}
use Rattle.accounts.specs.InstanceAccounts.{Event, by_key, way_of, is_keyed, on_instance}
use Rattle.accounts.specs.WriterAccounts.{Writers, expired_in}
use Rattle.accounts.proofs.Basics.{never, missing}
use Rattle.accounts.proofs.Sound.{SoundState}
use Rattle.abandonment.specs.Standing.{Stand, someone, is_code, stand_after}
use Rattle.abandonment.specs.Console.{among, AtStanding, Fits, skipped, free, noting, keyed}
use Rattle.abandonment.proofs.KindLaws.{Quiet, quiet_delivery, quiet_taken, quiet-seen, quiet_new, quiet-drained, quiet_tried, quiet_strength, quiet_cleared, quiet-prefix, quiet-released, alive-registered, alive-ensured, alive_lifecycle, alive_observed}
use Rattle.abandonment.proofs.OnInstance.{Agrees, quiet_on, keyed_on, note_on, purge_on, tracker_on, stopped_on, admit_on, lapse_on, leave_on}
use Rattle.accounts.proofs.Answered.{Real}

infixr 1 ◌⨾◌
-- what is known of the first, and of the others
abbrev pub ◌⨾◌ : {A B : Type 0} → A → B → A × B
a ⨾ b = (a, b)

-- ---- each code and its call

-- a claim on each: by a law where that serves, and one by one for the others
found : (P : ℕ → Call → Type 0) (p : ℕ → Call → Bool) → ((n : ℕ) (c : Call) → p n c ≡ true → P n c) → (n : ℕ) (c : Call) (cs : List Numbered) →
    All (λ m. P m.code m.call) (pick (λ m. not (p m.code m.call)) cs) → amongst n cs ≡ some c → P n c
unfolding amongst pick
found P p h n c [] a e = missing e
found P p h n c (m ∷ cs) a e =
    let b : P m.code m.call × All (λ o. P o.code o.call) (pick (λ o. not (p o.code o.call)) cs) =
    split (p m.code m.call) (λ s. (h m.code m.call s, rw s at a)) (λ s. rw s at a) in
    split (eqb m.code n)
    (λ d.
    let q : some m.call ≡ some c = rw d at e in
    let r : m.call ≡ c = cc in
    subst (P n) r (subst (λ (j : ℕ). P j m.call) (eqb-true m.code n d) b.0))
    (λ d. found P p h n c cs b.1 (rw d at e))

pub by_code : (P : ℕ → Call → Type 0) (p : ℕ → Call → Bool) → ((n : ℕ) (c : Call) → p n c ≡ true → P n c) →
    All (λ m. P m.code m.call) (pick (λ m. not (p m.code m.call)) calls) → (e : Event) (c : Call) → accepted e ≡ some c → P e.sheet.code c
unfolding call_of_code
by_code P p h a e c is =
    found P p h e.sheet.code c calls a (split (eqb e.number 0) (λ z. rw z at is) (λ z. missing (rw z at is)))

abbrev pub apart : List ℕ → ℕ → Bool
apart [] n = true
apart (m ∷ ns) n = not (eqb n m) && apart ns n

-- a call on writers, with a code of none of these
abbrev pub on_writers : List ℕ → ℕ → Call → Bool
on_writers ns n (instances c) = false
on_writers ns n (tracker c) = apart ns n
on_writers ns n (joined c) = false

-- ---- tests of the code

pub test : (e : Event) (n m : ℕ) → e.sheet.code ≡ n → is_code m e ≡ eqb n m
test e n m d = ap (λ (j : ℕ). eqb j m) d

abbrev pub NoneOf : Event → List ℕ → Type 0
NoneOf e ns = All (λ n. is_code n e ≡ false) ns

pub none_of : (e : Event) (n : ℕ) (ns : List ℕ) → e.sheet.code ≡ n → apart ns n ≡ true → NoneOf e ns
none_of e n [] d o = tt
none_of e n (m ∷ ns) d o =
    let h = both (not (eqb n m)) _ o in (test e n m d ∙ not-true (eqb n m) h.0, none_of e n ns d h.1)

abbrev is_known : ℕ → Bool
is_known n = is_some (amongst n calls)

-- an unknown code is none of the known ones
pub none_known : (e : Event) (ns : List ℕ) → accepted e ≡ none → eqb e.number 0 ≡ true → all is_known ns ≡ true → NoneOf e ns
unfolding all call_of_code
none_known e [] q z s = tt
none_known e (n ∷ ns) q z s =
    let h = both (is_known n) _ s in
    let p : call_of_code e.sheet.code ≡ none = rw z at q in (
      split (is_code n e) (λ d. never (sym h.0 ∙ ap is_known (sym (eqb-true e.sheet.code n d)) ∙ ap is_some p)) (λ d. d),
      none_known e ns q z h.1,
    )

-- ---- who stands after a call of each code

-- the codes that change who stands
abbrev standing : List ℕ
standing = 48 ∷ 6 ∷ 49 ∷ 50 ∷ 51 ∷ []

stand_other : (e : Event) (before after : Writers) (k : ℕ) (x : Stand) → NoneOf e standing → stand_after e before after k x ≡ x
unfolding stand_after
stand_other e before after k x q =
    split (eqb e.number 0) (λ z. rw (z, q.0, q.1.0, q.1.1.0, q.1.1.1.0, q.1.1.1.1.0)) (λ z. rw z)

-- ---- a call of the list

abbrev keyed_code : ℕ → Bool
keyed_code n = eqb n 1 || (eqb n 2 || (eqb n 8 || eqb n 9))

module _ (e : Event) (acc : Accounts) (stands : ℕ → Stand) (m : (k : ℕ) → Agrees (acc.instances.at k) (stands k))
    (sound : (k : ℕ) (i : Instance) → acc.instances.at k ≡ some i → SoundState i.state) (before after : Writers) where
  -- what is to be shown of a call
  abbrev Goal : Call → Type 0
  Goal c =
      (k : ℕ) → Agrees (on_instance c e (gone_by c e.sheet (expired_in before after)) k (acc.instances.at k))
      (stand_after e before after k (stands k))

  abbrev Step : ℕ → Call → Type 0
  Step n c = e.sheet.code ≡ n → accepted e ≡ some c → Real c e acc → Fits e acc stands → Goal c

  -- the ways in which a call fits
  fits_cases : {Q : Type 0} (n : ℕ) (c : Call) → e.sheet.code ≡ n → accepted e ≡ some c → (among n ≡ true → Q) →
      (eqb n 6 ≡ true → AtStanding e acc stands → Q) →
      (keyed_code n ≡ true → someone (stands (num e.sheet.key)) ≡ true → Q) → Fits e acc stands → Q
  fits_cases n c d is p q r (skipped f) = missing (sym f ∙ is)
  fits_cases n c d is p q r (free f) = p (sym (ap among d) ∙ f)
  fits_cases n c d is p q r (noting f g) = q (sym (ap (λ (j : ℕ). eqb j 6) d) ∙ f) g
  fits_cases n c d is p q r (keyed f g) = r (sym (ap keyed_code d) ∙ f) g

  barred : (n : ℕ) (c : Call) → among n ≡ false → eqb n 6 ≡ false → keyed_code n ≡ false → Step n c
  barred n c a b f d is r fits =
      fits_cases n c d is (λ g. never (sym g ∙ a)) (λ g h. never (sym g ∙ b)) (λ g h. never (sym g ∙ f)) fits

  quiet : (n : ℕ) (c : InstanceCall) → apart standing n ≡ true → starts_by (rule c).reach ≡ false →
      ((y : InstanceState) → Quiet c e.sheet y) → Step n (instances c)
  quiet n c o s q d is r fits k =
      rw (stand_other e before after k (stands k) (none_of e n standing d o))
      (quiet_on c e [] k (acc.instances.at k) (stands k) (r.silent s) q (m k))

  reached_by_key : (n : ℕ) (c : InstanceCall) → among n ≡ false → eqb n 6 ≡ false → apart standing n ≡ true → way_of c ≡ by_key →
      ((y : InstanceState) → y.life.kind ≡ Alive → Quiet c e.sheet y) → Step n (instances c)
  reached_by_key n c a b o w q d is r fits k =
      rw (stand_other e before after k (stands k) (none_of e n standing d o))
      (keyed_on c e [] k (acc.instances.at k) (stands k) w q someones (m k))
    where
      someones : is_keyed e.sheet k ≡ true → someone (stands k) ≡ true
      someones f =
          rw (eqb-true k (num e.sheet.key) f)
          (fits_cases n (instances c) d is (λ g. never (sym g ∙ a)) (λ g h. never (sym g ∙ b)) (λ g h. h) fits)

  notes-step : Step 6 (instances note_writer)
  notes-step d is r fits k =
      unfold stand_after in
      rw (r.number, test e 6 48 d, test e 6 6 d)
      (note_on e [] k (acc.instances.at k) (stands k) (r.silent refl) standing (m k))
    where
      standing : (i : Instance) → acc.instances.at k ≡ some i → i.handle.0 ≡ e.sheet.handle.0 →
          someone (stands k) ≡ true
      standing =
          fits_cases 6 (instances note_writer) d is (λ g. never (sym g)) (λ g h. h k) (λ g h. never (sym g)) fits

  purges : Step 21 (instances autopurge)
  purges d is r fits k =
      rw (stand_other e before after k (stands k) (none_of e 21 standing d refl))
      (purge_on e [] k (acc.instances.at k) (stands k) (r.silent refl) (m k))

  tracks : (n : ℕ) (c : Call) → on_writers standing n c ≡ true → Step n c
  tracks n (instances c) o = never (sym o)
  tracks n (tracker c) o = λ d is r fits k. rw (stand_other e before after k (stands k) (none_of e n standing d o))
      (tracker_on c e [] k (acc.instances.at k) (stands k) (r.silent refl) (m k))
  tracks n (joined c) o = never (sym o)

  admit-step : Step 48 (joined admit)
  admit-step d is r fits k =
      unfold stand_after in
      rw (r.number, test e 48 48 d)
      (split (eqb e.outcome 0)
      (λ t.
      admit_on e [] k (acc.instances.at k) (stands k) t
      (λ f o. r.admitted.absent t (at_key f ∙ o)) (λ f i o. r.admitted.present t i (at_key f ∙ o)) (m k))
      (λ t. stopped_on e [] k (acc.instances.at k) (stands k) t (r.admitted.stopped t) (m k)))
    where
      at_key : is_keyed e.sheet k ≡ true → acc.instances.at (num e.sheet.key) ≡ acc.instances.at k
      at_key f = ap acc.instances.at (sym (eqb-true k (num e.sheet.key) f))

  lapse-step : Step 49 (joined lapse)
  lapse-step d is r fits k =
      unfold stand_after in
      rw (r.number, test e 49 48 d, test e 49 6 d, test e 49 49 d)
      (lapse_on e before after k (acc.instances.at k) (stands k) (r.silent refl) (sound k) (m k))

  part_step : Step 50 (joined part)
  part_step d is r fits k =
      unfold stand_after in
      rw (r.number, test e 50 48 d, test e 50 6 d, test e 50 49 d, test e 50 50 d)
      (leave_on part e k (acc.instances.at k) (stands k) (λ j. refl) (r.silent refl) (sound k) (m k))

  depart-step : Step 51 (joined depart)
  depart-step d is r fits k =
      unfold stand_after in
      rw (r.number, test e 51 48 d, test e 51 6 d, test e 51 49 d, test e 51 50 d, test e 51 51 d)
      (leave_on depart e k (acc.instances.at k) (stands k) (λ j. refl) (r.silent refl) (sound k) (m k))

  -- but for those on writers, in the order of the codes
  steps : All (λ n. Step n.code n.call) (pick (λ n. not (on_writers standing n.code n.call)) calls)
  unfolding calls pick
  steps =
      reached_by_key 1 register refl refl refl refl (alive-registered e.sheet)
      ⨾ reached_by_key 2 ensure_registered_limited refl refl refl refl (alive-ensured e.sheet)
      ⨾ barred 3 (instances dispose) refl refl refl
      ⨾ barred 4 (instances unregister) refl refl refl
      ⨾ barred 5 (instances unregister_writer) refl refl refl
      ⨾ notes-step
      ⨾ barred 7 (instances drop_writer) refl refl refl
      ⨾ reached_by_key 8 observe_lifecycle refl refl refl refl (alive_lifecycle e.sheet)
      ⨾ reached_by_key 9 observe_admitted refl refl refl refl (alive_observed e.sheet)
      ⨾ barred 10 (instances note_admitted) refl refl refl
      ⨾ quiet 11 record_delivery refl refl (quiet_delivery e.sheet)
      ⨾ quiet 12 note_taken refl refl (quiet_taken e.sheet)
      ⨾ quiet 13 mark_view_seen refl refl (quiet-seen e.sheet)
      ⨾ quiet 14 mark_view_new refl refl (quiet_new e.sheet)
      ⨾ quiet 15 drain_samples refl refl (quiet-drained e.sheet)
      ⨾ quiet 16 accept_under_exclusive_ownership refl refl (quiet_tried e.sheet)
      ⨾ quiet 17 update_owner_strength refl refl (quiet_strength e.sheet)
      ⨾ quiet 18 clear_owner_for_writer refl refl (quiet_cleared e.sheet)
      ⨾ quiet 19 clear_owner_for_writer_prefix refl refl (quiet-prefix e.sheet)
      ⨾ quiet 20 release_owner_of refl refl (quiet-released e.sheet)
      ⨾ purges
      ⨾ admit-step
      ⨾ lapse-step
      ⨾ part_step
      ⨾ depart-step
      ⨾ tt

  pub step : (c : Call) → accepted e ≡ some c → Real c e acc → Fits e acc stands → Goal c
  step c is r fits = by_code Step (on_writers standing) tracks steps e c is refl is r fits

-- a call that is skipped
pub unheard : (e : Event) (before after : Writers) (k : ℕ) (x : Stand) → accepted e ≡ none →
    stand_after e before after k x ≡ x
unheard e before after k x is =
    split (eqb e.number 0)
    (λ z. stand_other e before after k x (none_known e standing is z (unfold all amongst calls in refl)))
    (λ z. unfold stand_after in rw z)
