-- One instance beside who stands for it: each call keeps the two in step.
--     Stands, Agrees      what that is, of an instance that is there and of one that is not
--     *-on                the calls, each on one account
use mathlib.Core.Bool.{Bool, true, false, not, ◌&&◌, ◌||◌}
use mathlib.Core.List.{List, [], ◌∷◌}
use mathlib.Core.Option.{Option, none, some}
use mathlib.Core.Path.{◌≡◌, refl, sym, ap, ◌∙◌}
use Prim.Native.Nat.{ℕ, ◌<◌}
use borrow.Author.Tests.{eqb-true, not-true}
use lib.Dec.{eqb}
use Rattle.model.specs.declared.Guid.{Guid}
use Rattle.model.specs.declared.Instance.{Instance}
use Rattle.model.specs.declared.InstanceState.{InstanceState}
use Rattle.model.specs.declared.InstanceStateKind.{InstanceStateKind}
use Rattle.model.specs.declared.InstanceStateKind.TheVariants.{Alive}
use Rattle.model.specs.declared.Sheet.{Sheet}
use Rattle.model.specs.declared.InstanceCall.{InstanceCall}
use Rattle.model.specs.declared.InstanceCall.TheVariants.{NoteWriter as note_writer, Autopurge as autopurge}
use Rattle.model.specs.declared.TrackerCall.{TrackerCall}
use Rattle.model.specs.declared.JoinedCall.{JoinedCall}
use Rattle.model.specs.declared.JoinedCall.TheVariants.{Admit as admit, Lapse as lapse}
use Rattle.model.specs.Calls.{Call, instances, tracker, joined}
use Rattle.model.specs.Guids.{num, same}
use Rattle.model.specs.Instances.{effect, purged_as, purged, writer_noted, writers_in, started, started_state, owned_from, ownership_tried, admitted_observed, admitted_noted}
use Rattle.model.specs.Sets.{members, has, insert, is_empty}
use Rattle.model.specs.Times.{if_present}
use Rattle.model.proofs.Keeps.{tried_writers}
use Rattle.model.proofs.Tests.{split}
use Rattle.accounts.specs.InstanceAccounts.{Event, by_key, way_of, reached_by, is_keyed, leaving, admitting, losing, on_present, on_started, on_absent, on_instance}
use Rattle.accounts.specs.Ranges.{bound}
use Rattle.accounts.specs.WriterAccounts.{Writers, expired_at, expired_in}
use Rattle.accounts.proofs.Basics.{never, eqb_sym}
use Rattle.accounts.proofs.Sound.{SoundState}
use Rattle.accounts.proofs.TurnLaws.{Within}
use Rattle.abandonment.specs.Standing.{Stand, someone, admits, notes, expires, named, stays, loses}
use Rattle.abandonment.proofs.SetLaws.{Numbered, has-insert, insert_some, has-pick, has-expired, has_within, none_in, same_empty, some_in, and_never}
use Rattle.abandonment.proofs.KindLaws.{Quiet, shown, Shown, noted_kind, noted_set, admitted-alive, admitted-set, lost_shown, lost-has, sound-set}

-- ---- in step

pub record Stands (i : Instance) (x : Stand) : Type 0 where
  pub handle : i.handle.0 ≡ x.handle
  pub shown : Shown i.state
  pub who : (g : Guid) → has g (writers_in i.state) ≡ has g x.writers

abbrev pub Agrees : Option Instance → Stand → Type 0
Agrees none x = (g : Guid) → has g x.writers ≡ false
Agrees (some i) x = Stands i x

-- ---- what follows of it

nobody_empty : (x : Stand) → ((g : Guid) → has g x.writers ≡ false) → is_empty x.writers ≡ true
nobody_empty x m =
    split (is_empty x.writers) (λ e. e)
    (λ e. let one = some_in x.writers e in never (sym one.inside ∙ m one.one))

pub nobody-stands : (x : Stand) → ((g : Guid) → has g x.writers ≡ false) → someone x ≡ false
nobody-stands x m = ap not (nobody_empty x m)

pub absent-stands : {A : Type 0} (x : Stand) → ((g : Guid) → has g x.writers ≡ false) → someone x ≡ true → A
absent-stands x m e = never (sym e ∙ nobody-stands x m)

pub same_shown : (i : Instance) (x : Stand) → Stands i x → i.state.life.kind ≡ shown (is_empty x.writers)
same_shown i x m = m.shown ∙ ap shown (same_empty (writers_in i.state) x.writers m.who)

pub stands-alive : (i : Instance) (x : Stand) → Stands i x → someone x ≡ true → i.state.life.kind ≡ Alive
stands-alive i x m e = same_shown i x m ∙ ap shown (not-true (is_empty x.writers) e)

-- another state of the instance, of the same kind and set
kept-stands : (i : Instance) (y : InstanceState) (x : Stand) → y.life.kind ≡ i.state.life.kind →
    y.writers ≡ i.state.writers → Stands i x →
    Stands record { key = i.key; handle = i.handle; state = y } x
kept-stands i y x e d m =
    let same : writers_in y ≡ writers_in i.state = ap members d in
    record {
      handle = m.handle;
      shown = e ∙ m.shown ∙ ap (λ (l : List Guid). shown (is_empty l)) (sym same);
      who = λ g. ap (has g) same ∙ m.who g;
    }

-- another writer
more_stands : (i : Instance) (y : InstanceState) (x : Stand) (h : ℕ) (g : Guid) → i.handle.0 ≡ h →
    y.life.kind ≡ Alive → writers_in y ≡ insert g (writers_in i.state) →
    ((j : Guid) → has j (writers_in i.state) ≡ has j x.writers) →
    Stands record { key = i.key; handle = i.handle; state = y } record { handle = h; writers = g ∷ x.writers }
more_stands i y x h g n e d w =
    record {
      handle = n;
      shown = e ∙ ap shown (sym (insert_some g (writers_in i.state))) ∙ ap (λ (l : List Guid). shown (is_empty l)) (sym d);
      who = λ j. ap (has j) d ∙ has-insert j g (writers_in i.state) ∙ rw (w j) (sym (has_first j g x.writers));
    }
  where
    has_first : (j f : Guid) (xs : List Guid) → has j (f ∷ xs) ≡ (same f j || has j xs)
    has_first j f xs = unfold has in refl

-- ---- a call that answers no handle leaves an absent instance so

pub silent-absent : (c : Call) (e : Event) (k : ℕ) → e.handle ≡ 0 → on_absent c e k ≡ none
silent-absent c e k z =
    rw z (split (is_keyed e.sheet k) (λ d. rw d) (λ d. rw d))

pub unkeyed_absent : (c : Call) (e : Event) (k : ℕ) → is_keyed e.sheet k ≡ false → on_absent c e k ≡ none
unkeyed_absent c e k d = rw d

-- ---- calls of section 3

quietly : (c : InstanceCall) (e : Event) (i : Instance) (x : Stand) → Quiet c e.sheet i.state → Stands i x →
    Agrees (leaving i (effect c e.sheet i.state)) x
quietly c e i x q m = rw q.is (kept-stands i q.left x q.kind q.writers m)

-- codes 11 to 20
pub quiet_on : (c : InstanceCall) (e : Event) (gone : List Guid) (k : ℕ) (o : Option Instance) (x : Stand) →
    e.handle ≡ 0 → ((y : InstanceState) → Quiet c e.sheet y) → Agrees o x →
    Agrees (on_instance (instances c) e gone k o) x
quiet_on c e gone k none x z q m = rw (silent-absent (instances c) e k z) m
quiet_on c e gone k (some i) x z q m =
    split (reached_by (way_of c) e.sheet k i)
    (λ d. rw d (quietly c e i x (q i.state) m))
    (λ d. rw d m)

-- codes 1, 2, 8 and 9, by a key for which some writer stands
pub keyed_on : (c : InstanceCall) (e : Event) (gone : List Guid) (k : ℕ) (o : Option Instance) (x : Stand) →
    way_of c ≡ by_key → ((y : InstanceState) → y.life.kind ≡ Alive → Quiet c e.sheet y) →
    (is_keyed e.sheet k ≡ true → someone x ≡ true) → Agrees o x →
    Agrees (on_instance (instances c) e gone k o) x
keyed_on c e gone k none x w q f m =
    split (is_keyed e.sheet k)
    (λ d. absent-stands x m (f d))
    (λ d. rw (unkeyed_absent (instances c) e k d) m)
keyed_on c e gone k (some i) x w q f m =
    split (is_keyed e.sheet k)
    (λ d. rw (w, d) (quietly c e i x (q i.state (stands-alive i x m (f d))) m))
    (λ d. rw (w, d) m)

-- code 6: it leaves a stand where nobody stands
note_on_nobody : (e : Event) (h : ℕ) (writers : List Guid) → someone record { handle = h; writers = writers } ≡ false →
    notes e record { handle = h; writers = writers } ≡ record { handle = h; writers = writers }
note_on_nobody e h [] f = split (eqb h e.sheet.handle.0) (λ d. rw d) (λ d. rw d)
note_on_nobody e h (g ∷ writers) f = never f

pub note_on : (e : Event) (gone : List Guid) (k : ℕ) (o : Option Instance) (x : Stand) → e.handle ≡ 0 →
    ((i : Instance) → o ≡ some i → i.handle.0 ≡ e.sheet.handle.0 → someone x ≡ true) → Agrees o x →
    Agrees (on_instance (instances note_writer) e gone k o) (notes e x)
note_on e gone k none x z f m =
    rw (silent-absent (instances note_writer) e k z, note_on_nobody e x.handle x.writers (nobody-stands x m)) m
note_on e gone k (some i) x z f m =
    split (eqb x.handle e.sheet.handle.0)
    (λ d.
    let s : someone x ≡ true = f i refl (m.handle ∙ eqb-true x.handle e.sheet.handle.0 d) in
    rw (at-it ∙ d, d, s)
    (more_stands i (writer_noted e.sheet.guid i.state) x x.handle e.sheet.guid m.handle
    (noted_kind e.sheet.guid i.state ∙ stands-alive i x m s) (noted_set e.sheet.guid i.state) m.who))
    (λ d. rw (at-it ∙ d, d) m)
  where
    at-it : eqb i.handle.0 e.sheet.handle.0 ≡ eqb x.handle e.sheet.handle.0
    at-it = ap (λ (n : ℕ). eqb n e.sheet.handle.0) m.handle

-- code 21
purged_empty : (s : Sheet) (y : InstanceState) → Shown y → purged s y ≡ true → is_empty (writers_in y) ≡ true
unfolding purged
purged_empty s y m e =
    split (is_empty (writers_in y)) (λ d. d)
    (λ d.
    let a : y.life.kind ≡ Alive = m ∙ ap shown d in
    never (sym e ∙ ap (λ (q : InstanceStateKind). purged_as q s y.times) a))

pub purge_on : (e : Event) (gone : List Guid) (k : ℕ) (o : Option Instance) (x : Stand) → e.handle ≡ 0 → Agrees o x →
    Agrees (on_instance (instances autopurge) e gone k o) x
purge_on e gone k none x z m = rw (silent-absent (instances autopurge) e k z) m
purge_on e gone k (some i) x z m =
    split (purged e.sheet i.state)
    (λ d.
    rw d
    (λ g. sym (m.who g) ∙ none_in g (writers_in i.state) (purged_empty e.sheet i.state m.shown d)))
    (λ d. rw d (kept-stands i i.state x refl refl m))

-- ---- calls of section 4

pub tracker_on : (c : TrackerCall) (e : Event) (gone : List Guid) (k : ℕ) (o : Option Instance) (x : Stand) →
    e.handle ≡ 0 → Agrees o x → Agrees (on_instance (tracker c) e gone k o) x
tracker_on c e gone k none x z m = rw (silent-absent (tracker c) e k z) m
tracker_on c e gone k (some i) x z m = m

-- ---- code 48

-- an admit with another outcome than 0 leaves who stands
pub turned_away_lem : (e : Event) (k : ℕ) (x : Stand) → eqb e.outcome 0 ≡ false → admits e k x ≡ x
turned_away_lem e k x f = split (is_keyed e.sheet k) (λ d. rw (d, f)) (λ d. rw d)

pub stopped_on : (e : Event) (gone : List Guid) (k : ℕ) (o : Option Instance) (x : Stand) → eqb e.outcome 0 ≡ false →
    e.handle ≡ 0 → Agrees o x →
    Agrees (on_instance (joined admit) e gone k o) (admits e k x)
stopped_on e gone k none x f z m =
    rw (turned_away_lem e k x f, silent-absent (joined admit) e k z) m
stopped_on e gone k (some i) x f z m = rw (turned_away_lem e k x f, f, and_never (is_keyed e.sheet k)) m

empty_started : (h : Guid) → has h (writers_in started_state) ≡ false
unfolding started_state has
empty_started h = refl

pub admit_on : (e : Event) (gone : List Guid) (k : ℕ) (o : Option Instance) (x : Stand) → eqb e.outcome 0 ≡ true →
    (is_keyed e.sheet k ≡ true → o ≡ none → eqb e.handle 0 ≡ false) →
    (is_keyed e.sheet k ≡ true → (i : Instance) → o ≡ some i → i.handle.0 ≡ e.handle) → Agrees o x →
    Agrees (on_instance (joined admit) e gone k o) (admits e k x)
admit_on e gone k none x t f h m =
    split (is_keyed e.sheet k)
    (λ d. rw (d, t, f d refl) new)
    (λ d. rw d m)
  where
    s : Sheet
    s = e.sheet

    new : Agrees (on_started (joined admit) s (started s.key e.handle)) record { handle = e.handle; writers = s.guid ∷ x.writers }
    new =
        unfold started in
        more_stands (started s.key e.handle) (owned_from s (admitted_noted s (admitted_observed s started_state))) x e.handle
        s.guid refl (admitted-alive s started_state) (admitted-set s started_state)
        (λ j. empty_started j ∙ sym (m j))
admit_on e gone k (some i) x t f h m =
    split (is_keyed e.sheet k)
    (λ d. rw (d, t) (again d))
    (λ d. rw d m)
  where
    s : Sheet
    s = e.sheet

    tried_set : writers_in (admitting s i.state) ≡ insert s.guid (writers_in i.state)
    tried_set =
        admitted-set s (ownership_tried s i.state) ∙ ap (λ w. insert s.guid (members w)) (tried_writers s i.state)

    again : is_keyed s k ≡ true →
        Agrees (leaving i (some (admitting s i.state))) record { handle = e.handle; writers = s.guid ∷ x.writers }
    again d =
        more_stands i (admitting s i.state) x e.handle s.guid (h d i refl)
        (admitted-alive s (ownership_tried s i.state)) tried_set m.who

-- ---- codes 49 to 51

by_stays : (p : Guid → Bool) → Numbered p → Numbered (stays p)
by_stays p n = record { by = λ a b e. ap not (n.by a b e) }

-- `gone` are the writers lost, `p` tells them
loss_on : (c : JoinedCall) (e : Event) (gone : List Guid) (p : Guid → Bool) (k : ℕ) (o : Option Instance) (x : Stand) →
    ((j : Instance) → on_present (joined c) e gone k j ≡ losing gone e.sheet j) → e.handle ≡ 0 → Numbered p →
    ((g : Guid) → num g < bound → has g gone ≡ p g) → ((i : Instance) → o ≡ some i → SoundState i.state) → Agrees o x →
    Agrees (on_instance (joined c) e gone k o) (loses p x)
loss_on c e gone p k none x l z n t sound m =
    rw (silent-absent (joined c) e k z) (λ g. has-pick (stays p) (by_stays p n) g x.writers ∙ rw (m g))
loss_on c e gone p k (some i) x l z n t sound m =
    rw (l i) record {
      handle = m.handle;
      shown = lost_shown gone (if_present e.sheet.time_1) i.state m.shown;
      who = λ g. lost-has g gone (if_present e.sheet.time_1) i.state rises ∙ tests g
          ∙ sym (has-pick (stays p) (by_stays p n) g x.writers);
    }
  where
    rises : Within num 0 bound (writers_in i.state)
    rises = sound-set i.state (sound i refl)

    tests : (g : Guid) → (has g (writers_in i.state) && not (has g gone)) ≡ (has g x.writers && not (p g))
    tests g =
        split (has g (writers_in i.state))
        (λ d. rw (← m.who g, d, t g (has_within 0 bound g (writers_in i.state) rises d)))
        (λ d. rw (← m.who g, d))

by_expires : (before after : Writers) → Numbered (expires before after)
by_expires before after = record { by = λ a b e. ap (expired_at before after) e }

by_named : (e : Event) → Numbered (named e)
by_named e = record { by = λ a b d. ap (λ (n : ℕ). eqb n (num e.sheet.guid)) d }

-- code 49
pub lapse_on : (e : Event) (before after : Writers) (k : ℕ) (o : Option Instance) (x : Stand) → e.handle ≡ 0 →
    ((i : Instance) → o ≡ some i → SoundState i.state) → Agrees o x →
    Agrees (on_instance (joined lapse) e (expired_in before after) k o) (loses (expires before after) x)
lapse_on e before after k o x z sound m =
    loss_on lapse e (expired_in before after) (expires before after) k o x (λ j. refl) z (by_expires before after)
    (λ g l. unfold expired_in in has-expired (expired_at before after) g l) sound m

pub one-gone : (e : Event) (g : Guid) → has g (e.sheet.guid ∷ []) ≡ named e g
unfolding has
one-gone e g =
    rw (eqb_sym (num e.sheet.guid) (num g)) (split (named e g) (λ d. rw d) (λ d. rw d))

-- codes 50 and 51
pub leave_on : (c : JoinedCall) (e : Event) (k : ℕ) (o : Option Instance) (x : Stand) →
    ((j : Instance) → on_present (joined c) e (e.sheet.guid ∷ []) k j ≡ losing (e.sheet.guid ∷ []) e.sheet j) → e.handle ≡ 0 →
    ((i : Instance) → o ≡ some i → SoundState i.state) → Agrees o x →
    Agrees (on_instance (joined c) e (e.sheet.guid ∷ []) k o) (loses (named e) x)
leave_on c e k o x l z sound m =
    loss_on c e (e.sheet.guid ∷ []) (named e) k o x l z (by_named e) (λ g l. one-gone e g) sound m
