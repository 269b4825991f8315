-- What holds of each part of an instance, and is kept by the steps of which the calls are made, is kept by every call. Once
-- for any predicates: G of a generation, N of a count, T of a time, O of an owner, H of a holder, W of a writer set.
--     Each          it holds of each part
--     Closed        the steps keep it
--     Asked         it holds of what a call takes from its sheet
--     keeps, kept   then it holds of each part of what the call leaves
--     loss_keeps, losses_keep
--                   and of each part of what codes 7 and 18 leave for each writer gone
--     set-kept, set_loss, set_losses
--                   the same of the writer set alone
--     tried_writers, observed_writers
--                   codes 16 and 9 leave it as it is
--     every_cases   the calls on every instance are five
--     lasting       a call on one instance leaves it there
use Prim.Native.Nat.{ℕ, ◌-◌, max}
use mathlib.Core.Bool.{Bool, true, false, not, ◌&&◌, ◌||◌, cond}
use mathlib.Core.Option.{Option, none, some}
use mathlib.Core.List.{List, [], ◌∷◌}
use mathlib.Core.Path.{◌≡◌, refl, sym, subst}
use native.Mathlib.Omega.{arith}
use Rattle.octets.specs.Lay.{All}
use Rattle.model.specs.declared.Guid.{Guid}
use Rattle.model.specs.declared.Holder.{Holder}
use Rattle.model.specs.declared.InstanceCall.{InstanceCall}
use Rattle.model.specs.declared.InstanceCall.TheVariants.{Register, EnsureRegisteredLimited, Dispose, Unregister, UnregisterWriter, NoteWriter, DropWriter, ObserveLifecycle, ObserveAdmitted, NoteAdmitted, RecordDelivery, NoteTaken, MarkViewSeen, MarkViewNew, DrainSamples, AcceptUnderExclusiveOwnership, UpdateOwnerStrength, ClearOwnerForWriter, ClearOwnerForWriterPrefix, ReleaseOwnerOf, Autopurge}
use Rattle.model.specs.declared.InstanceState.{InstanceState}
use Rattle.model.specs.declared.InstanceStateKind.{InstanceStateKind}
use Rattle.model.specs.declared.InstanceStateKind.TheVariants.{Alive, NotAliveDisposed, NotAliveNoWriters}
use Rattle.model.specs.declared.Life.{Life}
use Rattle.model.specs.declared.MaybeOwner.{MaybeOwner}
use Rattle.model.specs.declared.MaybeTime.{MaybeTime}
use Rattle.model.specs.declared.Sheet.{Sheet}
use Rattle.model.specs.declared.Times.{Times}
use Rattle.model.specs.declared.WriterSet.{WriterSet}
use Rattle.model.specs.Instances.{with_life, with_times, with_delivery, with_kind, with_view, with_samples, with_writer_count, with_writers, with_owner, with_holder, is_alive, is_disposed, risen, top_generation, top_count, revived_from, revived, revived_new, sampled_at, writerless, stored, counted, without, writers_in, counted_down, registered, ensured, disposed, unregistered, writer_unregistered, writer_noted, left_by, writer_dropped, lifecycle_observed, admitted_observed, admitted_noted, delivery_recorded, viewed, drained, no_owner, owns, owns_prefix, takes_over, owned_from, ownership_tried, strength_updated, owner_cleared, prefix_cleared, purged, effect, rule, on_every}
use Rattle.model.specs.Joined.{left_without, left_without_all}
use Rattle.model.specs.Refusals.{optional, times_used_by, holder_used_by}
use Rattle.model.specs.Sets.{members, set_of, has, insert, remove, is_empty}
use Rattle.model.specs.Tables.{is_some}
use lib.Dec.{eqb}
use Rattle.model.specs.Times.{no_time, always, if_present, given}

-- one of two, by a test
chosen : {A : Type 0} (P : A → Type 0) (b : Bool) (a c : A) → (b ≡ true → P a) → (b ≡ false → P c) → P (cond b a c)
chosen P true a c h k = h refl
chosen P false a c h k = k refl

module _ (G N : ℕ → Type 0) (T : MaybeTime → Type 0) (O : MaybeOwner → Type 0) (H : Holder → Type 0) (W : WriterSet → Type 0) where
  pub record Lives (l : Life) : Type 0 where
    pub disposed : G l.disposed_generations
    pub no_writers : G l.no_writers_generations
    pub count : N l.writer_count
    pub samples : N l.samples

  pub record Timed (t : Times) : Type 0 where
    pub sample : T t.last_sample
    pub delivered : T t.last_delivered
    pub filter : T t.last_filter
    pub disposed : T t.disposed_at
    pub no_writers : T t.no_writers_at
    pub owner : T t.owner_at

  pub record Each (x : InstanceState) : Type 0 where
    pub life : Lives x.life
    pub times : Timed x.times
    pub owner : O x.owner
    pub holder : H x.holder
    pub writers : W x.writers

  pub record Closed : Type 0 where
    pub generation : (n : ℕ) → G n → G (risen top_generation n)
    pub more : (n : ℕ) → N n → N (risen top_count n)
    pub some : (n : ℕ) → N n → N (max n 1)
    pub fewer : (n k : ℕ) → N n → N (n - k)
    pub absent : T no_time
    pub nobody : O no_owner
    pub without : (g : Guid) (w : WriterSet) → W w → W (set_of (remove g (members w)))

  -- what a call takes from its sheet: U is what is asked of a time that it uses
  pub record Asked (U : MaybeTime → Type 0) (c : InstanceCall) (s : Sheet) (x : InstanceState) : Type 0 where
    pub times : All U (times_used_by c s)
    pub time1 : U s.time_1 → T (always s.time_1)
    pub time2 : U s.time_2 → T (always s.time_2)
    pub holder : holder_used_by c s ≡ true → H (stored s.holder)
    pub owner : O (record { present = true; guid = s.guid; strength = s.second })
    pub strength : O (record { present = true; guid = x.owner.guid; strength = s.second })
    pub writer : (rule c).adds_writer ≡ true → W (set_of (insert s.guid (writers_in x)))

  -- what is left, if anything is, is such
  abbrev pub Leaves : Option InstanceState → Type 0
  Leaves none = Unit
  Leaves (some y) = Each y

  -- ---- the parts of which the calls are made

  given_keeps : (new old : MaybeTime) → T new → T old → T (given new old)
  given_keeps new old n o = chosen T new.present new old (λ e. n) (λ e. o)

  -- a value that is there, from the same value given
  present-holder : (h : Holder) → h.present ≡ true → H (stored h) → H h
  present-holder h p k = subst (λ (b : Bool). H record { present = b; len = h.len; bytes = h.bytes }) (sym p) k

  present-time : (t : MaybeTime) → t.present ≡ true → T (always t) → T t
  present-time t p k = subst (λ (b : Bool). T record { present = b; sec = t.sec; nanosec = t.nanosec }) (sym p) k

  view_keeps : (v : Bool) (l : Life) → Lives l → Lives (with_view v l)
  view_keeps v l f = record { disposed = f.disposed; no_writers = f.no_writers; count = f.count; samples = f.samples }

  kind_keeps : (k : InstanceStateKind) (l : Life) → Lives l → Lives (with_kind k l)
  kind_keeps k l f = record { disposed = f.disposed; no_writers = f.no_writers; count = f.count; samples = f.samples }

  count_keeps : (n : ℕ) (l : Life) → N n → Lives l → Lives (with_writer_count n l)
  count_keeps n l h f = record { disposed = f.disposed; no_writers = f.no_writers; count = h; samples = f.samples }

  samples_keep : (n : ℕ) (l : Life) → N n → Lives l → Lives (with_samples n l)
  samples_keep n l h f = record { disposed = f.disposed; no_writers = f.no_writers; count = f.count; samples = h }

  life_keeps : (l : Life) (x : InstanceState) → Lives l → Each x → Each (with_life l x)
  life_keeps l x h f = record { life = h; times = f.times; owner = f.owner; holder = f.holder; writers = f.writers }

  owner_keeps : (o : MaybeOwner) (x : InstanceState) → O o → Each x → Each (with_owner o x)
  owner_keeps o x h f = record { life = f.life; times = f.times; owner = h; holder = f.holder; writers = f.writers }

  holder_keeps : (o : Holder) (x : InstanceState) → H o → Each x → Each (with_holder o x)
  holder_keeps o x h f = record { life = f.life; times = f.times; owner = f.owner; holder = h; writers = f.writers }

  writers_keep : (w : WriterSet) (x : InstanceState) → W w → Each x → Each (with_writers w x)
  writers_keep w x h f = record { life = f.life; times = f.times; owner = f.owner; holder = f.holder; writers = h }

  times_keep : (t : Times) (x : InstanceState) → Timed t → Each x → Each (with_times t x)
  times_keep t x h f = record { life = f.life; times = h; owner = f.owner; holder = f.holder; writers = f.writers }

  viewed_keeps : (v : Bool) (x : InstanceState) → Each x → Each (viewed v x)
  unfolding viewed
  viewed_keeps v x f = life_keeps (with_view v x.life) x (view_keeps v x.life f.life) f

  sampled_keeps : (at : MaybeTime) (x : InstanceState) → T at → Each x → Each (sampled_at at x)
  sampled_keeps at x h f =
      let t = f.times in record {
        life = f.life;
        times = record {
          sample = given_keeps at x.times.last_sample h t.sample;
          delivered = t.delivered;
          filter = t.filter;
          disposed = t.disposed;
          no_writers = t.no_writers;
          owner = t.owner;
        };
        owner = f.owner;
        holder = f.holder;
        writers = f.writers;
      }

  writerless_keeps : (at : MaybeTime) (x : InstanceState) → T at → Each x → Each (writerless at x)
  writerless_keeps at x h f =
      let t = f.times in record {
        life = kind_keeps NotAliveNoWriters x.life f.life;
        times = record {
          sample = t.sample;
          delivered = t.delivered;
          filter = t.filter;
          disposed = t.disposed;
          no_writers = given_keeps at x.times.no_writers_at h t.no_writers;
          owner = t.owner;
        };
        owner = f.owner;
        holder = f.holder;
        writers = f.writers;
      }

  -- left alone, or left writerless
  left_keeps : (b : Bool) (at : MaybeTime) (x : InstanceState) → T at → Each x → Each (cond b (writerless at x) x)
  left_keeps b at x h f = chosen Each b (writerless at x) x (λ e. writerless_keeps at x h f) (λ e. f)

  delivery_keeps : (a b : MaybeTime) (t : Times) → T a → T b → Timed t → Timed (with_delivery a b t)
  delivery_keeps a b t p q f =
      record { sample = f.sample; delivered = p; filter = q; disposed = f.disposed; no_writers = f.no_writers; owner = f.owner }

  module _ (closed : Closed) where
    if-present : (U : MaybeTime → Type 0) (t : MaybeTime) → All U (optional t) → (U t → T (always t)) → T (if_present t)
    if-present U t u h =
        chosen T t.present t no_time
        (λ p. present-time t p (h (subst (λ (b : Bool). All U (cond b (t ∷ []) [])) p u).0)) (λ p. closed.absent)

    revived_keeps : (l : Life) → Lives l → Lives (revived l)
    unfolding revived
    revived_keeps l f = by l.kind
      where
        by : (k : InstanceStateKind) → Lives (revived_from k l)
        by Alive = f
        by NotAliveDisposed =
            record { disposed = closed.generation l.disposed_generations f.disposed; no_writers = f.no_writers; count = f.count; samples = f.samples }
        by NotAliveNoWriters =
            record { disposed = f.disposed; no_writers = closed.generation l.no_writers_generations f.no_writers; count = f.count; samples = f.samples }

    revived_new_keeps : (l : Life) → Lives l → Lives (revived_new l)
    unfolding revived_new
    revived_new_keeps l f = view_keeps (not (is_alive l.kind) || l.view_new) (revived l) (revived_keeps l f)

    counted_keeps : (x : InstanceState) → Each x → Each (counted x)
    counted_keeps x f =
        life_keeps (with_samples (risen top_count x.life.samples) x.life) x
        (samples_keep (risen top_count x.life.samples) x.life (closed.more x.life.samples f.life.samples) f.life) f

    module _ (x : InstanceState) (f : Each x) where
      without_keeps : (g : Guid) → Each (without g x)
      without_keeps g = writers_keep (set_of (remove g (writers_in x))) x (closed.without g x.writers f.writers) f

      cleared_keeps : (b : Bool) → Each (cond b (with_owner no_owner x) x)
      cleared_keeps b = chosen Each b (with_owner no_owner x) x (λ e. owner_keeps no_owner x closed.nobody f) (λ e. f)

      drained_keeps : (n : ℕ) → Each (drained n x)
      unfolding drained
      drained_keeps n =
          life_keeps (with_samples (x.life.samples - n) x.life) x
          (samples_keep (x.life.samples - n) x.life (closed.fewer x.life.samples n f.life.samples) f.life) f

      ensured_keeps : Each (ensured x)
      unfolding ensured
      ensured_keeps =
          life_keeps _ x
          (count_keeps _ (revived_new x.life) (closed.some x.life.writer_count f.life.count) (revived_new_keeps x.life f.life)) f

      disposed_keeps : (at : MaybeTime) → T at → Each (disposed at x)
      unfolding disposed
      disposed_keeps at h =
          let t = f.times in
          sampled_keeps at _ h record {
            life = kind_keeps NotAliveDisposed x.life f.life;
            times = record {
              sample = t.sample;
              delivered = t.delivered;
              filter = t.filter;
              disposed = given_keeps at x.times.disposed_at h t.disposed;
              no_writers = t.no_writers;
              owner = t.owner;
            };
            owner = f.owner;
            holder = f.holder;
            writers = f.writers;
          }

      unregistered_keeps : (at : MaybeTime) → T at → Each (unregistered at x)
      unfolding unregistered
      unregistered_keeps at h =
          sampled_keeps at _ h
          (left_keeps (eqb (x.life.writer_count - 1) 0 && not (is_disposed x.life.kind)) at (counted_down x) h
          (life_keeps _ x (count_keeps _ x.life (closed.fewer x.life.writer_count 1 f.life.count) f.life) f))

      writer_unregistered_keeps : (g : Guid) (at : MaybeTime) → T at → Each (writer_unregistered g at x)
      unfolding writer_unregistered
      writer_unregistered_keeps g at h =
          sampled_keeps at _ h
          (left_keeps (is_empty (remove g (writers_in x)) && is_alive x.life.kind) at (without g x) h (without_keeps g))

      dropped_keeps : (g : Guid) (at : MaybeTime) → T at → Each (writer_dropped g at x)
      unfolding writer_dropped
      dropped_keeps g at h =
          chosen Each (left_by g x) _ _ (λ e. sampled_keeps at _ h (writerless_keeps at _ h (without_keeps g)))
          (λ e. chosen Each (has g (writers_in x)) _ _ (λ d. without_keeps g) (λ d. f))

      delivery_recorded_keeps : (at : MaybeTime) → T at → Each (delivery_recorded at x)
      unfolding delivery_recorded
      delivery_recorded_keeps at h = times_keep _ x (delivery_keeps at at x.times h h f.times) f

      owner_cleared_keeps : (g : Guid) → Each (owner_cleared g x)
      unfolding owner_cleared
      owner_cleared_keeps g = cleared_keeps (owns g x.owner)

      prefix_cleared_keeps : (g : Guid) → Each (prefix_cleared g x)
      unfolding prefix_cleared
      prefix_cleared_keeps g = cleared_keeps (owns_prefix g x.owner)

      module _ (s : Sheet) where
        registered_keeps : T (if_present s.time_1) → H (stored s.holder) → Each (registered s x)
        unfolding registered
        registered_keeps t h =
            sampled_keeps (if_present s.time_1) _ t
            (holder_keeps (stored s.holder) _ h
            (life_keeps _ x
            (count_keeps _ (revived x.life) (closed.more x.life.writer_count f.life.count) (revived_keeps x.life f.life)) f))

        noted_keeps : W (set_of (insert s.guid (writers_in x))) → Each (writer_noted s.guid x)
        unfolding writer_noted
        noted_keeps w = writers_keep (set_of (insert s.guid (writers_in x))) x w f

        lifecycle_keeps : T (if_present s.time_1) → (s.holder.present ≡ true → H (stored s.holder)) → Each (lifecycle_observed s x)
        unfolding lifecycle_observed
        lifecycle_keeps t h =
            counted_keeps _
            (sampled_keeps (if_present s.time_1) _ t
            (holder_keeps _ x (chosen H s.holder.present s.holder x.holder (λ p. present-holder s.holder p (h p)) (λ p. f.holder)) f))

        admitted_keeps : T (always s.time_1) → H (stored s.holder) → Each (admitted_observed s x)
        unfolding admitted_observed
        admitted_keeps t h =
            counted_keeps _
            (sampled_keeps (always s.time_1) _ t
            (holder_keeps _ _ (chosen H x.holder.present x.holder (stored s.holder) (λ e. f.holder) (λ e. h))
            (life_keeps (revived_new x.life) x (revived_new_keeps x.life f.life) f)))

        noted_admitted_keeps : T (always s.time_1) → T (always s.time_2) → W (set_of (insert s.guid (writers_in x))) →
            Each (admitted_noted s x)
        unfolding admitted_noted
        noted_admitted_keeps t u w =
            let n = noted_keeps w in
            times_keep _ (writer_noted s.guid x)
            (delivery_keeps (always s.time_1) (always s.time_2) x.times t u f.times) n

        owned_keeps : T (always s.time_2) → O (record { present = true; guid = s.guid; strength = s.second }) → Each (ownership_tried s x)
        unfolding ownership_tried
        owned_keeps u o =
            let t = f.times in
            chosen Each (takes_over s x) (owned_from s x) x
            (λ e. record {
              life = f.life;
              times = record {
                sample = t.sample;
                delivered = t.delivered;
                filter = t.filter;
                disposed = t.disposed;
                no_writers = t.no_writers;
                owner = u;
              };
              owner = o;
              holder = f.holder;
              writers = f.writers;
            })
            (λ e. f)

        strength_keeps : O (record { present = true; guid = x.owner.guid; strength = s.second }) → Each (strength_updated s.guid s.second x)
        unfolding strength_updated
        strength_keeps o = chosen Each (owns s.guid x.owner) _ x (λ e. owner_keeps _ x o f) (λ e. f)

        module _ {U : MaybeTime → Type 0} where
          -- the times of the sheet that a call uses
          optional-1 : {c : InstanceCall} → Asked U c s x → All U (optional s.time_1) → T (if_present s.time_1)
          optional-1 a u = if-present U s.time_1 u a.time1

          pub keeps : (c : InstanceCall) → Asked U c s x → Leaves (effect c s x)
          keeps Register a = registered_keeps (optional-1 a a.times) (a.holder refl)
          keeps EnsureRegisteredLimited a = ensured_keeps
          keeps Dispose a = disposed_keeps (if_present s.time_1) (optional-1 a a.times)
          keeps Unregister a = unregistered_keeps (if_present s.time_1) (optional-1 a a.times)
          keeps UnregisterWriter a = writer_unregistered_keeps s.guid (if_present s.time_1) (optional-1 a a.times)
          keeps NoteWriter a = noted_keeps (a.writer refl)
          keeps DropWriter a = dropped_keeps s.guid (if_present s.time_1) (optional-1 a a.times)
          keeps ObserveLifecycle a = lifecycle_keeps (optional-1 a a.times) a.holder
          keeps ObserveAdmitted a = admitted_keeps (a.time1 a.times.0) (a.holder refl)
          keeps NoteAdmitted a = noted_admitted_keeps (a.time1 a.times.0) (a.time2 a.times.1.0) (a.writer refl)
          keeps RecordDelivery a = delivery_recorded_keeps (always s.time_1) (a.time1 a.times.0)
          keeps NoteTaken a = viewed_keeps false (drained s.second x) (drained_keeps s.second)
          keeps MarkViewSeen a = viewed_keeps false x f
          keeps MarkViewNew a = viewed_keeps true x f
          keeps DrainSamples a = drained_keeps s.second
          keeps AcceptUnderExclusiveOwnership a = owned_keeps (a.time2 a.times.0) a.owner
          keeps UpdateOwnerStrength a = strength_keeps a.strength
          keeps ClearOwnerForWriter a = owner_cleared_keeps s.guid
          keeps ClearOwnerForWriterPrefix a = prefix_cleared_keeps s.guid
          keeps ReleaseOwnerOf a = owner_cleared_keeps s.guid
          keeps Autopurge a = chosen Leaves (purged s x) none (some x) (λ e. tt) (λ e. f)

          pub kept : (c : InstanceCall) → Asked U c s x → (y : InstanceState) → effect c s x ≡ some y → Each y
          kept c a y e = subst (λ (o : Option InstanceState). Leaves o) e (keeps c a)

    -- codes 7 and 18 for one writer gone, and for each of several
    pub loss_keeps : (g : Guid) (at : MaybeTime) (x : InstanceState) → T at → Each x → Each (left_without g at x)
    loss_keeps g at x h f = owner_cleared_keeps (writer_dropped g at x) (dropped_keeps x f g at h) g

    pub losses_keep : (gs : List Guid) (at : MaybeTime) (x : InstanceState) → T at → Each x → Each (left_without_all gs at x)
    unfolding left_without_all
    losses_keep [] at x h f = f
    losses_keep (g ∷ gs) at x h f = losses_keep gs at (left_without g at x) h (loss_keeps g at x h f)

-- ---- the writer set alone

abbrev Any : {A : Type 0} → A → Type 0
Any a = Unit

any_each : {A : Type 0} (xs : List A) → All Any xs
any_each [] = tt
any_each (x ∷ xs) = (tt, any_each xs)

module _ (W : WriterSet → Type 0) (without : (g : Guid) (w : WriterSet) → W w → W (set_of (remove g (members w)))) where
  closed : Closed Any Any Any Any Any W
  closed =
      record {
        generation = λ n h. tt;
        more = λ n h. tt;
        some = λ n h. tt;
        fewer = λ n k h. tt;
        absent = tt;
        nobody = tt;
        without = without;
      }

  each : (x : InstanceState) → W x.writers → Each Any Any Any Any Any W x
  each x w =
      record {
        life = record { disposed = tt; no_writers = tt; count = tt; samples = tt };
        times = record { sample = tt; delivered = tt; filter = tt; disposed = tt; no_writers = tt; owner = tt };
        owner = tt;
        holder = tt;
        writers = w;
      }

  asked : (c : InstanceCall) (s : Sheet) (x : InstanceState) → ((rule c).adds_writer ≡ true → W (set_of (insert s.guid (writers_in x)))) →
      Asked Any Any Any Any Any W Any c s x
  asked c s x a =
      record { times = any_each (times_used_by c s); time1 = λ u. tt; time2 = λ u. tt; holder = λ e. tt; owner = tt; strength = tt; writer = a }

  -- what a call leaves has such a set
  pub set-kept : (c : InstanceCall) (s : Sheet) (x : InstanceState) → ((rule c).adds_writer ≡ true → W (set_of (insert s.guid (writers_in x)))) →
      W x.writers → (y : InstanceState) → effect c s x ≡ some y → W y.writers
  set-kept c s x a w y e = (kept Any Any Any Any Any W closed x (each x w) s c (asked c s x a) y e).writers

  pub set_loss : (g : Guid) (at : MaybeTime) (x : InstanceState) → W x.writers → W (left_without g at x).writers
  set_loss g at x w = (loss_keeps Any Any Any Any Any W closed g at x tt (each x w)).writers

  pub set_losses : (gs : List Guid) (at : MaybeTime) (x : InstanceState) → W x.writers → W (left_without_all gs at x).writers
  set_losses gs at x w = (losses_keep Any Any Any Any Any W closed gs at x tt (each x w)).writers

-- ---- the calls that leave it as it is

pub tried_writers : (s : Sheet) (x : InstanceState) → (ownership_tried s x).writers ≡ x.writers
unfolding ownership_tried
tried_writers s x = chosen (λ (y : InstanceState). y.writers ≡ x.writers) (takes_over s x) (owned_from s x) x (λ e. refl) (λ e. refl)

pub observed_writers : (s : Sheet) (x : InstanceState) → (admitted_observed s x).writers ≡ x.writers
unfolding admitted_observed
observed_writers s x = refl

-- ---- which calls are on every instance; the others leave theirs there

pub off : {A : Type 0} → false ≡ true → A
off e = let z : ◌≡◌ {A = ℕ} 0 1 = cc in absurd (omega arith)

pub every_cases : (P : InstanceCall → Type 0) (c : InstanceCall) → on_every c ≡ true →
    P DropWriter → P UpdateOwnerStrength → P ClearOwnerForWriter → P ClearOwnerForWriterPrefix → P Autopurge → P c
every_cases P Register e d u o p g = off e
every_cases P EnsureRegisteredLimited e d u o p g = off e
every_cases P Dispose e d u o p g = off e
every_cases P Unregister e d u o p g = off e
every_cases P UnregisterWriter e d u o p g = off e
every_cases P NoteWriter e d u o p g = off e
every_cases P DropWriter e d u o p g = d
every_cases P ObserveLifecycle e d u o p g = off e
every_cases P ObserveAdmitted e d u o p g = off e
every_cases P NoteAdmitted e d u o p g = off e
every_cases P RecordDelivery e d u o p g = off e
every_cases P NoteTaken e d u o p g = off e
every_cases P MarkViewSeen e d u o p g = off e
every_cases P MarkViewNew e d u o p g = off e
every_cases P DrainSamples e d u o p g = off e
every_cases P AcceptUnderExclusiveOwnership e d u o p g = off e
every_cases P UpdateOwnerStrength e d u o p g = u
every_cases P ClearOwnerForWriter e d u o p g = o
every_cases P ClearOwnerForWriterPrefix e d u o p g = p
every_cases P ReleaseOwnerOf e d u o p g = off e
every_cases P Autopurge e d u o p g = g

pub lasting : (c : InstanceCall) (s : Sheet) (x : InstanceState) → on_every c ≡ false → is_some (effect c s x) ≡ true
lasting Register s x e = refl
lasting EnsureRegisteredLimited s x e = refl
lasting Dispose s x e = refl
lasting Unregister s x e = refl
lasting UnregisterWriter s x e = refl
lasting NoteWriter s x e = refl
lasting DropWriter s x e = off (sym e)
lasting ObserveLifecycle s x e = refl
lasting ObserveAdmitted s x e = refl
lasting NoteAdmitted s x e = refl
lasting RecordDelivery s x e = refl
lasting NoteTaken s x e = refl
lasting MarkViewSeen s x e = refl
lasting MarkViewNew s x e = refl
lasting DrainSamples s x e = refl
lasting AcceptUnderExclusiveOwnership s x e = refl
lasting UpdateOwnerStrength s x e = off (sym e)
lasting ClearOwnerForWriter s x e = off (sym e)
lasting ClearOwnerForWriterPrefix s x e = off (sym e)
lasting ReleaseOwnerOf s x e = refl
lasting Autopurge s x e = off (sym e)
