-- Section 3: what each of the calls 1 to 21 does to an instance that it reaches, in the order of the codes; the tables of the
-- calls, `effect` and `rule`, close the file. Limits stand in InstanceCalls.antt, filters, order, deadline and purge delays in Times.antt.
use Rattle.std.specs.Prelude.{ℕ, ◌+◌, ◌-◌, min, max, Bool, true, false, not, ◌&&◌, ◌||◌, cond, List, eqb, ltb, replicate}
use Rattle.std.proofs.Math.Option.{Option, none, some}
use Rattle.model.specs.declared.Guid.{Guid}
use Rattle.model.specs.declared.Holder.{Holder}
use Rattle.model.specs.declared.Instance.{Instance}
use Rattle.model.specs.declared.InstanceHandle.{InstanceHandle}
use Rattle.model.specs.declared.InstanceState.{InstanceState}
use Rattle.model.specs.declared.InstanceStateKind.{InstanceStateKind}
use Rattle.model.specs.declared.InstanceStateKind.TheVariants.{Alive, NotAliveDisposed, NotAliveNoWriters}
use Rattle.model.specs.declared.Life.{Life}
use Rattle.model.specs.declared.MaybeOwner.{MaybeOwner}
use Rattle.model.specs.declared.MaybeTime.{MaybeTime}
pub use Rattle.model.specs.declared.Reach.{Reach}
pub use Rattle.model.specs.declared.Reach.TheVariants.{ByKey as by_key, StartingByKey as starting_by_key, StartingWithin as starting_within, ByHandle as by_handle, Every as every}
pub use Rattle.model.specs.declared.Report.{Report}
pub use Rattle.model.specs.declared.Report.TheVariants.{Nothing as Unreported, Left, Owner, Prefix, Purge}
pub use Rattle.model.specs.declared.Rule.{Rule}
pub use Rattle.model.specs.declared.Says.{Says}
pub use Rattle.model.specs.declared.Says.TheVariants.{Nothing, Handle, Known, Samples, Info, Accepted, Released}
use Rattle.model.specs.declared.Sheet.{Sheet}
pub use Rattle.model.specs.declared.FieldUse.{FieldUse}
pub use Rattle.model.specs.declared.FieldUse.TheVariants.{Never, IfPresent, Always}
use Rattle.model.specs.declared.Times.{Times}
use Rattle.model.specs.declared.WriterSet.{WriterSet}
use Rattle.model.specs.Calls.{InstanceCall, register, ensure_registered_limited, dispose, unregister, unregister_writer, note_writer, drop_writer, observe_lifecycle, observe_admitted, note_admitted, record_delivery, note_taken, mark_view_seen, mark_view_new, drain_samples, accept_under_exclusive_ownership, update_owner_strength, clear_owner_for_writer, clear_owner_for_writer_prefix, release_owner_of, autopurge}
use Rattle.model.specs.Guids.{less, same, same_prefix, nil}
use Rattle.model.specs.Handles.{handle}
use Rattle.model.specs.InstanceRecord.{holder_places}
use Rattle.model.specs.Sets.{members, set_of, empty_set, has, insert, remove, is_empty}
use Rattle.model.specs.Times.{raised, no_time, always, if_present, given, deadline_missed, purge_due}

-- ---- an instance with one group of its fields changed

abbrev pub with_life : Life → InstanceState → InstanceState
with_life l x = record { life = l; times = x.times; owner = x.owner; holder = x.holder; writers = x.writers }

abbrev pub with_times : Times → InstanceState → InstanceState
with_times t x = record { life = x.life; times = t; owner = x.owner; holder = x.holder; writers = x.writers }

abbrev pub with_owner : MaybeOwner → InstanceState → InstanceState
with_owner o x = record { life = x.life; times = x.times; owner = o; holder = x.holder; writers = x.writers }

abbrev pub with_holder : Holder → InstanceState → InstanceState
with_holder h x = record { life = x.life; times = x.times; owner = x.owner; holder = h; writers = x.writers }

abbrev pub with_writers : WriterSet → InstanceState → InstanceState
with_writers w x = record { life = x.life; times = x.times; owner = x.owner; holder = x.holder; writers = w }

abbrev pub with_kind : InstanceStateKind → Life → Life
with_kind k l =
    record {
      kind = k;
      view_new = l.view_new;
      disposed_generations = l.disposed_generations;
      no_writers_generations = l.no_writers_generations;
      writer_count = l.writer_count;
      samples = l.samples;
    }

abbrev pub with_view : Bool → Life → Life
with_view v l =
    record {
      kind = l.kind;
      view_new = v;
      disposed_generations = l.disposed_generations;
      no_writers_generations = l.no_writers_generations;
      writer_count = l.writer_count;
      samples = l.samples;
    }

abbrev pub with_generations : ℕ → ℕ → Life → Life
with_generations disposed no_writers l =
    record {
      kind = l.kind;
      view_new = l.view_new;
      disposed_generations = disposed;
      no_writers_generations = no_writers;
      writer_count = l.writer_count;
      samples = l.samples;
    }

abbrev pub with_writer_count : ℕ → Life → Life
with_writer_count n l =
    record {
      kind = l.kind;
      view_new = l.view_new;
      disposed_generations = l.disposed_generations;
      no_writers_generations = l.no_writers_generations;
      writer_count = n;
      samples = l.samples;
    }

abbrev pub with_samples : ℕ → Life → Life
with_samples n l =
    record {
      kind = l.kind;
      view_new = l.view_new;
      disposed_generations = l.disposed_generations;
      no_writers_generations = l.no_writers_generations;
      writer_count = l.writer_count;
      samples = n;
    }

abbrev pub with_last_sample : MaybeTime → Times → Times
with_last_sample at t =
    record {
      last_sample = at;
      last_delivered = t.last_delivered;
      last_filter = t.last_filter;
      disposed_at = t.disposed_at;
      no_writers_at = t.no_writers_at;
      owner_at = t.owner_at;
    }

abbrev pub with_delivery : MaybeTime → MaybeTime → Times → Times
with_delivery delivered filtered t =
    record {
      last_sample = t.last_sample;
      last_delivered = delivered;
      last_filter = filtered;
      disposed_at = t.disposed_at;
      no_writers_at = t.no_writers_at;
      owner_at = t.owner_at;
    }

abbrev pub with_disposed_at : MaybeTime → Times → Times
with_disposed_at at t =
    record {
      last_sample = t.last_sample;
      last_delivered = t.last_delivered;
      last_filter = t.last_filter;
      disposed_at = at;
      no_writers_at = t.no_writers_at;
      owner_at = t.owner_at;
    }

abbrev pub with_no_writers_at : MaybeTime → Times → Times
with_no_writers_at at t =
    record {
      last_sample = t.last_sample;
      last_delivered = t.last_delivered;
      last_filter = t.last_filter;
      disposed_at = t.disposed_at;
      no_writers_at = at;
      owner_at = t.owner_at;
    }

abbrev pub with_owner_at : MaybeTime → Times → Times
with_owner_at at t =
    record {
      last_sample = t.last_sample;
      last_delivered = t.last_delivered;
      last_filter = t.last_filter;
      disposed_at = t.disposed_at;
      no_writers_at = t.no_writers_at;
      owner_at = at;
    }

-- ---- kinds

abbrev pub is_alive : InstanceStateKind → Bool
is_alive Alive = true
is_alive NotAliveDisposed = false
is_alive NotAliveNoWriters = false

abbrev pub is_disposed : InstanceStateKind → Bool
is_disposed Alive = false
is_disposed NotAliveDisposed = true
is_disposed NotAliveNoWriters = false

-- ---- the parts of which the calls are made

-- one more, stopping at top
abbrev pub risen : ℕ → ℕ → ℕ
risen top n = min (n + 1) top

-- 2^31 - 1, where a generation stops, and 2^32 - 1, where writer_count and samples do
abbrev pub top_generation : ℕ
top_generation = 2_147_483_647

abbrev pub top_count : ℕ
top_count = 4_294_967_295

-- codes 1, 2 and 9 revive: alive, and one more in the matching generation; an alive instance stays as it is
abbrev pub revived_from : InstanceStateKind → Life → Life
revived_from Alive l = l
revived_from NotAliveDisposed l =
    with_kind Alive (with_generations (risen top_generation l.disposed_generations) l.no_writers_generations l)
revived_from NotAliveNoWriters l =
    with_kind Alive (with_generations l.disposed_generations (risen top_generation l.no_writers_generations) l)

unfoldable pub revived : Life → Life
revived l = revived_from l.kind l

-- codes 2 and 9, reviving, set view-new
unfoldable pub revived_new : Life → Life
revived_new l = with_view (not (is_alive l.kind) || l.view_new) (revived l)

-- a given time goes to last sample
abbrev pub sampled_at : MaybeTime → InstanceState → InstanceState
sampled_at at x = with_times (with_last_sample (given at x.times.last_sample) x.times) x

-- no writers are left: the kind, and a given time as no_writers_at
abbrev pub writerless : MaybeTime → InstanceState → InstanceState
writerless at x =
    with_times (with_no_writers_at (given at x.times.no_writers_at) x.times) (with_life (with_kind NotAliveNoWriters x.life) x)

-- the sheet's holder, given
abbrev pub stored : Holder → Holder
stored h = record { present = true; len = h.len; bytes = h.bytes }

-- one more sample
abbrev pub counted : InstanceState → InstanceState
counted x = with_life (with_samples (risen top_count x.life.samples) x.life) x

abbrev pub with_set : List Guid → InstanceState → InstanceState
with_set s x = with_writers (set_of s) x

abbrev pub writers_in : InstanceState → List Guid
writers_in x = members x.writers

-- ---- codes 1 and 2

unfoldable pub registered : Sheet → InstanceState → InstanceState
registered s x =
    sampled_at (if_present s.time_1)
    (with_holder (stored s.holder)
    (with_life (with_writer_count (risen top_count x.life.writer_count) (revived x.life)) x))

-- writer_count is 1 at least
unfoldable pub ensured : InstanceState → InstanceState
ensured x = with_life (with_writer_count (max x.life.writer_count 1) (revived_new x.life)) x

-- ---- codes 3, 4 and 5

unfoldable pub disposed : MaybeTime → InstanceState → InstanceState
disposed at x =
    sampled_at at
    (with_times (with_disposed_at (given at x.times.disposed_at) x.times) (with_life (with_kind NotAliveDisposed x.life) x))

-- writer_count falls, stopping at 0; at 0 an instance not disposed becomes no-writers
abbrev pub counted_down : InstanceState → InstanceState
counted_down x = with_life (with_writer_count (x.life.writer_count - 1) x.life) x

unfoldable pub unregistered : MaybeTime → InstanceState → InstanceState
unregistered at x =
    sampled_at at
    (cond (eqb (x.life.writer_count - 1) 0 && not (is_disposed x.life.kind)) (writerless at (counted_down x)) (counted_down x))

-- the GUID is taken out; an alive instance whose set is then empty becomes no-writers, even if the GUID was not in it
abbrev pub without : Guid → InstanceState → InstanceState
without g x = with_set (remove g (writers_in x)) x

unfoldable pub writer_unregistered : Guid → MaybeTime → InstanceState → InstanceState
writer_unregistered g at x =
    sampled_at at
    (cond (is_empty (remove g (writers_in x)) && is_alive x.life.kind) (writerless at (without g x)) (without g x))

-- ---- codes 6 and 7

unfoldable pub writer_noted : Guid → InstanceState → InstanceState
writer_noted g x = with_set (insert g (writers_in x)) x

-- the call takes its last writer from an alive instance: it is left writerless, and listed
unfoldable pub left_by : Guid → InstanceState → Bool
left_by g x = has g (writers_in x) && (is_empty (remove g (writers_in x)) && is_alive x.life.kind)

-- the GUID is taken out where it is; times are given only to an instance that is left writerless
unfoldable pub writer_dropped : Guid → MaybeTime → InstanceState → InstanceState
writer_dropped g at x =
    cond (left_by g x) (sampled_at at (writerless at (without g x))) (cond (has g (writers_in x)) (without g x) x)

-- ---- codes 8, 9, 10 and 11

-- a given holder replaces the one there; nothing is revived
unfoldable pub lifecycle_observed : Sheet → InstanceState → InstanceState
lifecycle_observed s x =
    counted (sampled_at (if_present s.time_1) (with_holder (cond s.holder.present s.holder x.holder) x))

-- the holder is stored where none is
unfoldable pub admitted_observed : Sheet → InstanceState → InstanceState
admitted_observed s x =
    counted
    (sampled_at (always s.time_1)
    (with_holder (cond x.holder.present x.holder (stored s.holder)) (with_life (revived_new x.life) x)))

-- time 1 is the order's, time 2 the filter's
unfoldable pub admitted_noted : Sheet → InstanceState → InstanceState
admitted_noted s x =
    with_times (with_delivery (always s.time_1) (always s.time_2) x.times) (writer_noted s.guid x)

unfoldable pub delivery_recorded : MaybeTime → InstanceState → InstanceState
delivery_recorded at x = with_times (with_delivery at at x.times) x

-- ---- codes 12 to 15

unfoldable pub viewed : Bool → InstanceState → InstanceState
viewed v x = with_life (with_view v x.life) x

-- n samples fewer, stopping at 0
unfoldable pub drained : ℕ → InstanceState → InstanceState
drained n x = with_life (with_samples (x.life.samples - n) x.life) x

-- ---- codes 16 to 20: ownership

abbrev pub no_owner : MaybeOwner
no_owner = record { present = false; guid = nil; strength = 0 }

abbrev pub owns : Guid → MaybeOwner → Bool
owns g o = o.present && same o.guid g

-- no owner, same owner, greater strength, or equal strength and lower GUID takes over
unfoldable pub outbids : Guid → ℕ → MaybeOwner → Bool
outbids g strength o =
    not o.present || (same o.guid g || (ltb (raised o.strength) (raised strength)
    || (eqb (raised o.strength) (raised strength) && less g o.guid)))

-- so does a missed deadline
unfoldable pub takes_over : Sheet → InstanceState → Bool
takes_over s x =
    outbids s.guid s.second x.owner
    || (s.deadline_present && deadline_missed x.times.owner_at s.time_2 s.b)

abbrev pub owned_from : Sheet → InstanceState → InstanceState
owned_from s x =
    with_times (with_owner_at (always s.time_2) x.times)
    (with_owner record { present = true; guid = s.guid; strength = s.second } x)

unfoldable pub ownership_tried : Sheet → InstanceState → InstanceState
ownership_tried s x = cond (takes_over s x) (owned_from s x) x

unfoldable pub strength_updated : Guid → ℕ → InstanceState → InstanceState
strength_updated g strength x =
    cond (owns g x.owner) (with_owner record { present = true; guid = x.owner.guid; strength = strength } x) x

-- clearing keeps owner_at
unfoldable pub owner_cleared : Guid → InstanceState → InstanceState
owner_cleared g x = cond (owns g x.owner) (with_owner no_owner x) x

abbrev pub owns_prefix : Guid → MaybeOwner → Bool
owns_prefix g o = o.present && same_prefix o.guid g

unfoldable pub prefix_cleared : Guid → InstanceState → InstanceState
prefix_cleared g x = cond (owns_prefix g x.owner) (with_owner no_owner x) x

-- ---- code 21

-- A is the disposed delay, B the no-writer delay, time 2 is now
abbrev pub purged_as : InstanceStateKind → Sheet → Times → Bool
purged_as Alive s t = false
purged_as NotAliveDisposed s t = purge_due t.disposed_at s.time_2 s.a
purged_as NotAliveNoWriters s t = purge_due t.no_writers_at s.time_2 s.b

unfoldable pub purged : Sheet → InstanceState → Bool
purged s x = purged_as x.life.kind s x.times

-- ---- what each call does to an instance that it reaches; none where it purges it

abbrev pub effect : InstanceCall → Sheet → InstanceState → Option InstanceState
effect register s x = some (registered s x)
effect ensure_registered_limited s x = some (ensured x)
effect dispose s x = some (disposed (if_present s.time_1) x)
effect unregister s x = some (unregistered (if_present s.time_1) x)
effect unregister_writer s x = some (writer_unregistered s.guid (if_present s.time_1) x)
effect note_writer s x = some (writer_noted s.guid x)
effect drop_writer s x = some (writer_dropped s.guid (if_present s.time_1) x)
effect observe_lifecycle s x = some (lifecycle_observed s x)
effect observe_admitted s x = some (admitted_observed s x)
effect note_admitted s x = some (admitted_noted s x)
effect record_delivery s x = some (delivery_recorded (always s.time_1) x)
effect note_taken s x = some (viewed false (drained s.second x))
effect mark_view_seen s x = some (viewed false x)
effect mark_view_new s x = some (viewed true x)
effect drain_samples s x = some (drained s.second x)
effect accept_under_exclusive_ownership s x = some (ownership_tried s x)
effect update_owner_strength s x = some (strength_updated s.guid s.second x)
effect clear_owner_for_writer s x = some (owner_cleared s.guid x)
effect clear_owner_for_writer_prefix s x = some (prefix_cleared s.guid x)
effect release_owner_of s x = some (owner_cleared s.guid x)
effect autopurge s x = cond (purged s x) none (some x)

-- ---- the table of the calls: what each is as a call. Section 6: it reaches by key, by handle, or as a call on every instance.
-- Of those by key some start an absent instance, two of them up to a limit. Two calls put a GUID into the writer set. Section
-- 2: it takes the sheet's times and holder never, by their presence bit, or always. Section 3: what it answers

-- a call on one instance: its reach, what it takes of time 1, time 2 and holder, and what it answers
abbrev pub on_one : Reach → FieldUse → FieldUse → FieldUse → Says → Rule
on_one r t u h y = record { reach = r; adds_writer = false; time_1 = t; time_2 = u; holder = h; says = y; reports = Unreported }

-- the same of one that puts a GUID into the writer set
abbrev pub adding : Reach → FieldUse → FieldUse → FieldUse → Says → Rule
adding r t u h y = record { reach = r; adds_writer = true; time_1 = t; time_2 = u; holder = h; says = y; reports = Unreported }

-- a call on every instance: what it takes of time 1 and time 2, and what it reports
abbrev pub on_all : FieldUse → FieldUse → Report → Rule
on_all t u k = record { reach = every; adds_writer = false; time_1 = t; time_2 = u; holder = Never; says = Nothing; reports = k }

abbrev pub rule : InstanceCall → Rule
rule register = on_one starting_by_key IfPresent Never Always Handle
rule ensure_registered_limited = on_one starting_within Never Never Never Handle
rule dispose = on_one by_handle IfPresent Never Never Known
rule unregister = on_one by_handle IfPresent Never Never Known
rule unregister_writer = on_one by_handle IfPresent Never Never Known
rule note_writer = adding by_handle Never Never Never Nothing
rule drop_writer = on_all IfPresent Never Left
rule observe_lifecycle = on_one starting_by_key IfPresent Never IfPresent Handle
rule observe_admitted = on_one starting_within Always Never Always Samples
rule note_admitted = adding by_key Always Always Never Info
rule record_delivery = on_one by_key Always Never Never Nothing
rule note_taken = on_one by_handle Never Never Never Nothing
rule mark_view_seen = on_one by_handle Never Never Never Nothing
rule mark_view_new = on_one by_key Never Never Never Known
rule drain_samples = on_one by_handle Never Never Never Nothing
rule accept_under_exclusive_ownership = on_one by_key Never Always Never Accepted
rule update_owner_strength = on_all Never Never Unreported
rule clear_owner_for_writer = on_all Never Never Owner
rule clear_owner_for_writer_prefix = on_all Never Never Prefix
rule release_owner_of = on_one by_key Never Never Never Released
rule autopurge = on_all Never Always Purge

-- ---- how a call reaches

abbrev pub has_key : Guid → Instance → Bool
has_key k x = same x.key k

abbrev pub has_handle : InstanceHandle → Instance → Bool
has_handle h x = eqb x.handle.0 h.0

abbrev pub reaches_by : Reach → Sheet → Instance → Bool
reaches_by by_key s x = has_key s.key x
reaches_by starting_by_key s x = has_key s.key x
reaches_by starting_within s x = has_key s.key x
reaches_by by_handle s x = has_handle s.handle x
reaches_by every s x = true

abbrev pub reaches : InstanceCall → Sheet → Instance → Bool
reaches c s x = reaches_by (rule c).reach s x

abbrev pub starts_by : Reach → Bool
starts_by by_key = false
starts_by starting_by_key = true
starts_by starting_within = true
starts_by by_handle = false
starts_by every = false

abbrev pub limited_by : Reach → Bool
limited_by by_key = false
limited_by starting_by_key = false
limited_by starting_within = true
limited_by by_handle = false
limited_by every = false

abbrev pub is_every : Reach → Bool
is_every by_key = false
is_every starting_by_key = false
is_every starting_within = false
is_every by_handle = false
is_every every = true

-- codes 7, 17, 18, 19 and 21
abbrev pub on_every : InstanceCall → Bool
on_every c = is_every (rule c).reach

-- section 6: a started instance: alive, view-new, all else zero or absent
unfoldable pub started_state : InstanceState
started_state =
    record {
      life = record { kind = Alive; view_new = true; disposed_generations = 0; no_writers_generations = 0; writer_count = 0; samples = 0 };
      times = record { last_sample = no_time; last_delivered = no_time; last_filter = no_time; disposed_at = no_time; no_writers_at = no_time; owner_at = no_time };
      owner = no_owner;
      holder = record { present = false; len = 0; bytes = replicate holder_places 0 };
      writers = empty_set;
    }

unfoldable pub started : Guid → ℕ → Instance
started key h = record { key = key; handle = handle h; state = started_state }
