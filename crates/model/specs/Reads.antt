-- Section 7: the reads. Those of instances are lent the table and no head: the used records are those before the first
-- whose handle is 0, and `places` is `places_in` of the table, as they take either length (02, ticket 5). Each meets refusals
-- 1, 3 and 4 for what it is lent, lowest first.
use Rattle.std.specs.Prelude.{ℕ, zero, suc, ◌+◌, ◌*◌, ◌/◌, ◌%◌, ◌^◌, Bool, true, false, not, ◌&&◌, ◌||◌, cond, List, [], ◌∷◌, eqb, leb, ltb, length, take, drop}
use Rattle.std.proofs.Math.Option.{Option, none, some}
use Rattle.octets.specs.Octets.{be}
use Rattle.model.specs.declared.ChangesRead.{ChangesRead}
use Rattle.model.specs.declared.ChangesRead.TheVariants.{Is as changes_read_is, Refused as changes_read_refused}
use Rattle.model.specs.declared.Decision.{Decision}
use Rattle.model.specs.declared.Decision.TheVariants.{Is as decision_is, Refused as decision_refused}
use Rattle.model.specs.declared.FoundHandle.{FoundHandle}
use Rattle.model.specs.declared.FoundHandle.TheVariants.{Is as found_handle_is, Missing as found_handle_missing, Refused as found_handle_refused}
use Rattle.model.specs.declared.FoundTime.{FoundTime}
use Rattle.model.specs.declared.FoundTime.TheVariants.{Is as found_time_is, Missing as found_time_missing, Refused as found_time_refused}
use Rattle.model.specs.declared.Guid.{Guid}
use Rattle.model.specs.declared.Head.{Head}
use Rattle.model.specs.declared.Holder.{Holder}
use Rattle.model.specs.declared.Instance.{Instance}
use Rattle.model.specs.declared.InstanceHandle.{InstanceHandle}
use Rattle.model.specs.declared.Listing.{Listing}
use Rattle.model.specs.declared.Listing.TheVariants.{Listed as listing_listed, Refused as listing_refused}
use Rattle.model.specs.declared.LivelinessChangedStatus.{LivelinessChangedStatus}
use Rattle.model.specs.declared.MaybeTime.{MaybeTime}
use Rattle.model.specs.declared.StatusRead.{StatusRead}
use Rattle.model.specs.declared.StatusRead.TheVariants.{Is as status_read_is, Refused as status_read_refused}
use Rattle.model.specs.declared.Time.{Time}
use Rattle.model.specs.Call.{list_in}
use Rattle.model.specs.InstanceCalls.{handle_bytes}
use Rattle.model.specs.Guids.{guids_in, guid_size}
use Rattle.model.specs.InstanceRecord.{instance_size}
use Rattle.model.specs.Instances.{has_key, is_alive, writers_in}
use Rattle.model.specs.Joined.{last_delivered, last_filter}
use Rattle.model.specs.Sets.{has, is_empty}
use Rattle.model.specs.State.{figure_ok, instances_in, out_size, writer_places, lost_places}
use Rattle.model.specs.Tables.{find, pick, all}
use Rattle.model.specs.Times.{billion, time_bits, time_of, filter_admits, order_admits}
use Rattle.model.specs.WellFormed.{instance_table_ok, head_ok}
use Rattle.model.specs.Writers.{publication}

-- ---- the table alone

-- how many records stand before the first whose handle is 0
unfoldable pub used_in : ℕ → List ℕ → ℕ
used_in zero t = 0
used_in (suc n) t = cond (eqb (be 8 t 16) 0) 0 (suc (used_in n (drop instance_size t)))

abbrev pub table_length : ℕ → List ℕ → Bool
table_length places t = eqb (length t) (places * instance_size)

-- refusal 3 is about the table alone: some head makes it well formed
unfoldable pub table_ok : ℕ → List ℕ → Bool
table_ok places t = instance_table_ok places (used_in places t) (2 ^ 63) t

unfoldable pub table_of : ℕ → List ℕ → List Instance
table_of places t = instances_in (used_in places t) t

-- the number of the refusal for a lent table, 0 for none
unfoldable pub table_refusal : ℕ → List ℕ → ℕ
table_refusal places t = cond (table_length places t) (cond (table_ok places t) 0 3) 1

unfoldable pub time_refusal : ℕ → List ℕ → Time → ℕ
time_refusal places t time =
    cond (eqb (table_refusal places t) 0) (cond (ltb time.nanosec billion) 0 4) (table_refusal places t)

-- ---- the cases of each answer: 01's number, and its values where that is 0

abbrev pub decision : ℕ → Bool → Decision
decision zero b = decision_is b
decision (suc n) b = decision_refused (suc n)

abbrev pub handle_found : ℕ → Option Instance → FoundHandle
handle_found zero none = found_handle_missing
handle_found zero (some x) = found_handle_is x.handle
handle_found (suc n) x = found_handle_refused (suc n)

abbrev pub time_found_as : Bool → MaybeTime → FoundTime
time_found_as true t = found_time_is (time_of t)
time_found_as false t = found_time_missing

abbrev pub time_found : ℕ → MaybeTime → FoundTime
time_found zero t = time_found_as t.present t
time_found (suc n) t = found_time_refused (suc n)

abbrev pub listed : ℕ → ℕ → Listing
listed zero n = listing_listed n
listed (suc m) n = listing_refused (suc m)

-- ---- both filters and last_delivered_ts

unfoldable pub filter_read : ℕ → List ℕ → Guid → Time → ℕ → Decision
filter_read places t key time separation =
    decision (time_refusal places t time)
    (filter_admits (last_filter (find (has_key key) (table_of places t))) (time_bits time) separation)

unfoldable pub order_read : ℕ → List ℕ → Guid → Time → Bool → Decision
order_read places t key time by_source =
    decision (time_refusal places t time)
    (not by_source || order_admits (last_delivered (find (has_key key) (table_of places t))) (time_bits time))

unfoldable pub last_delivered_read : ℕ → List ℕ → Guid → FoundTime
last_delivered_read places t key = time_found (table_refusal places t) (last_delivered (find (has_key key) (table_of places t)))

-- ---- left_writerless and would_leave_writerless

-- a list of GUIDs is a multiple of 16 bytes, at most 4,096
abbrev pub list_ok : List ℕ → Bool
list_ok list = eqb (length list % guid_size) 0 && leb (length list) 4096

-- view NEW is 1, NOT_NEW 2
abbrev pub view_in : ℕ → Bool → Bool
view_in mask true = eqb (mask % 2) 1
view_in mask false = eqb (mask / 2 % 2) 1

abbrev pub among : List Guid → Guid → Bool
among gone g = has g gone

unfoldable pub left_with : List Guid → ℕ → Instance → Bool
left_with gone mask x =
    is_alive x.state.life.kind && (view_in mask x.state.life.view_new
    && (not (is_empty (writers_in x.state)) && all (among gone) (writers_in x.state)))

abbrev pub left_in : ℕ → List ℕ → List ℕ → ℕ → List Instance
left_in places t gone mask = pick (left_with (guids_in (length gone / guid_size) gone) mask) (table_of places t)

unfoldable pub list_refusal : ℕ → List ℕ → List ℕ → ℕ
list_refusal places t gone = cond (list_ok gone) (table_refusal places t) 1

unfoldable pub would_leave_read : ℕ → List ℕ → List ℕ → ℕ → Decision
would_leave_read places t gone mask =
    decision (list_refusal places t gone) (not (eqb (length (left_in places t gone mask)) 0))

-- the handles go to a lent Out of 4,096 bytes
unfoldable pub left_refusal : ℕ → List ℕ → List ℕ → List ℕ → ℕ
left_refusal places t gone out = cond (eqb (length out) out_size) (list_refusal places t gone) 1

unfoldable pub left_read : ℕ → List ℕ → List ℕ → ℕ → List ℕ → Listing
left_read places t gone mask out = listed (left_refusal places t gone out) (length (left_in places t gone mask))

unfoldable pub left_out : ℕ → List ℕ → List ℕ → ℕ → List ℕ → List ℕ
left_out places t gone mask out =
    cond (eqb (left_refusal places t gone out) 0) (list_in (handle_bytes (left_in places t gone mask)) out) out

-- ---- next_handle_after

abbrev pub first : List Instance → Option Instance
first [] = none
first (x ∷ xs) = some x

unfoldable pub after : ℕ → List Instance → Option Instance
after h [] = none
after h (x ∷ xs) = cond (eqb x.handle.0 h) (first xs) (after h xs)

-- nil gives the first, an unknown handle none
unfoldable pub next_handle_read : ℕ → List ℕ → InstanceHandle → FoundHandle
next_handle_read places t h =
    handle_found (table_refusal places t) (cond (eqb h.0 0) (first (table_of places t)) (after h.0 (table_of places t)))

-- ---- the walker: the instance at a position, in key order

unfoldable pub walk_read : ℕ → List ℕ → ℕ → FoundHandle
walk_read places t position = handle_found (table_refusal places t) (first (drop position (table_of places t)))

-- ---- the writer lookup ("carriage lookup"): the first alive instance in key order whose set has the GUID, none exactly if
-- there is none (02, ticket 6)

abbrev pub writes : Guid → Instance → Bool
writes g x = is_alive x.state.life.kind && has g (writers_in x.state)

abbrev pub first_written : Guid → List Instance → Option Instance
first_written g xs = find (writes g) xs

unfoldable pub lookup_read : ℕ → List ℕ → Guid → FoundHandle
lookup_read places t g = handle_found (table_refusal places t) (first_written g (table_of places t))

-- ---- the holder in force: a part of the record where stored, else, and where the table would be refused, all of the
-- offered bytes

abbrev pub stored_or : List ℕ → Holder → List ℕ
stored_or offered h = cond h.present (take h.len h.bytes) offered

abbrev pub holder_or : List ℕ → Option Instance → List ℕ
holder_or offered none = offered
holder_or offered (some x) = stored_or offered x.state.holder

unfoldable pub holder_in_force : ℕ → List ℕ → Guid → List ℕ → List ℕ
holder_in_force places t key offered =
    cond (eqb (table_refusal places t) 0) (holder_or offered (find (has_key key) (table_of places t))) offered

-- ---- status and changes: the head alone, refused as 3 exactly if its figure is another or no buffers make it well formed

unfoldable pub head_alone : Head → Bool
head_alone h =
    figure_ok h.places
    && (head_ok h
    && (leb h.instance_count h.places && (ltb h.instance_count h.next_handle.0
    && (leb h.writer_count writer_places && (leb (h.alive + h.not_alive) h.writer_count
    && leb h.lost_count lost_places)))))

abbrev pub head_status : Head → LivelinessChangedStatus
head_status h =
    record {
      alive_count = h.alive;
      not_alive_count = h.not_alive;
      alive_count_change = h.alive_change;
      not_alive_count_change = h.not_alive_change;
      last_publication_handle = publication h.last_writer;
    }

unfoldable pub status_read : Head → StatusRead
status_read h = cond (head_alone h) (status_read_is (head_status h)) (status_read_refused 3)

unfoldable pub changes_read : Head → ChangesRead
changes_read h = cond (head_alone h) (changes_read_is h.changes) (changes_read_refused 3)
