-- Section 2: well formed. First what is asked of one record, then of each table, then of head and buffers together.
use Rattle.std.specs.Prelude.{ℕ, zero, suc, ◌*◌, ◌%◌, ◌^◌, Bool, true, false, not, ◌&&◌, ◌||◌, cond, List, [], ◌∷◌, eqb, leb, ltb, ℤ, pos, negsuc, ◌-ℤ◌, length, drop}
use Rattle.std.specs.Int.Signed.{le_z}
use Rattle.octets.specs.Octets.{be}
use Rattle.octets.specs.Zeros.{all_zero}
use Rattle.model.specs.declared.Guid.{Guid}
use Rattle.model.specs.declared.Head.{Head}
use Rattle.model.specs.declared.Holder.{Holder}
use Rattle.model.specs.declared.Instance.{Instance}
use Rattle.model.specs.declared.InstanceState.{InstanceState}
use Rattle.model.specs.declared.Life.{Life}
use Rattle.model.specs.declared.Liveliness.{Liveliness}
use Rattle.model.specs.declared.MaybeLease.{MaybeLease}
use Rattle.model.specs.declared.MaybeOwner.{MaybeOwner}
use Rattle.model.specs.declared.MaybeTime.{MaybeTime}
use Rattle.model.specs.declared.Times.{Times}
use Rattle.model.specs.declared.Writer.{Writer}
use Rattle.model.specs.declared.WriterSet.{WriterSet}
use Rattle.model.specs.declared.WriterState.{WriterState}
use Rattle.model.specs.declared.WriterState.TheVariants.{Unasserted, Alive, NotAlive, Departed}
use Rattle.model.specs.Guids.{num, same, nil, guid_size}
use Rattle.model.specs.InstanceRecord.{instance_size, holder_places, flags_at}
use Rattle.model.specs.Sets.{set_places, members}
use Rattle.model.specs.State.{Lent, State, instance_key, writer_key, writer_places, lost_places, alive_count, not_alive_count, instances_in, writers_in}
use Rattle.model.specs.Tables.{all, rising}
use Rattle.model.specs.Times.{billion}
use Rattle.model.specs.WriterRecord.{writer_size, writer_flags_at, liveliness_number}

-- ---- one instance: fields marked absent and unused bytes are zero

-- nanoseconds below 10^9
unfoldable pub time_ok : MaybeTime → Bool
time_ok t = cond t.present (ltb t.nanosec billion) (eqb t.sec 0 && eqb t.nanosec 0)

unfoldable pub times_ok : Times → Bool
times_ok t =
    time_ok t.last_sample && (time_ok t.last_delivered && (time_ok t.last_filter
    && (time_ok t.disposed_at && (time_ok t.no_writers_at && time_ok t.owner_at))))

unfoldable pub owner_ok : MaybeOwner → Bool
owner_ok o = o.present || (same o.guid nil && eqb o.strength 0)

-- up to 144 bytes
unfoldable pub holder_ok : Holder → Bool
holder_ok h = cond h.present (leb h.len holder_places && all_zero (drop h.len h.bytes)) (eqb h.len 0 && all_zero h.bytes)

abbrev pub is_nil : Guid → Bool
is_nil g = same g nil

-- up to 16 GUIDs, strictly rising
unfoldable pub set_ok : WriterSet → Bool
set_ok w = leb w.len set_places && (rising num (members w) && all is_nil (drop w.len w.items))

-- generations not negative
unfoldable pub life_ok : Life → Bool
life_ok l = ltb l.disposed_generations (2 ^ 31) && ltb l.no_writers_generations (2 ^ 31)

unfoldable pub instance_state_ok : InstanceState → Bool
instance_state_ok x =
    life_ok x.life && (times_ok x.times && (owner_ok x.owner && (holder_ok x.holder && set_ok x.writers)))

abbrev pub instance_ok : Instance → Bool
instance_ok x = instance_state_ok x.state

-- ---- the instances: keys strictly rising, handles distinct, from 1 to below the next

abbrev pub other_handle : ℕ → Instance → Bool
other_handle h x = not (eqb x.handle.0 h)

unfoldable pub handles_distinct : List Instance → Bool
handles_distinct [] = true
handles_distinct (x ∷ xs) = all (other_handle x.handle.0) xs && handles_distinct xs

abbrev pub handle_below : ℕ → Instance → Bool
handle_below next x = leb 1 x.handle.0 && ltb x.handle.0 next

unfoldable pub instances_ok : ℕ → List Instance → Bool
instances_ok next xs =
    rising instance_key xs && (all instance_ok xs && (all (handle_below next) xs && handles_distinct xs))

-- kind, the two top bits of the flags, is no 3 in any of the first n records: 3 is from 49152 = 3 · 2^14 on
unfoldable pub kinds_ok : ℕ → List ℕ → Bool
kinds_ok zero t = true
kinds_ok (suc n) t = ltb (flags_at t) 49152 && kinds_ok n (drop instance_size t)

-- the instance table alone: at most as many records as places, zeros behind them
unfoldable pub instance_table_ok : ℕ → ℕ → ℕ → List ℕ → Bool
instance_table_ok places count next t =
    leb count places && (all_zero (drop (count * instance_size) t)
    && (kinds_ok count t && instances_ok next (instances_in count t)))

-- ---- one writer: clocks and leases below 2^62; a departed record has only GUID and state

abbrev pub clock_ok : ℕ → Bool
clock_ok n = ltb n (2 ^ 62)

unfoldable pub lease_ok : MaybeLease → Bool
lease_ok l = cond l.present (clock_ok l.nanos) (eqb l.nanos 0)

abbrev pub is_departed : WriterState → Bool
is_departed Unasserted = false
is_departed Alive = false
is_departed NotAlive = false
is_departed Departed = true

abbrev pub only_state : Liveliness → Bool
only_state l = eqb (liveliness_number l.kind) 0 && (not l.lease.present && eqb l.last_assertion 0)

unfoldable pub writer_ok : Writer → Bool
writer_ok w =
    lease_ok w.liveliness.lease && (clock_ok w.liveliness.last_assertion
    && (not (is_departed w.liveliness.state) || only_state w.liveliness))

-- ---- the writers: GUIDs strictly rising

unfoldable pub writers_ok : List Writer → Bool
writers_ok ws = rising writer_key ws && all writer_ok ws

-- kind, the two top bits of byte 16, is no 3 (from 192 = 3 · 2^6 on), and its three spare bits and the seven unused bytes
-- are zero, in each of the first n records
unfoldable pub spares_ok : ℕ → List ℕ → Bool
spares_ok zero t = true
spares_ok (suc n) t =
    (ltb (writer_flags_at t) 192 && (eqb (writer_flags_at t % 8) 0 && eqb (be 7 t 17) 0)) && spares_ok n (drop writer_size t)

unfoldable pub writer_table_ok : ℕ → List ℕ → Bool
writer_table_ok count t =
    leb count writer_places && (all_zero (drop (count * writer_size) t) && (spares_ok count t && writers_ok (writers_in count t)))

-- ---- Lost

unfoldable pub lost_ok : ℕ → List ℕ → Bool
lost_ok count t = leb count lost_places && all_zero (drop (count * guid_size) t)

-- ---- the head

-- within ±2^30, both ends included
unfoldable pub within : ℤ → Bool
within z = le_z (negsuc 1_073_741_823) z && le_z z (pos 1_073_741_824)

-- next handle 1 to 2^63; count minus change within ±2^30 for both counts
unfoldable pub head_ok : Head → Bool
head_ok h =
    (leb 1 h.next_handle.0 && leb h.next_handle.0 (2 ^ 63))
    && (within (pos h.alive -ℤ h.alive_change) && within (pos h.not_alive -ℤ h.not_alive_change))

-- both counts agree with the records
unfoldable pub counts_ok : Head → List Writer → Bool
counts_ok h ws = eqb h.alive (alive_count ws) && eqb h.not_alive (not_alive_count ws)

-- the whole, for the number of places that the head says
unfoldable pub well_formed : ℕ → Lent → Bool
well_formed places l =
    eqb l.head.places places
    && (head_ok l.head
    && (instance_table_ok places l.head.instance_count l.head.next_handle.0 l.pens
    && (writer_table_ok l.head.writer_count l.writers
    && (lost_ok l.head.lost_count l.lost
    && counts_ok l.head (writers_in l.head.writer_count l.writers)))))

-- ---- the same, asked of the state as records

unfoldable pub valid : ℕ → State → Bool
valid places st =
    ((leb 1 st.next_handle && leb st.next_handle (2 ^ 63))
    && (within st.acknowledged_alive && within st.acknowledged_not_alive))
    && ((leb (length st.instances) places && instances_ok st.next_handle st.instances)
    && ((leb (length st.writers) writer_places && writers_ok st.writers) && leb (length st.lost) lost_places))
