-- What a valid instance is.
--     valid_parts       each of its parts is valid
--     started-valid     a started instance is valid
use Prim.Native.Nat.{ℕ, ◌^◌}
use mathlib.Core.Bool.{true}
use mathlib.Core.Path.{◌≡◌, refl}
use lib.Dec.{ltb}
use Rattle.octets.specs.Zeros.{all_zero}
use Rattle.model.specs.declared.Holder.{Holder}
use Rattle.model.specs.declared.InstanceState.{InstanceState}
use Rattle.model.specs.declared.MaybeOwner.{MaybeOwner}
use Rattle.model.specs.declared.MaybeTime.{MaybeTime}
use Rattle.model.specs.declared.WriterSet.{WriterSet}
use Rattle.model.specs.Guids.{num}
use Rattle.model.specs.Instances.{started_state}
use Rattle.model.specs.Tables.{all, rising}
use Rattle.model.specs.WellFormed.{time_ok, times_ok, owner_ok, holder_ok, set_ok, life_ok, instance_state_ok}
use Rattle.model.proofs.Keeps.{Each}
use Rattle.model.proofs.Tests.{both}

-- ---- the parts of a valid instance

abbrev Generation : ℕ → Type 0
Generation n = ltb n (2 ^ 31) ≡ true

abbrev Any : ℕ → Type 0
Any n = Unit

abbrev Time : MaybeTime → Type 0
Time t = time_ok t ≡ true

abbrev Owner : MaybeOwner → Type 0
Owner o = owner_ok o ≡ true

abbrev Held : Holder → Type 0
Held h = holder_ok h ≡ true

abbrev Set : WriterSet → Type 0
Set w = set_ok w ≡ true

abbrev Valid : InstanceState → Type 0
Valid x = Each Generation Any Time Owner Held Set x

pub valid_parts : (x : InstanceState) → instance_state_ok x ≡ true → Valid x
unfolding instance_state_ok life_ok times_ok
valid_parts x e =
    let l = both (life_ok x.life) _ e in
    let t = both (times_ok x.times) _ l.1 in
    let o = both (owner_ok x.owner) _ t.1 in
    let h = both (holder_ok x.holder) _ o.1 in
    let g = both (ltb x.life.disposed_generations (2 ^ 31)) _ l.0 in
    let t1 = both (time_ok x.times.last_sample) _ t.0 in
    let t2 = both (time_ok x.times.last_delivered) _ t1.1 in
    let t3 = both (time_ok x.times.last_filter) _ t2.1 in
    let t4 = both (time_ok x.times.disposed_at) _ t3.1 in
    let t5 = both (time_ok x.times.no_writers_at) _ t4.1 in record {
      life = record { disposed = g.0; no_writers = g.1; count = tt; samples = tt };
      times = record { sample = t1.0; delivered = t2.0; filter = t3.0; disposed = t4.0; no_writers = t5.0; owner = t5.1 };
      owner = o.0;
      holder = h.0;
      writers = h.1;
    }

-- ---- a started instance

pub started-valid : instance_state_ok started_state ≡ true
unfolding instance_state_ok life_ok times_ok time_ok owner_ok holder_ok set_ok all_zero all rising num started_state
started-valid = refl
