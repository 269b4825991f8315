-- An admitted sample on one instance: what one step asks and leaves is what the next asks.
--     first_asked       a started instance is usable and has room
--     observed_asked    so does code 9 leave one
--     sampled_of        what code 10 leaves, owned, fits its record
use Prim.Native.Nat.{ℕ}
use mathlib.Core.Path.{◌≡◌, refl}
use native.Mathlib.Omega.{arith}
use lib.ListN.{length}
use Rattle.model.specs.declared.Instance.{Instance}
use Rattle.model.specs.declared.InstanceState.{InstanceState}
use Rattle.model.specs.declared.Sheet.{Sheet}
use Rattle.model.specs.Instances.{owned_from, admitted_observed, admitted_noted, writer_noted, writers_in, started_state, started}
use Rattle.model.specs.Sets.{set_of, insert}
use Rattle.model.proofs.Valid.{started-valid}
use Rattle.writer_set.specs.Places.{Sound}
use Rattle.instance_fields.specs.Usable.{Usable, Room}
use Rattle.instance_fields.proofs.UsableLaws.{usable}
use Rattle.instance_reach.specs.Turned.{with_state}
use Rattle.admission.specs.Admits.{Sampled}

pub first_asked : (s : Sheet) (x : Instance) (n : ℕ) → x ≡ started s.key n → Usable x.state × Room s.guid x.state
unfolding started started_state insert
first_asked s x n e = rw e (usable started_state refl started-valid, omega arith)

pub observed_asked : (s : Sheet) (z y : InstanceState) → y ≡ admitted_observed s z → Usable z → Room s.guid z → Sound y.writers × Room s.guid y
unfolding admitted_observed
observed_asked s z y e u r = rw e (u.writers, r)

pub sampled_of : (s : Sheet) (x : Instance) (o n y : InstanceState) → o ≡ admitted_observed s x.state → n ≡ admitted_noted s o → y ≡ owned_from s n →
    Room s.guid o → Sampled s x (with_state x y)
unfolding admitted_noted writer_noted set_of
sampled_of s x o n y e f d r =
    let few : y.writers.len ≡ length (insert s.guid (writers_in o)) = rw (d, f) in
    record { left = rw (d, f, e); few = omega arith }
