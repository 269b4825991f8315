-- A call that acts on one instance.
--     insert-known, room           a writer has room where it is known, or where fewer than 16 are
--     crowds-full                  the test of it, by the set's own length
--     acted_of                     what the effect leaves, as an instance
use Prim.Native.Nat.{ℕ, ◌≤◌}
use mathlib.Core.Bool.{true, false, not, ◌&&◌}
use mathlib.Core.List.{List, [], ◌∷◌}
use mathlib.Core.Option.{some}
use mathlib.Core.Path.{◌≡◌, refl, ap}
use native.Mathlib.Omega.{arith}
use borrow.Author.Tests.{ltb-true, ltb-false, leb-false, ne_eqb}
use lib.Dec.{ltb, leb, eqb}
use lib.ListN.{length}
use Rattle.model.specs.declared.Guid.{Guid}
use Rattle.model.specs.declared.Instance.{Instance}
use Rattle.model.specs.declared.InstanceCall.{InstanceCall}
use Rattle.model.specs.declared.InstanceState.{InstanceState}
use Rattle.model.specs.declared.Sheet.{Sheet}
use Rattle.model.specs.Guids.{num}
use Rattle.model.specs.InstanceCalls.{crowds}
use Rattle.model.specs.Instances.{effect, rule, writers_in}
use Rattle.model.specs.Sets.{has, insert}
use Rattle.model.specs.Tables.{rising, above}
use Rattle.model.proofs.Tests.{both, split, clash}
use Rattle.model.proofs.SetLaws.{insert-le}
use Rattle.writer_set.proofs.SetLaws.{sound-size}
use Rattle.writer_set.proofs.PlaceLaws.{length-members}
use Rattle.instance_fields.specs.Usable.{Usable, Room}
use Rattle.instance_fields.proofs.UsableLaws.{sound-after}
use Rattle.instance_reach.specs.Turned.{with_state, Acted}

-- ---- room for a writer

-- a GUID that is not above n is none of those above it
above-has : (g : Guid) (n : ℕ) (s : List Guid) → num g ≤ n → above num n s ≡ true → has g s ≡ false
unfolding above has
above-has g n [] l h = refl
above-has g n (x ∷ s) l h =
    let b = both (ltb n (num x)) (above num n s) h in
    rw (ne_eqb (num x) (num g) (λ e. omega (arith, ltb-true n (num x) b.0))) (above-has g n s l b.1)

pub insert-known : (g : Guid) (s : List Guid) → rising num s ≡ true → has g s ≡ true → insert g s ≡ s
unfolding rising has insert
insert-known g [] r h = clash false h refl
insert-known g (x ∷ s) r h =
    let b = both (above num (num x) s) (rising num s) r in
    split (ltb (num x) (num g))
    (λ e.
    let n : eqb (num x) (num g) ≡ false = ne_eqb (num x) (num g) (λ q. omega (arith, ltb-true (num x) (num g) e)) in
    rw e (ap (λ (l : List Guid). x ∷ l) (insert-known g s b.1 (rw n at h))))
    (λ e.
    rw e (split (eqb (num x) (num g)) (λ q. rw q)
    (λ q. clash (has g s) (rw q at h) (above-has g (num x) s (ltb-false (num x) (num g) e) b.0))))

module _ (g : Guid) (x : InstanceState) (r : rising num (writers_in x) ≡ true) where
  pub room : (not (has g (writers_in x)) && leb 16 (length (writers_in x))) ≡ false → length (writers_in x) ≤ 16 → Room g x
  room h l =
      split (has g (writers_in x)) (λ e. omega (arith, ap length (insert-known g (writers_in x) r e)))
      (λ e. omega (arith, insert-le g (writers_in x), leb-false 16 (length (writers_in x)) (rw e at h)))

-- ---- the instance that is left

pub acted_of : (c : InstanceCall) (s : Sheet) (x : Instance) (z : InstanceState) → Usable x.state →
    ((rule c).adds_writer ≡ true → Room s.guid x.state) → effect c s x.state ≡ some z → Acted c s x (with_state x z)
acted_of c s x z u r e = record { left = e; same = refl; few = omega (arith, (sound-after c s x.state r u.writers z e).few) }

-- ---- the tests of the code

-- where the writer is new
module _ (s : Sheet) (x : Instance) (u : Usable x.state) where
  pub crowds-full : has s.guid (writers_in x.state) ≡ false → crowds s (some x) ≡ leb 16 x.state.writers.len
  crowds-full h =
      rw (h, length-members x.state.writers (sound-size x.state.writers u.writers) u.writers.few)
