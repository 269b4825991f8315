-- What the effects on one instance ask, and what they leave of it.
--     usable                       a valid instance is usable
--     without-sound                a sound set stays sound without a GUID
--     sound-after                  what a call leaves has a sound writer set
--     sound_loss, sound_losses     so does what the loss of a writer, or of several, leaves
use Prim.Native.Nat.{◌^◌}
use mathlib.Core.Bool.{true}
use mathlib.Core.List.{List}
use mathlib.Core.Option.{some}
use mathlib.Core.Path.{◌≡◌}
use native.Mathlib.Omega.{arith}
use borrow.Author.Tests.{ltb-true}
use lib.ListN.{length, length-take}
use Rattle.model.specs.declared.Guid.{Guid}
use Rattle.model.specs.declared.InstanceCall.{InstanceCall}
use Rattle.model.specs.declared.InstanceState.{InstanceState}
use Rattle.model.specs.declared.MaybeTime.{MaybeTime}
use Rattle.model.specs.declared.Sheet.{Sheet}
use Rattle.model.specs.declared.WriterSet.{WriterSet}
use Rattle.model.specs.Instances.{effect, rule, writers_in}
use Rattle.model.specs.Joined.{left_without, left_without_all}
use Rattle.model.specs.Sets.{members, set_of, insert, remove}
use Rattle.model.specs.WellFormed.{instance_state_ok}
use Rattle.model.proofs.Keeps.{set-kept, set_loss, set_losses}
use Rattle.model.proofs.SetLaws.{remove-le}
use Rattle.model.proofs.Valid.{valid_parts}
use Rattle.writer_set.specs.Places.{Sound}
use Rattle.writer_set.proofs.SetLaws.{set-sound, sound_of}
use Rattle.instance_fields.specs.Usable.{Usable, Room}

pub usable : (x : InstanceState) → length x.writers.items ≡ 16 → instance_state_ok x ≡ true → Usable x
usable x size e =
    let v = valid_parts x e in record {
      life = record {
        disposed = omega (arith, ltb-true x.life.disposed_generations (2 ^ 31) v.life.disposed);
        no_writers = omega (arith, ltb-true x.life.no_writers_generations (2 ^ 31) v.life.no_writers);
      };
      writers = set-sound x.writers size v.writers;
    }

-- ---- the writer set of what is left

pub without-sound : (g : Guid) (w : WriterSet) → Sound w → Sound (set_of (remove g (members w)))
without-sound g w h = sound_of (remove g (members w)) (omega (arith, remove-le g (members w), length-take w.len w.items, h.few))

pub sound-after : (c : InstanceCall) (s : Sheet) (x : InstanceState) → ((rule c).adds_writer ≡ true → Room s.guid x) →
    Sound x.writers → (y : InstanceState) → effect c s x ≡ some y → Sound y.writers
sound-after c s x r h y e = set-kept Sound without-sound c s x (λ a. sound_of (insert s.guid (writers_in x)) (r a)) h y e

pub sound_loss : (g : Guid) (at : MaybeTime) (x : InstanceState) → Sound x.writers → Sound (left_without g at x).writers
sound_loss g at x h = set_loss Sound without-sound g at x h

pub sound_losses : (gs : List Guid) (at : MaybeTime) (x : InstanceState) → Sound x.writers → Sound (left_without_all gs at x).writers
sound_losses gs at x h = set_losses Sound without-sound gs at x h
