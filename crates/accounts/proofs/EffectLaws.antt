-- Every effect of an instance call leaves a sound instance sound.
--     effect-sound       each call on instances
--     lost-sound         codes 7 and 18 for each writer gone
--     started-sound      a started instance
--     two-times          both times of a sheet
use mathlib.Core.Bool.{true, false, not, ◌&&◌}
use mathlib.Core.List.{List, [], ◌∷◌}
use mathlib.Core.Option.{Option}
use mathlib.Core.Path.{◌≡◌, refl}
use Prim.Native.Nat.{ℕ, zero, suc, ◌^◌, ◌≤◌, ◌<◌}
use native.Mathlib.Omega.{arith}
use lib.Dec.{leb}
use lib.ListN.{length, replicate, length-replicate}
use Rattle.octets.specs.Bounds.{Bytes}
use Rattle.model.specs.declared.Guid.{Guid}
use Rattle.model.specs.declared.InstanceState.{InstanceState}
use Rattle.model.specs.declared.MaybeTime.{MaybeTime}
use Rattle.model.specs.declared.Sheet.{Sheet}
use Rattle.model.specs.declared.InstanceCall.{InstanceCall}
use Rattle.model.specs.Guids.{num}
use Rattle.model.specs.Instances.{writers_in, no_owner, effect, rule, started_state}
use Rattle.model.specs.Joined.{left_without_all}
use Rattle.model.specs.Refusals.{nanoseconds_ok, times_used_by, holder_used_by}
use Rattle.model.specs.Sets.{set_of, empty_set, has}
use Rattle.model.specs.Tables.{all}
use Rattle.model.specs.WellFormed.{owner_ok, holder_ok}
use Rattle.model.proofs.Fits.{FitsGuid}
use Rattle.octets.proofs.ZeroLaws.{all_zero-zeros}
use Rattle.model.proofs.Tests.{both}
use Rattle.model.proofs.Keeps.{Closed, Asked, Leaves, keeps, losses_keep}
use Rattle.accounts.proofs.Basics.{all_each}
use Rattle.accounts.proofs.SheetLaws.{SheetFits, absent-time, taken_time, taken_holder}
use Rattle.accounts.proofs.Sound.{SoundTime, SoundOwner, SoundHolder, SoundSet, Generation, Count, SoundState, set-without, set_with}

-- ---- what a call takes

-- room for the GUID in the set, or it is there
abbrev pub Room : Guid → InstanceState → Type 0
Room g x = (not (has g (writers_in x)) && leb 16 (length (writers_in x))) ≡ false

no_owner_lem : SoundOwner no_owner
unfolding owner_ok num
no_owner_lem = record { guid = record { high = omega arith; low = omega arith }; strength = omega arith; ok = refl }

owner-sound : (g : Guid) (n : ℕ) → FitsGuid g → n < 256 ^ 4 → SoundOwner record { present = true; guid = g; strength = n }
unfolding owner_ok
owner-sound g n f l = record { guid = f; strength = l; ok = refl }

pub two-times : (t u : MaybeTime) → all nanoseconds_ok (t ∷ u ∷ []) ≡ true →
    (nanoseconds_ok t ≡ true) × (nanoseconds_ok u ≡ true)
unfolding all
two-times t u e =
    let p = both (nanoseconds_ok t) (nanoseconds_ok u && true) e in (p.0, (both (nanoseconds_ok u) true p.1).0)

-- the sheet's times, holder and room that a call uses
pub record Used (c : InstanceCall) (s : Sheet) (x : InstanceState) : Type 0 where
  pub times : all nanoseconds_ok (times_used_by c s) ≡ true
  pub holder : holder_used_by c s ≡ true → s.holder.len ≤ 144
  pub room : (rule c).adds_writer ≡ true → Room s.guid x

closed : Closed Generation Count SoundTime SoundOwner SoundHolder SoundSet
closed =
    record {
      generation = λ n h. omega arith;
      more = λ n h. omega arith;
      some = λ n h. omega arith;
      fewer = λ n k h. omega arith;
      absent = absent-time;
      nobody = no_owner_lem;
      without = set-without;
    }

abbrev Timely : MaybeTime → Type 0
Timely t = nanoseconds_ok t ≡ true

asked : (c : InstanceCall) (s : Sheet) (x : InstanceState) → SheetFits s → Used c s x → SoundState x →
    Asked Generation Count SoundTime SoundOwner SoundHolder SoundSet Timely c s x
asked c s x f u m =
    record {
      times = all_each nanoseconds_ok (times_used_by c s) u.times;
      time1 = taken_time s.time_1 f.time1;
      time2 = taken_time s.time_2 f.time2;
      holder = λ e. taken_holder s f (u.holder e);
      owner = owner-sound s.guid s.second f.guid f.strength;
      strength = owner-sound x.owner.guid s.second m.owner.guid f.strength;
      writer = λ e. set_with s.guid x.writers f.guid (u.room e) m.writers;
    }

-- ---- what it leaves

abbrev pub SoundAfter : Option InstanceState → Type 0
SoundAfter o = Leaves Generation Count SoundTime SoundOwner SoundHolder SoundSet o

pub effect-sound : (c : InstanceCall) (s : Sheet) (x : InstanceState) → SheetFits s → Used c s x → SoundState x →
    SoundAfter (effect c s x)
effect-sound c s x f u m = keeps Generation Count SoundTime SoundOwner SoundHolder SoundSet closed x m s c (asked c s x f u m)

-- codes 7 and 18 for each writer gone
pub lost-sound : (gs : List Guid) (at : MaybeTime) (x : InstanceState) → SoundTime at → SoundState x →
    SoundState (left_without_all gs at x)
lost-sound gs at x t m = losses_keep Generation Count SoundTime SoundOwner SoundHolder SoundSet closed gs at x t m

-- ---- a started instance

zero-bytes : (n : ℕ) → Bytes (replicate n 0)
zero-bytes zero i = omega arith
zero-bytes (suc n) zero = omega arith
zero-bytes (suc n) (suc i) = zero-bytes n i

empty_sound : SoundSet empty_set
unfolding set_of
empty_sound = record { list = []; is = refl; few = omega arith; rises = tt; fits = tt }

no_holder : SoundHolder record { present = false; len = 0; bytes = replicate 144 0 }
unfolding holder_ok
no_holder = record { len = omega arith; size = length-replicate {A = ℕ} 144 0; bytes = zero-bytes 144; ok = all_zero-zeros 144 }

pub started-sound : SoundState started_state
unfolding started_state
started-sound =
    record {
      life = record { disposed = omega arith; no_writers = omega arith; count = omega arith; samples = omega arith };
      times =
          record { sample = absent-time; delivered = absent-time; filter = absent-time; disposed = absent-time; no_writers = absent-time; owner = absent-time };
      owner = no_owner_lem;
      holder = no_holder;
      writers = empty_sound;
    }
