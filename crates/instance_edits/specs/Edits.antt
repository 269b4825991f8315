-- An instance's record changed where it stands.
--     changed            an instance whose state is changed
--     Formed             the bytes of an instance whose writers rise
--     with_bit            flags with a bit set
--     with_strength       an owner's strength replaced
--     unsettled          a record whose set was replaced and whose flags were not
--     emptied_to          the set o is the first empty one of an alive instance
--     settled_if, settled what is left with the set o
--     OwnerCleared, StrengthPut, WriterlessLeft, Settled
--                        what an edit makes of the bytes r of an instance, whichever it is: the bytes s
use Rattle.std.specs.Prelude.{ℕ, ◌+◌, ◌<◌, Bool, true, not, ◌&&◌, cond, List, ◌++◌, ◌≡◌, length}
use Rattle.octets.specs.Patch.{fields}
use Rattle.model.specs.declared.Guid.{Guid}
use Rattle.model.specs.declared.Instance.{Instance}
use Rattle.model.specs.declared.InstanceState.{InstanceState}
use Rattle.model.specs.declared.MaybeTime.{MaybeTime}
use Rattle.model.specs.Guids.{num, guids_bytes}
use Rattle.model.specs.InstanceRecord.{flag, flags_at, flags_of, instance_bytes, instance_of, instance_values, instance_widths}
use Rattle.model.specs.Instances.{is_alive, no_owner, sampled_at, with_owner, with_set, writerless, writers_in}
use Rattle.model.specs.Sets.{is_empty}
use Rattle.model.specs.Tables.{rising}
use Rattle.writer_set.specs.Places.{Sound, padded}

-- key and handle stay
abbrev pub changed : (InstanceState → InstanceState) → Instance → Instance
changed f x = record { key = x.key; handle = x.handle; state = f x.state }

-- 512 bytes with a kind, and a set that rises
pub record Formed (r : List ℕ) : Type 0 where
  pub size : length r ≡ 512
  pub kind : flags_at r < 49152
  pub sound : Sound (instance_of r).state.writers
  pub rises : rising num (writers_in (instance_of r).state) ≡ true

-- the bit of weight w is set
unfoldable pub with_bit : ℕ → ℕ → ℕ
with_bit w f = cond (flag w f) f (f + w)

abbrev pub with_strength : ℕ → InstanceState → InstanceState
with_strength strength x = with_owner record { present = x.owner.present; guid = x.owner.guid; strength = strength } x

-- ---- the set replaced

-- the bytes of x with those of the set o in the place of its own
unfoldable pub unsettled : List Guid → Instance → List ℕ
unsettled o x = fields instance_widths (instance_values x) ++ (x.state.holder.bytes ++ guids_bytes (padded o))

-- x is alive, had writers and has none left
unfoldable pub emptied_to : List Guid → InstanceState → Bool
emptied_to o x = not (is_empty (writers_in x)) && (is_empty o && is_alive x.life.kind)

-- no writers are left, since the time at where one is given
abbrev pub left_at : MaybeTime → InstanceState → InstanceState
left_at at x = sampled_at at (writerless at x)

-- with the set o; e tells whether it is left writerless
abbrev pub settled_if : Bool → List Guid → MaybeTime → InstanceState → InstanceState
settled_if e o at x = cond e (left_at at (with_set o x)) (with_set o x)

unfoldable pub settled : List Guid → MaybeTime → InstanceState → InstanceState
settled o at x = settled_if (emptied_to o x) o at x

-- ---- what an edit makes of the bytes of an instance

abbrev pub OwnerCleared : List ℕ → List ℕ → Type 0
OwnerCleared r s =
    (x : Instance) → r ≡ instance_bytes x → x.state.writers.len < 32 → x.state.owner.present ≡ true →
    s ≡ instance_bytes (changed (with_owner no_owner) x)

abbrev pub StrengthPut : ℕ → List ℕ → List ℕ → Type 0
StrengthPut strength r s = (x : Instance) → r ≡ instance_bytes x → s ≡ instance_bytes (changed (with_strength strength) x)

-- f are the flags with the set o
abbrev pub WriterlessLeft : ℕ → MaybeTime → List ℕ → List ℕ → Type 0
WriterlessLeft f at r s =
    (x : Instance) (o : List Guid) → r ≡ unsettled o x → length o < 32 → is_alive x.state.life.kind ≡ true → f ≡ flags_of (with_set o x.state) →
    s ≡ instance_bytes (changed (λ (y : InstanceState). left_at at (with_set o y)) x)

-- k of n GUIDs are left; the result says whether the instance is left writerless
abbrev pub Settled : ℕ → ℕ → MaybeTime → List ℕ → List ℕ → Bool → Type 0
Settled n k at r s left =
    (x : Instance) (o : List Guid) → r ≡ unsettled o x → Sound x.state.writers → x.state.writers.len ≡ n → length o ≡ k →
    (s ≡ instance_bytes (changed (settled o at) x)) × (left ≡ emptied_to o x.state)
