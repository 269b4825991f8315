-- Owners cleared, and given another strength, over the records of a table: what a call leaves that lists nothing and purges
-- nothing, whatever Out holds.
--     Changing, changing_start, changing_turn, changing_end     the pass while it goes on
--     owner-flag                                                an owner is present
--     strength_put, owner-put, strength_kept, owner-kept        one record from its parts
use Prim.Native.Nat.{ℕ, ◌+◌, ◌-◌, ◌*◌, ◌≤◌, ◌<◌}
use mathlib.Core.Bool.{Bool, true, false}
use mathlib.Core.List.{List}
use mathlib.Core.Option.{some}
use mathlib.Core.Path.{◌≡◌, refl, ◌∙◌}
use native.Mathlib.Omega.{arith}
use borrow.Rule.Slice.PartMut.{put_mid}
use lib.ListN.{length}
use Rattle.model.specs.declared.Guid.{Guid}
use Rattle.model.specs.declared.Instance.{Instance}
use Rattle.model.specs.declared.InstanceState.{InstanceState}
use Rattle.model.specs.declared.MaybeOwner.{MaybeOwner}
use Rattle.model.specs.Guids.{same, same_prefix}
use Rattle.model.specs.InstanceRecord.{flag, flags_at, instance_of}
use Rattle.model.specs.Instances.{no_owner, owns, strength_updated, with_owner}
use Rattle.model.specs.State.{instances_in}
use Rattle.model.proofs.Tests.{both}
use Rattle.instance_decoding.specs.Parts.{record_at}
use Rattle.instance_edits.specs.Edits.{with_strength, OwnerCleared, StrengthPut}
use Rattle.instance_pass.specs.declared.PassCounts.{PassCounts}
use Rattle.instance_pass.specs.Acts.{Act, Bounded}
use Rattle.instance_pass.specs.Passes.{EditedAt, Passed}
use Rattle.instance_pass.specs.Steps.{owns_as, cleared_as}
use Rattle.instance_pass.proofs.EditLaws.{edited_part, edited_as, unedited}
use Rattle.instance_pass.proofs.PassLaws.{During, during_start, during_edited, during_over}

-- ---- the owner

owner-present : (prefix : Bool) (g : Guid) (o : MaybeOwner) → owns_as prefix g o ≡ true → o.present ≡ true
owner-present true g o e = (both o.present (same_prefix o.guid g) e).0
owner-present false g o e = (both o.present (same o.guid g) e).0

pub owner-flag : (prefix : Bool) (g : Guid) (r : List ℕ) → owns_as prefix g (instance_of r).state.owner ≡ true → flag 128 (flags_at r) ≡ true
unfolding instance_of
owner-flag prefix g r e = owner-present prefix g (instance_of r).state.owner e

strength_same : (g : Guid) (strength : ℕ) (x : InstanceState) → owns g x.owner ≡ true → with_strength strength x ≡ strength_updated g strength x
unfolding strength_updated
strength_same g strength x e = rw (e, owner-present false g x.owner e)

-- ---- the pass

-- the first i instances stay, and n are counted
abbrev pub change_tally : ℕ → ℕ → PassCounts
change_tally i n = record { kept = i; listed = 0; counted = n }

module _ (act : Act) (g : InstanceState → InstanceState) (left : (x : InstanceState) → act.left x ≡ some (g x)) (unlisted : (x : InstanceState) → act.listed x ≡ false)
    (count : ℕ) (t₀ : List ℕ) where
  abbrev pub Changing : ℕ → ℕ → List ℕ → Type 0
  Changing i n t = (out : List ℕ) → 1024 ≤ length out → During act count t₀ out i t out (change_tally i n)

  pub changing_start : Changing 0 0 t₀
  changing_start out h = during_start act count t₀ out

  pub changing_turn : (i n n' : ℕ) (t t' : List ℕ) → Bounded act → count ≤ 128 → count * 512 ≤ length t₀ → i < count → Changing i n t → length t' ≡ length t → EditedAt g i t t' →
      n' ≡ n + act.counted (instance_of (record_at t i)).state → Changing (i + 1) n' t'
  changing_turn i n n' t t' bounded most held h d m w e out broad =
      let x : InstanceState = (instance_of (record_at t i)).state in
      during_edited act count t₀ out i t out (change_tally i n) (d out broad) most held broad h bounded g t' out (change_tally (i + 1) n') m refl refl (left x) w
      record { noted = rw (unlisted x); kept = rw (left x); listed = rw (unlisted x); counted = e }

  pub changing_end : (i n : ℕ) (t : List ℕ) → count ≤ i → i ≤ count → Changing i n t → (out : List ℕ) → 1024 ≤ length out →
      Passed act (instances_in count t₀) t₀ out t out (change_tally count n)
  changing_end i n t h m d out broad =
      let e : i ≡ count = omega arith in
      rw e at (during_over act count t₀ out i t out (change_tally i n) (d out broad) (λ x. rw (left x)) h)

-- ---- one record

module _ (t t' p r : List ℕ) (i : ℕ) (h : i * 512 + 512 ≤ length t) (e : p ≡ record_at t i) (n : length r ≡ 512) (v : t' ≡ put_mid (i * 512) (i * 512 + 512 - i * 512) t r) where
  abbrev x : Instance
  x = instance_of (record_at t i)

  pub strength_put : (g : Guid) (strength : ℕ) → owns g (instance_of p).state.owner ≡ true → StrengthPut strength p r → EditedAt (strength_updated g strength) i t t'
  strength_put g strength o w =
      edited_as (with_strength strength) (strength_updated g strength) t t' i (strength_same g strength x.state (rw e at o))
      (edited_part (with_strength strength) t t' r i h n v (λ q. w x (e ∙ q)))

  pub owner-put : (prefix : Bool) (g : Guid) → owns_as prefix g (instance_of p).state.owner ≡ true → OwnerCleared p r → EditedAt (cleared_as prefix g) i t t'
  unfolding instance_of
  owner-put prefix g o w =
      let owned : owns_as prefix g x.state.owner ≡ true = rw e at o in
      edited_as (with_owner no_owner) (cleared_as prefix g) t t' i (rw owned)
      (edited_part (with_owner no_owner) t t' r i h n v (λ q. w x (e ∙ q) (omega arith) (owner-present prefix g x.state.owner owned)))

module _ (t p : List ℕ) (i : ℕ) (e : p ≡ record_at t i) where
  pub strength_kept : (g : Guid) (strength : ℕ) → owns g (instance_of p).state.owner ≡ false → EditedAt (strength_updated g strength) i t t
  unfolding strength_updated
  strength_kept g strength o =
      let other : owns g (instance_of (record_at t i)).state.owner ≡ false = rw e at o in
      edited_as (λ (y : InstanceState). y) (strength_updated g strength) t t i (rw other) (unedited t i)

  pub owner-kept : (prefix : Bool) (g : Guid) → owns_as prefix g (instance_of p).state.owner ≡ false → EditedAt (cleared_as prefix g) i t t
  owner-kept prefix g o =
      let other : owns_as prefix g (instance_of (record_at t i)).state.owner ≡ false = rw e at o in
      edited_as (λ (y : InstanceState). y) (cleared_as prefix g) t t i (rw other) (unedited t i)
