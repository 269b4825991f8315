-- The loss of writers from its parts.
--     apart_stays              a set apart from a span that the list is within stays as it is
--     apart_unowned, goes      an owner apart from it is not in the list; another is, where it is listed
--     not_no                   a test of `not`
--     few-left, owner-left     what is left of an instance that drops writers: its set is small enough, its owner is the same
--     owner-flag               the flag of the owner in its bytes
--     lost-left                the record once the owner is cleared where it goes
use Prim.Native.Nat.{ℕ, suc, ◌<◌}
use mathlib.Core.Bool.{Bool, true, false, not, ◌&&◌, cond, and-false}
use mathlib.Core.List.{List, [], ◌∷◌}
use mathlib.Core.Logic.{⊎_elim}
use mathlib.Core.Path.{◌≡◌, refl, sym, ap, ◌∙◌}
use native.Mathlib.Omega.{arith}
use borrow.Author.Tests.{ne_eqb}
use lib.ListN.{length, length-take}
use Rattle.octets.specs.Bounds.{Bytes}
use Rattle.octets.specs.Lay.{All}
use Rattle.model.specs.declared.Guid.{Guid}
use Rattle.model.specs.declared.Instance.{Instance}
use Rattle.model.specs.declared.InstanceState.{InstanceState}
use Rattle.model.specs.declared.MaybeOwner.{MaybeOwner}
use Rattle.model.specs.declared.MaybeTime.{MaybeTime}
use Rattle.model.specs.Guids.{num}
use Rattle.model.specs.InstanceRecord.{flag, flags_at, instance_of, instance_bytes}
use Rattle.model.specs.Instances.{no_owner, with_owner, writers_in}
use Rattle.model.specs.Sets.{has, set_of}
use Rattle.model.proofs.FlagLaws.{flags_apart}
use Rattle.model.proofs.InstanceLaws.{instance_forth}
use Rattle.model.proofs.Tests.{both, split}
use Rattle.writer_set.specs.Places.{Sound}
use Rattle.writer_set_bytes.specs.Others.{others}
use Rattle.writer_set_bytes.proofs.SideBySide.{Below, From, others_apart_low, others_apart_high, length-others}
use Rattle.instance_edits.specs.declared.Span.{Span}
use Rattle.instance_edits.specs.Edits.{OwnerCleared, changed, Formed, settled}
use Rattle.instance_edits.specs.Losses.{emptied_by, dropped_of, owned_by, disowned_by}
use Rattle.instance_edits.specs.Spans.{Outside, AllOutside}
use Rattle.instance_edits.proofs.LossForms.{undropped, unemptied}
use Rattle.instance_edits.proofs.RecordEdits.{flags_in}
use Rattle.instance_loss.specs.Lost.{Within, ClearedIf, lost_by}

-- ---- apart from a span

within-from : (w : Span) (gs : List Guid) → All (Within w) gs → From (num w.low) gs
within-from w [] h = tt
within-from w (g ∷ gs) h = (h.0.0, within-from w gs h.1)

within-below : (w : Span) (gs : List Guid) → All (Within w) gs → Below (suc (num w.high)) gs
within-below w [] h = tt
within-below w (g ∷ gs) h = (omega (arith, h.0.1), within-below w gs h.1)

above_from : (n : ℕ) (s : List Guid) → All (λ (g : Guid). n < num g) s → From (suc n) s
above_from n [] h = tt
above_from n (g ∷ s) h = (omega (arith, h.0), above_from n s h.1)

apart_others : (w : Span) (gone s : List Guid) → AllOutside w s → All (Within w) gone → others gone s ≡ s
apart_others w gone s o h =
    ⊎_elim (λ b. others_apart_low (num w.low) gone s b (within-from w gone h))
    (λ b. others_apart_high (suc (num w.high)) gone s (within-below w gone h) (above_from (num w.high) s b)) o

pub apart_stays : (w : Span) (gone : List Guid) (at : MaybeTime) (r s : List ℕ) (b : Bool) → Bytes r → Formed r → All (Within w) gone →
    (b ≡ true → AllOutside w (writers_in (instance_of r).state)) → b ≡ true → s ≡ r →
    (s ≡ instance_bytes (changed (dropped_of gone at) (instance_of r))) × (false ≡ emptied_by gone (instance_of r).state)
apart_stays w gone at r s b bytes f h o e q =
    let x = instance_of r in
    let k : others gone (writers_in x.state) ≡ writers_in x.state = apart_others w gone (writers_in x.state) (o e) h in (
      q ∙ sym (instance_forth r bytes f.size f.kind)
          ∙ ap (λ (y : InstanceState). instance_bytes record { key = x.key; handle = x.handle; state = y }) (sym (undropped gone at x.state f.sound k)),
      sym (unemptied gone x.state k),
    )

not_in : (w : Span) (g : Guid) (gone : List Guid) → Outside w g → All (Within w) gone → has g gone ≡ false
unfolding has
not_in w g [] o h = refl
not_in w g (x ∷ gone) o h =
    let e = ne_eqb (num x) (num g) (λ q. ⊎_elim (λ b. omega (arith, b, h.0.0)) (λ b. omega (arith, b, h.0.1)) o) in
    rw e (not_in w g gone o h.1)

pub apart_unowned : (clears : Bool) (w : Span) (gone : List Guid) (o : MaybeOwner) → All (Within w) gone → Outside w o.guid → false ≡ (clears && owned_by gone o)
apart_unowned clears w gone o h b = rw (not_in w o.guid gone b h, and-false o.present) (sym (and-false clears))

pub not_no : (b : Bool) → not b ≡ false → b ≡ true
not_no true e = refl
not_no false e = sym e

pub goes : {b : Bool} (clears : Bool) → clears ≡ true → b ≡ (clears && b)
goes clears e = rw e

pub cleared_yes : {r s : List ℕ} (b : Bool) → b ≡ true → OwnerCleared r s → ClearedIf b r s
cleared_yes b e t x q m h = rw e (t x q m (h e))

pub cleared_no : {r : List ℕ} (b : Bool) → b ≡ false → ClearedIf b r r
cleared_no b e x q m h = rw e q

-- ---- what is left

module _ (gone : List Guid) (at : MaybeTime) (x : InstanceState) where
  pub few-left : Sound x.writers → (dropped_of gone at x).writers.len < 32
  unfolding settled set_of
  few-left h =
      let n : length (others gone (writers_in x)) < 32 =
      omega (arith, length-others gone (writers_in x), length-take x.writers.len x.writers.items, h.few) in
      split (emptied_by gone x) (λ e. rw e n) (λ e. rw e n)

  pub owner-left : (dropped_of gone at x).owner ≡ x.owner
  unfolding settled
  owner-left = split (emptied_by gone x) (λ e. rw e) (λ e. rw e)

module _ (clears : Bool) (gone : List Guid) (at : MaybeTime) (r r₁ : List ℕ) (b : Bool) (f : Formed r)
    (e : b ≡ (clears && owned_by gone (instance_of r).state.owner)) (q : r₁ ≡ instance_bytes (changed (dropped_of gone at) (instance_of r))) where
  abbrev x : Instance
  x = instance_of r

  abbrev y : InstanceState
  y = dropped_of gone at x.state

  has-owner : b ≡ true → y.owner.present ≡ true
  has-owner h =
      ap (λ (o : MaybeOwner). o.present) (owner-left gone at x.state)
      ∙ (both x.state.owner.present _ (both clears (owned_by gone x.state.owner) (sym e ∙ h)).1).0

  pub owner-flag : b ≡ true → flag 128 (flags_at r₁) ≡ true
  owner-flag h =
      let m : y.writers.len < 32 = few-left gone at x.state f.sound in
      ap (λ (t : List ℕ). flag 128 (flags_at t)) q ∙ ap (flag 128) (flags_in (changed (dropped_of gone at) x) m) ∙ (flags_apart y m).owner ∙ has-owner h

  owned_still : owned_by gone y.owner ≡ owned_by gone x.state.owner
  owned_still = ap (owned_by gone) (owner-left gone at x.state)

  each : (z : InstanceState) (c : Bool) → owned_by gone z.owner ≡ owned_by gone x.state.owner →
      cond (c && owned_by gone x.state.owner) (with_owner no_owner z) z ≡ cond c (disowned_by gone z) z
  unfolding disowned_by
  each z true h = rw h
  each z false h = refl

  cleared_so : cond b (with_owner no_owner y) y ≡ lost_by clears gone at x.state
  cleared_so = rw e (each y clears owned_still)

  pub lost-left : (s : List ℕ) → ClearedIf b r₁ s → s ≡ instance_bytes (changed (lost_by clears gone at) x)
  lost-left s t =
      t (changed (dropped_of gone at) x) q (few-left gone at x.state f.sound) has-owner
      ∙ ap (λ (z : InstanceState). instance_bytes record { key = x.key; handle = x.handle; state = z }) cleared_so
