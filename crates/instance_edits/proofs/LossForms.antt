-- Writers lost one after the other are lost all at once, of an instance whose writer set is sound and rises.
--     unemptied, undropped         a list with none of its writers changes nothing
--     left_form, drop_form         code 7 for one writer: what it lists, what it leaves
--     cleared_form                 codes 18 for several: how many clear the owner
--     listed_form, loss_form       codes 7 and 18 for several: what they list, what they leave
use Prim.Native.Nat.{ℕ, ◌+◌}
use mathlib.Core.Bool.{Bool, true, false, not, ◌&&◌, ◌||◌, and-false, or-false}
use mathlib.Core.List.{List, [], ◌∷◌}
use mathlib.Core.Path.{◌≡◌, refl, sym, ap, ◌∙◌}
use native.Mathlib.Omega.{arith}
use lib.ListN.{length}
use Rattle.model.specs.declared.Guid.{Guid}
use Rattle.model.specs.declared.InstanceState.{InstanceState}
use Rattle.model.specs.declared.MaybeOwner.{MaybeOwner}
use Rattle.model.specs.declared.MaybeTime.{MaybeTime}
use Rattle.model.specs.declared.WriterSet.{WriterSet}
use Rattle.model.specs.Guids.{num}
use Rattle.model.specs.InstanceRecord.{bit}
use Rattle.model.specs.Instances.{is_alive, left_by, owner_cleared, owns, with_set, with_writers, writer_dropped, writers_in}
use Rattle.model.specs.Joined.{clearings, left_by_one, left_without, left_without_all}
use Rattle.model.specs.Sets.{members, set_of, has, is_empty, remove}
use Rattle.model.specs.Tables.{rising}
use Rattle.model.proofs.Keeps.{set_loss}
use Rattle.model.proofs.SetLaws.{members_of}
use Rattle.model.proofs.Tests.{both, clash, split}
use Rattle.writer_set.specs.Places.{Sound, padded}
use Rattle.writer_set.proofs.PlaceLaws.{length-members}
use Rattle.writer_set.proofs.SetLaws.{sound-size}
use Rattle.instance_fields.proofs.UsableLaws.{sound_loss}
use Rattle.writer_set_bytes.specs.Others.{others}
use Rattle.instance_edits.specs.Edits.{emptied_to, settled, settled_if}
use Rattle.instance_edits.specs.Losses.{disowned_by, dropped_of, emptied_by, owned_by}
use Rattle.writer_set_bytes.proofs.SideBySide.{none_out, others_empty, others_more, others_none, remove-one, rising-remove, same_sym}

-- ---- the set

-- a sound set is the record of its members
set_of_lem : (w : WriterSet) → Sound w → set_of (members w) ≡ w
unfolding set_of
set_of_lem w h =
    let n : length (members w) ≡ w.len = length-members w (sound-size w h) h.few in
    let z : w.items ≡ padded (members w) = h.nils in
    let whole : w ≡ record { len = w.len; items = w.items } = refl in cc

abbrev Rises : WriterSet → Type 0
Rises w = rising num (members w) ≡ true

rises_loss : (g : Guid) (at : MaybeTime) (x : InstanceState) → Rises x.writers → Rises (left_without g at x).writers
rises_loss g at x r = set_loss Rises (λ h w s. rw (members_of (remove h (members w))) (rising-remove h (members w) s)) g at x r

has_empty : (g : Guid) (s : List Guid) → has g s ≡ true → is_empty s ≡ false
unfolding has
has_empty g [] h = sym h
has_empty g (x ∷ xs) h = refl

-- ---- code 7

-- what was empty before is not emptied
still : (b a : Bool) → (not b && (b && a)) ≡ false
still true a = refl
still false a = refl

pub unemptied : (gone : List Guid) (x : InstanceState) → others gone (writers_in x) ≡ writers_in x → emptied_by gone x ≡ false
unfolding emptied_to
unemptied gone x e = rw e (still (is_empty (writers_in x)) (is_alive x.life.kind))

as_it_is : (x : InstanceState) → Sound x.writers → with_set (writers_in x) x ≡ x
as_it_is x h = ap (λ (w : WriterSet). with_writers w x) (set_of_lem x.writers h)

pub left_form : (g : Guid) (x : InstanceState) → rising num (writers_in x) ≡ true → left_by g x ≡ emptied_by (g ∷ []) x
unfolding left_by emptied_to
left_form g x r =
    rw (remove-one g (writers_in x) r)
    (split (has g (writers_in x)) (λ e. rw (e, has_empty g (writers_in x) e))
    (λ e. rw e (sym (unemptied (g ∷ []) x (none_out g (writers_in x) e)))))

pub drop_form : (g : Guid) (at : MaybeTime) (x : InstanceState) → Sound x.writers → rising num (writers_in x) ≡ true →
    writer_dropped g at x ≡ dropped_of (g ∷ []) at x
unfolding writer_dropped settled
drop_form g at x h r =
    rw (left_form g x r)
    (split (has g (writers_in x)) (λ e. rw (e, remove-one g (writers_in x) r))
    (λ e. let n = none_out g (writers_in x) e in rw (e, unemptied (g ∷ []) x n, n) (sym (as_it_is x h))))

-- ---- codes 7, one after the other

pub undropped : (gone : List Guid) (at : MaybeTime) (x : InstanceState) → Sound x.writers → others gone (writers_in x) ≡ writers_in x → dropped_of gone at x ≡ x
unfolding settled
undropped gone at x h e = rw (unemptied gone x e, e) (as_it_is x h)

left-set : (e : Bool) (at : MaybeTime) (s : List Guid) (x : InstanceState) → writers_in (settled_if e s at x) ≡ s
left-set true at s x = members_of s
left-set false at s x = members_of s

left_twice : (e f : Bool) (at : MaybeTime) (s t : List Guid) (x : InstanceState) → (e ≡ true → f ≡ false) →
    settled_if f t at (settled_if e s at x) ≡ settled_if (e || f) t at x
left_twice true true at s t x h = clash true refl (h refl)
left_twice true false at s t x h = refl
left_twice false true at s t x h = refl
left_twice false false at s t x h = refl

-- s, t, u: the set is empty, is so after one loss, and after all; a, b: the instance is alive, and is so after one loss
emptied_twice : (s t u a b : Bool) → (s ≡ true → t ≡ true) → (t ≡ true → u ≡ true) → (t ≡ false → b ≡ a) →
    ((not s && (t && a)) || (not t && (u && b))) ≡ (not s && (u && a))
emptied_twice true false u a b h i j = clash false (h refl) refl
emptied_twice true true u a b h i j = refl
emptied_twice false true u a b h i j = rw (i refl) (or-false a)
emptied_twice false false u a b h i j = rw (j refl)

module _ (g : Guid) (gs : List Guid) (at : MaybeTime) (x : InstanceState) where
  -- the set without g, and the instance then
  abbrev rest : List Guid
  rest = others (g ∷ []) (writers_in x)

  abbrev next : InstanceState
  next = dropped_of (g ∷ []) at x

  next-set : writers_in next ≡ rest
  unfolding settled
  next-set = left-set (emptied_by (g ∷ []) x) at rest x

  next-kind : is_empty rest ≡ false → is_alive next.life.kind ≡ is_alive x.life.kind
  unfolding settled emptied_to
  next-kind e = split (is_empty (writers_in x)) (λ q. rw q) (λ q. rw (q, e))

  -- it is emptied once
  emptied_once : emptied_by (g ∷ []) x ≡ true → emptied_by gs next ≡ false
  unfolding emptied_to
  emptied_once e =
      let b = both (not (is_empty (writers_in x))) (is_empty rest && is_alive x.life.kind) e in
      rw (next-set, (both (is_empty rest) (is_alive x.life.kind) b.1).0)

  emptied_more : (emptied_by (g ∷ []) x || emptied_by gs next) ≡ emptied_by (g ∷ gs) x
  unfolding emptied_to
  emptied_more =
      rw (next-set, others_more g gs (writers_in x))
      (emptied_twice (is_empty (writers_in x)) (is_empty rest) (is_empty (others (g ∷ gs) (writers_in x))) (is_alive x.life.kind) (is_alive next.life.kind)
      (others_empty (g ∷ []) (writers_in x)) (λ e. rw (others_more g gs (writers_in x)) at (others_empty gs rest e)) next-kind)

  dropped_more : dropped_of gs at next ≡ dropped_of (g ∷ gs) at x
  unfolding settled
  dropped_more =
      left_twice (emptied_by (g ∷ []) x) (emptied_by gs next) at rest (others gs (writers_in next)) x emptied_once
      ∙ ap (λ (e : Bool). settled_if e (others gs (writers_in next)) at x) emptied_more
      ∙ ap (λ (s : List Guid). settled_if (emptied_by (g ∷ gs) x) s at x) (ap (others gs) next-set ∙ others_more g gs (writers_in x))

-- ---- the owner

owned_more : (g : Guid) (gs : List Guid) (o : MaybeOwner) → owned_by (g ∷ gs) o ≡ (owns g o || owned_by gs o)
unfolding has
owned_more g gs o = split o.present (λ e. rw (e, same_sym g o.guid)) (λ e. rw e)

-- code 7 leaves it
dropped_owner : (g : Guid) (at : MaybeTime) (x : InstanceState) → (writer_dropped g at x).owner ≡ x.owner
unfolding writer_dropped
dropped_owner g at x = split (left_by g x) (λ e. rw e) (λ e. rw e (split (has g (writers_in x)) (λ q. rw q) (λ q. rw q)))

disowned_none : (x : InstanceState) → disowned_by [] x ≡ x
unfolding disowned_by has
disowned_none x = rw (and-false x.owner.present)

disowned_more : (g : Guid) (gs : List Guid) (x : InstanceState) → disowned_by gs (owner_cleared g x) ≡ disowned_by (g ∷ gs) x
unfolding disowned_by owner_cleared
disowned_more g gs x = rw (owned_more g gs x.owner) (split (owns g x.owner) (λ e. rw e) (λ e. rw e))

cleared_more : (g : Guid) (gs : List Guid) (x : InstanceState) →
    bit (owns g x.owner) + bit (owned_by gs (owner_cleared g x).owner) ≡ bit (owned_by (g ∷ gs) x.owner)
unfolding owner_cleared
cleared_more g gs x = rw (owned_more g gs x.owner) (split (owns g x.owner) (λ e. rw e) (λ e. rw e (omega arith)))

pub cleared_form : (gs : List Guid) (at : MaybeTime) (x : InstanceState) → clearings gs at x ≡ bit (owned_by gs x.owner)
unfolding clearings has
cleared_form [] at x = rw (and-false x.owner.present)
cleared_form (g ∷ gs) at x =
    ap (λ (n : ℕ). bit (owns g (writer_dropped g at x).owner) + n) (cleared_form gs at (left_without g at x))
    ∙ cleared_more g gs (writer_dropped g at x) ∙ ap (λ (o : MaybeOwner). bit (owned_by (g ∷ gs) o)) (dropped_owner g at x)

-- code 18 changes nothing else
emptied_cleared : (g : Guid) (gs : List Guid) (x : InstanceState) → emptied_by gs (owner_cleared g x) ≡ emptied_by gs x
unfolding owner_cleared emptied_to
emptied_cleared g gs x = split (owns g x.owner) (λ e. rw e) (λ e. rw e)

left_cleared : (g : Guid) (e : Bool) (at : MaybeTime) (s : List Guid) (x : InstanceState) →
    settled_if e s at (owner_cleared g x) ≡ owner_cleared g (settled_if e s at x)
unfolding owner_cleared
left_cleared g true at s x = split (owns g x.owner) (λ q. rw q) (λ q. rw q)
left_cleared g false at s x = split (owns g x.owner) (λ q. rw q) (λ q. rw q)

cleared_set : (g : Guid) (x : InstanceState) → (owner_cleared g x).writers ≡ x.writers
unfolding owner_cleared
cleared_set g x = split (owns g x.owner) (λ e. rw e) (λ e. rw e)

dropped_cleared : (g : Guid) (gs : List Guid) (at : MaybeTime) (x : InstanceState) →
    dropped_of gs at (owner_cleared g x) ≡ owner_cleared g (dropped_of gs at x)
unfolding settled
dropped_cleared g gs at x =
    rw (emptied_cleared g gs x, cleared_set g x) (left_cleared g (emptied_by gs x) at (others gs (writers_in x)) x)

-- ---- codes 7 and 18, one after the other

pub listed_form : (gs : List Guid) (at : MaybeTime) (x : InstanceState) → Sound x.writers → rising num (writers_in x) ≡ true →
    left_by_one gs at x ≡ emptied_by gs x
unfolding left_by_one
listed_form [] at x h r = sym (unemptied [] x (others_none (writers_in x)))
listed_form (g ∷ gs) at x h r =
    rw (left_form g x r)
    (ap (λ (b : Bool). emptied_by (g ∷ []) x || b)
    (listed_form gs at (left_without g at x) (sound_loss g at x h) (rises_loss g at x r)
    ∙ ap (λ (y : InstanceState). emptied_by gs (owner_cleared g y)) (drop_form g at x h r) ∙ emptied_cleared g gs (dropped_of (g ∷ []) at x))
    ∙ emptied_more g gs at x)

pub loss_form : (gs : List Guid) (at : MaybeTime) (x : InstanceState) → Sound x.writers → rising num (writers_in x) ≡ true →
    left_without_all gs at x ≡ disowned_by gs (dropped_of gs at x)
unfolding left_without_all
loss_form [] at x h r = sym (ap (disowned_by []) (undropped [] at x h (others_none (writers_in x))) ∙ disowned_none x)
loss_form (g ∷ gs) at x h r =
    loss_form gs at (left_without g at x) (sound_loss g at x h) (rises_loss g at x r)
    ∙ ap (disowned_by gs)
    (ap (λ (y : InstanceState). dropped_of gs at (owner_cleared g y)) (drop_form g at x h r)
    ∙ dropped_cleared g gs at (dropped_of (g ∷ []) at x) ∙ ap (owner_cleared g) (dropped_more g gs at x))
    ∙ disowned_more g gs (dropped_of (g ∷ gs) at x)
