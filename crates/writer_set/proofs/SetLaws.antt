-- A writer set as its record holds it.
--     sound_of         the record of a list is sound where the list is short enough
--     sound-size       a sound set's array has 16 places
--     set-sound        a valid set is sound
--     members_rise     its members rise
use Prim.Native.Nat.{◌-◌, ◌≤◌}
use mathlib.Core.Bool.{true}
use mathlib.Core.Path.{◌≡◌, refl, sym, ap, ◌∙◌}
use mathlib.Core.List.{List, [], ◌∷◌, ◌++◌}
use native.Mathlib.Omega.{arith}
use borrow.Author.Tests.{eqb-true, leb-true}
use lib.Dec.{leb}
use lib.ListN.{length, drop, replicate, length-append, length-replicate, length-take, length-drop, take-append-drop}
use lib.Seq.{take_at, length-take-le}
use Rattle.model.specs.declared.Guid.{Guid}
use Rattle.model.proofs.Tests.{both}
use Rattle.model.specs.declared.WriterSet.{WriterSet}
use Rattle.model.specs.Guids.{num, nil}
use Rattle.model.specs.Sets.{members, set_of}
use Rattle.model.specs.Tables.{all, rising}
use Rattle.model.specs.WellFormed.{is_nil, set_ok}
use Rattle.model.proofs.Tests.{both}
use Rattle.writer_set.specs.Places.{Sound, padded}

-- ---- the record of a list

pub sound_of : (s : List Guid) → length s ≤ 16 → Sound (set_of s)
unfolding set_of
sound_of s h = record { few = h; nils = ap padded (sym (take_at s (replicate (16 - length s) nil) (length s) refl)) }

pub length-padded : (s : List Guid) → length s ≤ 16 → length (padded s) ≡ 16
length-padded s h = omega (arith, length-append s (replicate (16 - length s) nil), length-replicate (16 - length s) nil)

pub sound-size : (w : WriterSet) → Sound w → length w.items ≡ 16
sound-size w sound =
    ap length sound.nils ∙ length-padded (members w) (omega (arith, length-take w.len w.items, sound.few))

-- ---- valid sets

nil-num : (g : Guid) → is_nil g ≡ true → g ≡ nil
unfolding num
nil-num g e =
    let z : num g ≡ 0 = eqb-true (num g) 0 e in
    let h : g.hi ≡ 0 = omega arith in
    let l : g.lo ≡ 0 = omega arith in
    let whole : g ≡ record { hi = g.hi; lo = g.lo } = refl in cc

nils_are : (s : List Guid) → all is_nil s ≡ true → s ≡ replicate (length s) nil
unfolding all
nils_are [] e = refl
nils_are (x ∷ xs) e =
    let h = both (is_nil x) (all is_nil xs) e in
    let x≡ : x ≡ nil = nil-num x h.0 in
    let xs≡ : xs ≡ replicate (length xs) nil = nils_are xs h.1 in cc

pub members_rise : (w : WriterSet) → set_ok w ≡ true → rising num (members w) ≡ true
unfolding set_ok
members_rise w e = (both (rising num (members w)) (all is_nil (drop w.len w.items)) (both (leb w.len 16) _ e).1).0

pub set-sound : (w : WriterSet) → length w.items ≡ 16 → set_ok w ≡ true → Sound w
unfolding set_ok
set-sound w size e =
    let h = both (leb w.len 16) _ e in
    let few : w.len ≤ 16 = leb-true w.len 16 h.0 in
    let nils = nils_are (drop w.len w.items) (both (rising num (members w)) _ h.1).1 in
    let left : length (drop w.len w.items) ≡ 16 - length (members w) =
    omega (arith, length-drop w.len w.items, length-take-le w.len w.items (omega arith)) in
    record { few = few; nils = sym (take-append-drop w.len w.items) ∙ ap (λ (z : List Guid). members w ++ z) (rw left at nils) }
