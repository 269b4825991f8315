-- Records at their places in a list of bytes.
--     drop-take                     the rest of the first elements
--     guid-in                       a GUID of the writer set
--     guids_are                     the set, each GUID read at its place
--     holder_tail                   the holder's bytes behind its length
--     kind_rest                     each number from 2 on is the last kind
--     lent-part, put_back           a record lent as a part of a table, and what it becomes when it is back
use Prim.Native.Nat.{ℕ, zero, suc, ◌+◌, ◌-◌, ◌*◌, ◌<◌}
use mathlib.Core.Path.{◌≡◌, refl, sym, ap, ◌∙◌}
use mathlib.Core.List.{List, [], ◌∷◌}
use native.Mathlib.Omega.{arith}
use borrow.Rule.Slice.PartMut.{put_mid}
use lib.ListN.{length, take, drop, get_or}
use lib.Seq.{drop-drop, take-nil, ext_get_or}
use Rattle.octets.specs.Patch.{patch}
use Rattle.octets.specs.Zeros.{all_zero}
use Rattle.model.specs.declared.Guid.{Guid}
use Rattle.model.specs.declared.InstanceStateKind.TheVariants.{NotAliveNoWriters}
use Rattle.model.specs.Guids.{guid_at, guid_of, guids_in, nil}
use Rattle.model.specs.InstanceRecord.{kind_numbered}
use Rattle.model.proofs.GuidLaws.{guid-part}
use Rattle.model.proofs.RowLaws.{length_read, get_read}

pub drop-take : {A : Type 0} (n m : ℕ) (l : List A) → drop n (take m l) ≡ take (m - n) (drop n l)
drop-take zero m l = let e : m - 0 ≡ m = omega arith in rw e
drop-take (suc n) zero l = let e : 0 - suc n ≡ 0 = omega arith in rw e
drop-take (suc n) (suc m) [] = sym (take-nil (suc m - suc n))
drop-take (suc n) (suc m) (x ∷ l) = let e : suc m - suc n ≡ m - n = omega arith in rw e (drop-take n m l)

pub guid-in : (s : List ℕ) (i : ℕ) → guid_of (take 16 (drop (i * 16) (drop 256 s))) ≡ guid_at s (256 + i * 16)
guid-in s i = rw (drop-drop (i * 16) 256 s) (guid-part 16 (256 + i * 16) s (omega arith))

-- the GUIDs of the writer set, each read at its place
pub guids_are : (r : List Guid) (s : List ℕ) → length r ≡ 16 → ((i : ℕ) → i < 16 → get_or r i nil ≡ guid_at s (256 + i * 16)) → r ≡ guids_in 16 (drop 256 s)
guids_are r s e f =
    ext_get_or nil r (guids_in 16 (drop 256 s)) (e ∙ sym (length_read guid_of 16 16 (drop 256 s)))
    (λ i l. f i (omega arith) ∙ sym (get_read guid_of 16 16 (drop 256 s) i nil (omega arith) ∙ guid-in s i))

pub holder_tail : (s : List ℕ) (n : ℕ) → all_zero (drop n (take 144 (drop 112 s))) ≡ all_zero (take (256 - (112 + n)) (drop (112 + n) s))
holder_tail s n =
    let e : 256 - (112 + n) ≡ 144 - n = omega arith in
    ap all_zero (drop-take n 144 (drop 112 s)) ∙ rw (drop-drop n 112 s, e)

pub kind_rest : (n : ℕ) → (n ≡ 0 → ⊥) → (n ≡ 1 → ⊥) → NotAliveNoWriters ≡ kind_numbered n
kind_rest zero a b = absurd (a refl)
kind_rest (suc zero) a b = absurd (b refl)
kind_rest (suc (suc n)) a b = refl

-- a record of `size` bytes lent as the part from o up to o + size
pub lent-part : (o size : ℕ) (t : List ℕ) → take (o + size - o) (drop o t) ≡ take size (drop o t)
lent-part o size t = let e : o + size - o ≡ size = omega arith in rw e

pub put_back : (o size : ℕ) (t r : List ℕ) → put_mid o (o + size - o) t r ≡ patch t o size r
put_back o size t r = let e : o + size - o ≡ size = omega arith in rw (e, drop-drop size o t)
