-- Laws of fields one after the other.
--     get_or-puts-out     a byte outside of the layout is as it was
--     be-puts-out       so is a number
--     reads-puts        what was written is read back, field by field
--     reads-part        fields are the same in a part of the list that has them all
--     reads-out         fields apart from what was written are as they were
use mathlib.Core.Path.{◌≡◌, refl, ◌∙◌}
use mathlib.Core.Logic.{◌⊎◌, inl, inr, ⊎_elim}
use mathlib.Core.List.{List, [], ◌∷◌}
use Prim.Native.Nat.{ℕ, ◌+◌, ◌≤◌, ◌<◌}
use native.Mathlib.Omega.{arith}
use lib.ListN.{length, get_or, take, drop}
use Rattle.octets.specs.Octets.{be, put}
use Rattle.octets.specs.Fields.{total, reads, puts, Fit}
use Rattle.octets.proofs.Laws.{length-put, get_or-put-out, be-same, be-part, be-put}

pub get_or-puts-out : (ks vs s : List ℕ) (at o i : ℕ) → (i < at + o) ⊎ (at + o + total ks ≤ i) → get_or (puts ks vs s at o) i 0 ≡ get_or s i 0
get_or-puts-out [] vs s at o i h = refl
get_or-puts-out (k ∷ ks) [] s at o i h = refl
get_or-puts-out (k ∷ ks) (v ∷ vs) s at o i h =
    get_or-puts-out ks vs (put k s (at + o) v) at (o + k) i (⊎_elim (λ l. inl (omega arith)) (λ r. inr (omega arith)) h)
    ∙ get_or-put-out k s (at + o) v i (⊎_elim (λ l. inl l) (λ r. inr (omega arith)) h)

pub be-puts-out : (j : ℕ) (ks vs s : List ℕ) (at o i : ℕ) → (i + j ≤ at + o) ⊎ (at + o + total ks ≤ i) → be j (puts ks vs s at o) i ≡ be j s i
be-puts-out j ks vs s at o i h =
    be-same j (puts ks vs s at o) s i
    (λ n a b. get_or-puts-out ks vs s at o n (⊎_elim (λ l. inl (omega arith)) (λ r. inr (omega arith)) h))

pub reads-puts : (ks vs s : List ℕ) (at o : ℕ) → at + o + total ks ≤ length s → Fit ks vs → reads ks (puts ks vs s at o) at o ≡ vs
reads-puts [] [] s at o h f = refl
reads-puts [] (v ∷ vs) s at o h f = absurd f
reads-puts (k ∷ ks) [] s at o h f = absurd f
reads-puts (k ∷ ks) (v ∷ vs) s at o h f =
    let t : List ℕ = put k s (at + o) v in
    let first : be k (puts ks vs t at (o + k)) (at + o) ≡ v =
    be-puts-out k ks vs t at (o + k) (at + o) (inl (omega arith)) ∙ be-put k s (at + o) v (omega arith) f.0 in
    let rest : reads ks (puts ks vs t at (o + k)) at (o + k) ≡ vs =
    reads-puts ks vs t at (o + k) (omega (arith, length-put k s (at + o) v)) f.1 in
    cc

pub reads-out : (js ks vs s : List ℕ) (i p at o : ℕ) → (i + p + total js ≤ at + o) ⊎ (at + o + total ks ≤ i + p) → reads js (puts ks vs s at o) i p ≡ reads js s i p
reads-out [] ks vs s i p at o h = refl
reads-out (j ∷ js) ks vs s i p at o h =
    let first : be j (puts ks vs s at o) (i + p) ≡ be j s (i + p) =
    be-puts-out j ks vs s at o (i + p) (⊎_elim (λ l. inl (omega arith)) (λ r. inr (omega arith)) h) in
    let rest : reads js (puts ks vs s at o) i (p + j) ≡ reads js s i (p + j) =
    reads-out js ks vs s i (p + j) at o (⊎_elim (λ l. inl (omega arith)) (λ r. inr (omega arith)) h) in
    cc

pub reads-part : (ks : List ℕ) (n : ℕ) (t : List ℕ) (at o : ℕ) → o + total ks ≤ n → reads ks (take n (drop at t)) 0 o ≡ reads ks t at o
reads-part [] n t at o h = refl
reads-part (k ∷ ks) n t at o h =
    let e : 0 + o ≡ o = omega arith in
    let first : be k (take n (drop at t)) (0 + o) ≡ be k t (at + o) = rw e (be-part k n at t o (omega arith)) in
    let rest : reads ks (take n (drop at t)) 0 (o + k) ≡ reads ks t at (o + k) = reads-part ks n t at (o + k) (omega arith) in
    cc
