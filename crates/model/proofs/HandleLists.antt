-- Handles in the front of Out.
--     length-handles, handles-append       the bytes of handles
--     list_start, list_more, length-list   a list in Out: of nothing; of one handle more; Out is as long as it was
use Prim.Native.Nat.{ℕ, ◌+◌, ◌*◌, ◌≤◌}
use mathlib.Core.List.{List, [], ◌∷◌, ◌++◌, append_assoc, append-nil}
use mathlib.Core.Path.{◌≡◌, refl, sym, ap, ◌∙◌}
use native.Mathlib.Omega.{arith}
use lib.ListN.{length, drop, length-append, length-drop}
use lib.Seq.{drop-drop}
use Rattle.octets.specs.Octets.{put}
use Rattle.octets.specs.Patch.{digits}
use Rattle.octets.proofs.PatchLaws.{length_digits, put-patch, patch-behind}
use Rattle.model.specs.declared.Instance.{Instance}
use Rattle.model.specs.Call.{list_in}
use Rattle.model.specs.InstanceCalls.{handle_bytes}

pub length-handles : (xs : List Instance) → length (handle_bytes xs) ≡ length xs * 8
unfolding handle_bytes
length-handles [] = refl
length-handles (x ∷ xs) =
    omega (arith, length-append (digits 8 x.handle.0) (handle_bytes xs), length_digits 8 x.handle.0, length-handles xs)

pub handles-append : (xs ys : List Instance) → handle_bytes (xs ++ ys) ≡ handle_bytes xs ++ handle_bytes ys
unfolding handle_bytes
handles-append [] ys = refl
handles-append (x ∷ xs) ys = rw (handles-append xs ys) (sym (append_assoc (digits 8 x.handle.0) (handle_bytes xs) (handle_bytes ys)))

pub list_start : (out : List ℕ) → out ≡ list_in (handle_bytes []) out
unfolding handle_bytes
list_start out = refl

pub length-list : (xs : List Instance) (out : List ℕ) → length xs * 8 ≤ length out → length (list_in (handle_bytes xs) out) ≡ length out
length-list xs out h =
    omega (arith, length-append (handle_bytes xs) (drop (length (handle_bytes xs)) out), length-handles xs, length-drop (length (handle_bytes xs)) out)

pub list_more : (xs : List Instance) (x : Instance) (out : List ℕ) → length xs * 8 + 8 ≤ length out →
    put 8 (list_in (handle_bytes xs) out) (length xs * 8) x.handle.0 ≡ list_in (handle_bytes (xs ++ x ∷ [])) out
unfolding handle_bytes
list_more xs x out h =
    let n : ℕ = length xs * 8 in
    let b : List ℕ = handle_bytes xs in
    let d : List ℕ = digits 8 x.handle.0 in
    let e : length b ≡ n = length-handles xs in
    let f : handle_bytes (xs ++ x ∷ []) ≡ b ++ d = handles-append xs (x ∷ []) ∙ ap (λ (z : List ℕ). b ++ z) (append-nil d) in
    let m : length (b ++ d) ≡ length b + 8 = length-append b d ∙ ap (λ (k : ℕ). length b + k) (length_digits 8 x.handle.0) in
    put-patch 8 (list_in b out) n x.handle.0 (omega (arith, length-list xs out (omega arith)))
    ∙ patch-behind b (drop (length b) out) n 8 d e ∙ sym (rw (f, m) (append_assoc b d (drop (length b + 8) out) ∙ ap (λ (z : List ℕ). b ++ (d ++ z)) (sym (drop-drop 8 (length b) out))))
