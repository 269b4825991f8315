-- Sums over instances.
--     total-append, total-take             the sum, an instance more
--     total-pick                           the sum of a test's bits is the number of which it holds
--     drop-same                            what agrees from n on agrees from later on
use Prim.Native.Nat.{ℕ, ◌+◌, ◌-◌, ◌≤◌, ◌<◌}
use mathlib.Core.Bool.{Bool}
use mathlib.Core.List.{List, [], ◌∷◌, ◌++◌}
use mathlib.Core.Path.{◌≡◌, refl, sym, ap, ◌∙◌}
use native.Mathlib.Nat.{add_assoc}
use native.Mathlib.Numerals.{add-one}
use native.Mathlib.Omega.{arith}
use lib.ListN.{length, get_or, take, drop}
use lib.Seq.{take-suc, drop-drop}
use Rattle.model.specs.declared.Instance.{Instance}
use Rattle.model.specs.InstanceRecord.{bit}
use Rattle.model.specs.Tables.{pick}
use Rattle.model.proofs.Tests.{split}
use Rattle.instance_pass.specs.Passes.{total}

-- ---- sums

module _ (a : Instance → ℕ) where
  pub total-append : (xs ys : List Instance) → total a (xs ++ ys) ≡ total a xs + total a ys
  unfolding total
  total-append [] ys = omega arith
  total-append (x ∷ xs) ys = rw (total-append xs ys) (sym (add_assoc (a x) (total a xs) (total a ys)))

  pub total-take : (xs : List Instance) (i : ℕ) (d : Instance) → i < length xs → total a (take (i + 1) xs) ≡ total a (take i xs) + a (get_or xs i d)
  unfolding total
  total-take xs i d h =
      rw (add-one, take-suc xs i d h) (total-append (take i xs) (get_or xs i d ∷ []) ∙ ap (λ (n : ℕ). total a (take i xs) + n) (omega arith))

pub total-pick : (q : Instance → Bool) (xs : List Instance) → total (λ (x : Instance). bit (q x)) xs ≡ length (pick q xs)
unfolding total pick
total-pick q [] = refl
total-pick q (x ∷ xs) = split (q x) (λ e. rw e (omega (arith, total-pick q xs))) (λ e. rw e (omega (arith, total-pick q xs)))

-- ---- what agrees from n on

pub drop-same : (n m : ℕ) (t u : List ℕ) → n ≤ m → drop n t ≡ drop n u → drop m t ≡ drop m u
drop-same n m t u h e =
    let k : n + (m - n) ≡ m = omega arith in
    sym (drop-drop (m - n) n t ∙ ap (λ (j : ℕ). drop j t) k) ∙ ap (λ (z : List ℕ). drop (m - n) z) e ∙ drop-drop (m - n) n u
    ∙ ap (λ (j : ℕ). drop j u) k
