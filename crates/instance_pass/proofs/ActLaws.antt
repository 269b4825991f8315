-- Acts over the instances of a list.
--     Agree, passed_as     acts that agree on each instance leave the same of a pass
--     all-kept             an act that purges nothing leaves as many
use Prim.Native.Nat.{ℕ, ◌+◌}
use mathlib.Core.Bool.{true}
use mathlib.Core.List.{List, [], ◌∷◌}
use mathlib.Core.Option.{Option, none, some}
use mathlib.Core.Path.{◌≡◌, refl, ap, ◌∙◌}
use native.Mathlib.Omega.{arith}
use lib.ListN.{length}
use Rattle.octets.specs.Lay.{All}
use Rattle.model.specs.declared.Instance.{Instance}
use Rattle.model.specs.declared.InstanceState.{InstanceState}
use Rattle.model.specs.Call.{list_in}
use Rattle.model.specs.InstanceCalls.{kept, handle_bytes}
use Rattle.model.specs.Tables as tables
use Rattle.model.specs.Tables.{is_some, pick, sift}
use Rattle.model.proofs.Tests.{clash}
use Rattle.instance_pass.specs.declared.PassCounts.{PassCounts}
use Rattle.instance_pass.specs.Acts.{Act, Keeps}
use Rattle.instance_pass.specs.Passes.{remaining, listing, amount, total, Passed}

-- ---- two acts

-- they make the same of the instance x
pub record Agree (a b : Act) (x : Instance) : Type 0 where
  pub left : a.left x.state ≡ b.left x.state
  pub listed : a.listed x.state ≡ b.listed x.state
  pub counted : a.counted x.state ≡ b.counted x.state

module _ (a b : Act) where
  same_left : (xs : List Instance) → All (Agree a b) xs → sift (remaining a) xs ≡ sift (remaining b) xs
  unfolding sift
  same_left [] h = refl
  same_left (x ∷ xs) h = rw (h.0.left, same_left xs h.1)

  same-listed : (xs : List Instance) → All (Agree a b) xs → pick (listing a) xs ≡ pick (listing b) xs
  unfolding pick
  same-listed [] h = refl
  same-listed (x ∷ xs) h = rw (h.0.listed, same-listed xs h.1)

  same-counted : (xs : List Instance) → All (Agree a b) xs → total (amount a) xs ≡ total (amount b) xs
  unfolding total
  same-counted [] h = refl
  same-counted (x ∷ xs) h = rw (h.0.counted, same-counted xs h.1)

  pub passed_as : (xs : List Instance) (t out t' out' : List ℕ) (r : PassCounts) → All (Agree a b) xs → Passed a xs t out t' out' r → Passed b xs t out t' out' r
  passed_as xs t out t' out' r h p =
      record {
        laid = λ places l. rw (same_left xs h) at (p.laid places l);
        list = p.list ∙ ap (λ (ys : List Instance). list_in (handle_bytes ys) out) (same-listed xs h);
        kept = p.kept ∙ ap length (same_left xs h);
        listed = p.listed ∙ ap length (same-listed xs h);
        counted = p.counted ∙ same-counted xs h;
      }

-- ---- an act that purges nothing

one_kept : (x : Instance) (o : Option InstanceState) → is_some o ≡ true → (ys : List Instance) → length (tables.kept (kept x o) ys) ≡ length ys + 1
one_kept x none e ys = clash (is_some {A = InstanceState} none) e refl
one_kept x (some y) e ys = omega arith

pub all-kept : (a : Act) → Keeps a → (xs : List Instance) → length (sift (remaining a) xs) ≡ length xs
unfolding sift
all-kept a k [] = refl
all-kept a k (x ∷ xs) = omega (arith, one_kept x (a.left x.state) (k x.state) (sift (remaining a) xs), all-kept a k xs)
