-- When a lost writer, or several, leave an alive instance without writers.
--     empty_removed      a set without a writer is empty exactly if it had no other
--     leaves-one         code 7 on an alive instance
--     lost_abandoned     several lost writers
--     counted-out        code 4
--     unregistered-kind, unregistered-writer-kind      the kinds that codes 4 and 5 leave
use mathlib.Core.Bool.{Bool, true, false, not, ◌||◌, cond}
use mathlib.Core.List.{List, [], ◌∷◌}
use mathlib.Core.Path.{◌≡◌, refl, sym, ap, ◌∙◌}
use Prim.Native.Nat.{ℕ, suc, ◌-◌, ◌≤◌, ◌<◌}
use native.Mathlib.Omega.{arith}
use borrow.Author.Tests.{eqb-true, eq-eqb, ne_eqb, leb-true, leb-false}
use lib.Dec.{eqb, leb}
use Rattle.model.specs.declared.Guid.{Guid}
use Rattle.model.specs.declared.InstanceState.{InstanceState}
use Rattle.model.specs.declared.InstanceStateKind.TheVariants.{Alive, NotAliveNoWriters}
use Rattle.model.specs.declared.MaybeTime.{MaybeTime}
use Rattle.model.specs.Guids.{num, same}
use Rattle.model.specs.Instances.{is_alive, is_disposed, left_by, unregistered, writer_unregistered, writers_in}
use Rattle.model.specs.Joined.{left_without, left_without_all}
use Rattle.model.specs.Sets.{has, remove, is_empty}
use Rattle.model.specs.Tables.{all}
use Rattle.model.proofs.Tests.{split}
use Rattle.accounts.specs.Ranges.{bound}
use Rattle.accounts.proofs.Basics.{never, eqb_sym}
use Rattle.accounts.proofs.Sound.{remove-within}
use Rattle.accounts.proofs.TurnLaws.{Within}
use Rattle.abandonment.specs.Causes.{is_no_writers, leaves_all}
use Rattle.abandonment.proofs.SetLaws.{has-below, remove_absent, and_true, and_never}
use Rattle.abandonment.proofs.KindLaws.{left-kind, left-set, not_empty}

-- the writer is g
abbrev pub is : Guid → Guid → Bool
is g m = same m g

-- the writer is one of those gone
abbrev pub is_in : List Guid → Guid → Bool
is_in gs m = has m gs

-- ---- one writer

-- a set that rises above g does not have it
all-below : (lo hi : ℕ) (g : Guid) (xs : List Guid) → num g < lo → Within num lo hi xs → is_empty xs ≡ all (is g) xs
unfolding all
all-below lo hi g [] l w = refl
all-below lo hi g (x ∷ xs) l w = rw (ne_eqb (num x) (num g) (λ q. omega arith))

pub empty_removed : (lo hi : ℕ) (g : Guid) (xs : List Guid) → Within num lo hi xs → is_empty (remove g xs) ≡ all (is g) xs
unfolding all remove
empty_removed lo hi g [] w = refl
empty_removed lo hi g (x ∷ xs) w =
    split (same x g)
    (λ e.
    let q : num x ≡ num g = eqb-true (num x) (num g) e in
    rw e (all-below (suc (num x)) hi g xs (omega arith) w.2))
    (λ e. rw e)

only-has : (g : Guid) (xs : List Guid) → all (is g) xs ≡ true → has g xs ≡ not (is_empty xs)
unfolding all has
only-has g [] e = refl
only-has g (x ∷ xs) e =
    split (same x g) (λ d. rw d) (λ d. let z : false ≡ true = rw d at e in never (sym z))

pub leaves-one : (g : Guid) (x : InstanceState) → Within num 0 bound (writers_in x) → x.life.kind ≡ Alive →
    left_by g x ≡ leaves_all (is g) (writers_in x)
unfolding left_by
leaves-one g x w a =
    rw (a, empty_removed 0 bound g (writers_in x) w)
    (split (all (is g) (writers_in x))
    (λ e. rw (e, only-has g (writers_in x) e))
    (λ e. rw (e, and_never (has g (writers_in x)), and_never (not (is_empty (writers_in x))))))

-- a kind told from a test
pub told-kind : (b : Bool) → is_no_writers (cond b NotAliveNoWriters Alive) ≡ b
told-kind true = refl
told-kind false = refl

-- ---- several

all_weaker : (p q : Guid → Bool) → ((m : Guid) → p m ≡ true → q m ≡ true) → (xs : List Guid) → all p xs ≡ true →
    all q xs ≡ true
unfolding all
all_weaker p q h [] e = refl
all_weaker p q h (x ∷ xs) e =
    split (p x) (λ d. rw (h x d) (all_weaker p q h xs (rw d at e)))
    (λ d. let z : false ≡ true = rw d at e in never (sym z))

pub all_same : (p q : Guid → Bool) (xs : List Guid) → ((m : Guid) → has m xs ≡ true → p m ≡ q m) → all p xs ≡ all q xs
unfolding all has
all_same p q [] h = refl
all_same p q (x ∷ xs) h =
    rw (h x (rw (eq-eqb (num x) (num x) refl)), all_same p q xs (λ m e. h m (later (same x m) e)))
  where
    later : (b : Bool) {c : Bool} → c ≡ true → (b || c) ≡ true
    later true e = refl
    later false e = e

first-in : (g m : Guid) (gs : List Guid) → same m g ≡ true → has m (g ∷ gs) ≡ true
unfolding has
first-in g m gs e = rw (eqb_sym (num g) (num m), e)

all-absent : (g : Guid) (gs : List Guid) (xs : List Guid) → has g xs ≡ false →
    all (is_in gs) xs ≡ all (is_in (g ∷ gs)) xs
unfolding all has
all-absent g gs [] e = refl
all-absent g gs (x ∷ xs) e =
    split (same x g)
    (λ d. never (rw d at e))
    (λ d. rw (eqb_sym (num g) (num x), d, all-absent g gs xs (rw d at e)))

all_remove : (lo hi : ℕ) (g : Guid) (gs : List Guid) (xs : List Guid) → Within num lo hi xs →
    all (is_in gs) (remove g xs) ≡ all (is_in (g ∷ gs)) xs
unfolding all has remove
all_remove lo hi g gs [] w = refl
all_remove lo hi g gs (x ∷ xs) w =
    split (same x g)
    (λ e.
    let q : num x ≡ num g = eqb-true (num x) (num g) e in
    rw (e, eqb_sym (num g) (num x), e) (all-absent g gs xs (has-below (suc (num x)) hi g xs (omega arith) w.2)))
    (λ e. rw (e, eqb_sym (num g) (num x), e, all_remove (suc (num x)) hi g gs xs w.2))

-- one without writers stays so
lost_none : (gs : List Guid) (at : MaybeTime) (x : InstanceState) → x.life.kind ≡ NotAliveNoWriters →
    (left_without_all gs at x).life.kind ≡ NotAliveNoWriters
unfolding left_without_all
lost_none [] at x e = e
lost_none (g ∷ gs) at x e =
    lost_none gs at (left_without g at x)
    (left-kind g at x ∙ split (left_by g x) (λ d. rw d) (λ d. rw d e))

none_gone : (xs : List Guid) → false ≡ leaves_all (is_in []) xs
unfolding all has
none_gone [] = refl
none_gone (x ∷ xs) = refl

-- the set that is left, where the call does not empty it
still : (g : Guid) (x : InstanceState) → x.life.kind ≡ Alive → left_by g x ≡ false →
    is_empty (remove g (writers_in x)) ≡ is_empty (writers_in x)
unfolding left_by
still g x a e =
    split (has g (writers_in x))
    (λ d.
    let f : is_empty (remove g (writers_in x)) ≡ false = and_true (is_empty (remove g (writers_in x))) ∙ (rw (d, a) at e) in
    f ∙ sym (not_empty g (writers_in x) d))
    (λ d. ap is_empty (remove_absent g (writers_in x) d))

emptied : (g : Guid) (x : InstanceState) → left_by g x ≡ true →
    (has g (writers_in x) ≡ true) × (is_empty (remove g (writers_in x)) ≡ true)
unfolding left_by
emptied g x e =
    split (has g (writers_in x))
    (λ d.
    split (is_empty (remove g (writers_in x)))
    (λ f. (d, f))
    (λ f. let z : false ≡ true = rw (d, f) at e in never (sym z)))
    (λ d. let z : false ≡ true = rw d at e in never (sym z))

pub lost_abandoned : (gs : List Guid) (at : MaybeTime) (x : InstanceState) → Within num 0 bound (writers_in x) →
    x.life.kind ≡ Alive →
    is_no_writers (left_without_all gs at x).life.kind ≡ leaves_all (is_in gs) (writers_in x)
unfolding left_without_all
lost_abandoned [] at x w a = ap is_no_writers a ∙ none_gone (writers_in x)
lost_abandoned (g ∷ gs) at x w a =
    split (left_by g x) emptying
    (λ e.
    going e
    (lost_abandoned gs at (left_without g at x) (rw (left-set g at x) (remove-within 0 bound g (writers_in x) w))
    (left-kind g at x ∙ rw e a)))
  where
    emptying : left_by g x ≡ true →
        is_no_writers (left_without_all gs at (left_without g at x)).life.kind ≡ leaves_all (is_in (g ∷ gs)) (writers_in x)
    emptying e =
        ap is_no_writers (lost_none gs at (left_without g at x) (left-kind g at x ∙ rw e))
        ∙ sym (rw (not_empty g (writers_in x) (emptied g x e).0)
        (all_weaker (is g) (is_in (g ∷ gs)) (λ m d. first-in g m gs d) (writers_in x)
        (sym (empty_removed 0 bound g (writers_in x) w) ∙ (emptied g x e).1)))

    going : left_by g x ≡ false →
        is_no_writers (left_without_all gs at (left_without g at x)).life.kind ≡ leaves_all (is_in gs)
        (writers_in (left_without g at x)) →
        is_no_writers (left_without_all gs at (left_without g at x)).life.kind ≡ leaves_all (is_in (g ∷ gs)) (writers_in x)
    going e rest = rest ∙ rw (left-set g at x, still g x a e, all_remove 0 bound g gs (writers_in x) w)

-- ---- codes 4 and 5

pub counted-out : (n : ℕ) → eqb (n - 1) 0 ≡ leb n 1
counted-out n =
    split (leb n 1)
    (λ e. let l : n ≤ 1 = leb-true n 1 e in rw e (eq-eqb (n - 1) 0 (omega arith)))
    (λ e. let l : 1 < n = leb-false n 1 e in rw e (ne_eqb (n - 1) 0 (λ q. omega arith)))

pub unregistered-kind : (at : MaybeTime) (x : InstanceState) → x.life.kind ≡ Alive →
    (unregistered at x).life.kind ≡ cond (eqb (x.life.writer_count - 1) 0) NotAliveNoWriters Alive
unfolding unregistered
unregistered-kind at x a =
    rw (ap is_disposed a)
    (split (eqb (x.life.writer_count - 1) 0) (λ e. rw e) (λ e. rw e a))

pub unregistered-writer-kind : (g : Guid) (at : MaybeTime) (x : InstanceState) → x.life.kind ≡ Alive →
    (writer_unregistered g at x).life.kind ≡ cond (is_empty (remove g (writers_in x))) NotAliveNoWriters Alive
unfolding writer_unregistered
unregistered-writer-kind g at x a =
    rw (ap is_alive a) (split (is_empty (remove g (writers_in x))) (λ e. rw e) (λ e. rw e a))
