-- Laws that the proofs cite.
--     times_on, times_off      the times of a call, one after the other
--     refuses_4, refuses_6, refuses_none      the chain of refusals
use mathlib.Core.Bool.{Bool, true, false, ◌&&◌, cond}
use mathlib.Core.Path.{◌≡◌, refl, sym, ◌∙◌}
use mathlib.Core.List.{List, [], ◌∷◌}
use Rattle.model.specs.declared.Rule.{Rule}
use Rattle.model.specs.declared.Sheet.{Sheet}
use Rattle.model.specs.declared.InstanceCall.{InstanceCall}
use Rattle.model.specs.Calls.{instances}
use Rattle.model.specs.Instances.{rule}
use Rattle.model.specs.Refusals.{used, with_time, times_used_by, nanoseconds_ok, holder_fits, sheet_refusal}
use Rattle.model.specs.State.{State}
use Rattle.model.specs.Tables.{all}

and_true : (b : Bool) → (b && true) ≡ b
and_true true = refl
and_true false = refl

-- a time that is used or not, before others
with_first : {A : Type 0} (p : A → Bool) (b : Bool) (x : A) (xs : List A) → all p (cond b (x ∷ xs) xs) ≡ (all p (cond b (x ∷ []) []) && all p xs)
unfolding all
with_first p true x xs = rw (and_true (p x))
with_first p false x xs = refl

-- the times of a call, by its row
module _ (c : InstanceCall) (s : Sheet) (r : Rule) (row : r ≡ rule c) where
  pub times_on : (b : Bool) → all nanoseconds_ok (with_time r.time_1 s.time_1 []) ≡ true →
      b ≡ all nanoseconds_ok (with_time r.time_2 s.time_2 []) → b ≡ all nanoseconds_ok (times_used_by c s)
  times_on b e f =
      rw (← row) (f ∙ sym (with_first nanoseconds_ok (used r.time_1 s.time_1.present) s.time_1 _ ∙ rw e))

  pub times_off : all nanoseconds_ok (with_time r.time_1 s.time_1 []) ≡ false → false ≡ all nanoseconds_ok (times_used_by c s)
  times_off e = rw (← row) (sym (with_first nanoseconds_ok (used r.time_1 s.time_1.present) s.time_1 _ ∙ rw e))

-- the chain of refusals of a call on instances
module _ (c : InstanceCall) (s : Sheet) (st : State) where
  pub refuses_4 : all nanoseconds_ok (times_used_by c s) ≡ false → 4 ≡ sheet_refusal (instances c) s st
  unfolding sheet_refusal
  refuses_4 e = rw e

  pub refuses_6 : all nanoseconds_ok (times_used_by c s) ≡ true → holder_fits (instances c) s ≡ false → 6 ≡ sheet_refusal (instances c) s st
  unfolding sheet_refusal all
  refuses_6 e h = rw (e, h)

  pub refuses_none : all nanoseconds_ok (times_used_by c s) ≡ true → holder_fits (instances c) s ≡ true → 0 ≡ sheet_refusal (instances c) s st
  unfolding sheet_refusal all
  refuses_none e h = rw (e, h)
