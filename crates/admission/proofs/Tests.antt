-- The chain of tests of code 48, link by link.
--     out_of_order, filtered                           outcomes 1 and 2, of a known key
--     crowded_out, weaker, admits-known                refusal 10, outcome 4, and the sample is admitted
--     new_limited, new_full, new_spent, admits_new     outcome 3, refusals 9 and 13, and the sample is admitted, of a new key
use Prim.Native.Nat.{ℕ}
use mathlib.Core.Bool.{Bool, true, false, not, ◌||◌}
use mathlib.Core.Option.{Option, none, some}
use mathlib.Core.Path.{◌≡◌, refl, ap, ◌∙◌}
use lib.ListN.{length}
use Rattle.model.specs.declared.Instance.{Instance}
use Rattle.model.specs.declared.Sheet.{Sheet}
use Rattle.model.specs.Answers.{stopping}
use Rattle.model.specs.InstanceCalls.{refused, unchanged, known, full, spent, crowds, accepted}
use Rattle.model.specs.Instances.{has_key}
use Rattle.model.specs.Joined.{in_order, passes_filter, admitted, admit_with, admit_call}
use Rattle.model.specs.State.{State}
use Rattle.model.specs.Tables.{is_some, find}
use Rattle.model.specs.Times.{filter_admits, order_admits}
use Rattle.tables.proofs.Finds.{any-find}
use Rattle.admission.specs.Admits.{Timely, limited}

module _ (places : ℕ) (s : Sheet) (st : State) where
  known_is : (x : Option Instance) → find (has_key s.key) st.instances ≡ x → known s st ≡ is_some x
  known_is x f = any-find (has_key s.key) st.instances ∙ ap is_some f

  -- ---- x is the instance of the key

  module _ (x : Instance) (f : find (has_key s.key) st.instances ≡ some x) where
    pub out_of_order : in_order s (some x) ≡ false → admit_call places s st ≡ unchanged (stopping 1) st
    unfolding admit_with
    out_of_order a = rw (f, a)

    pub filtered : in_order s (some x) ≡ true → passes_filter s (some x) ≡ false → admit_call places s st ≡ unchanged (stopping 2) st
    unfolding admit_with
    filtered a b = rw (f, a, b)

    module _ (t : Timely s x) where
      pub crowded_out : crowds s (some x) ≡ true → admit_call places s st ≡ refused 10 st
      unfolding admit_with
      crowded_out a = rw (f, t.order, t.filter, known_is (some x) f, a)

      pub weaker : crowds s (some x) ≡ false → accepted s (some x) ≡ false → admit_call places s st ≡ unchanged (stopping 4) st
      unfolding admit_with
      weaker a b = rw (f, t.order, t.filter, known_is (some x) f, a, b)

      pub admits-known : crowds s (some x) ≡ false → accepted s (some x) ≡ true → admit_call places s st ≡ admitted s st
      unfolding admit_with
      admits-known a b = rw (f, t.order, t.filter, known_is (some x) f, a, b)

  -- ---- no instance has the key

  or_true : (b : Bool) → (b || true) ≡ true
  or_true true = refl
  or_true false = refl

  -- a new instance has no last times
  first-order : in_order s none ≡ true
  unfolding order_admits
  first-order = or_true (not s.by_source)

  first-filter : passes_filter s none ≡ true
  unfolding filter_admits
  first-filter = refl

  module _ (f : find (has_key s.key) st.instances ≡ none) where
    pub new_limited : limited s (length st.instances) ≡ true → admit_call places s st ≡ unchanged (stopping 3) st
    unfolding admit_with
    new_limited a = rw (f, first-order, first-filter, known_is none f, a)

    module _ (l : limited s (length st.instances) ≡ false) where
      pub new_full : full places st ≡ true → admit_call places s st ≡ refused 9 st
      unfolding admit_with
      new_full a = rw (f, first-order, first-filter, known_is none f, l, a)

      pub new_spent : full places st ≡ false → spent st ≡ true → admit_call places s st ≡ refused 13 st
      unfolding admit_with
      new_spent a b = rw (f, first-order, first-filter, known_is none f, l, a, b)

      pub admits_new : full places st ≡ false → spent st ≡ false → admit_call places s st ≡ admitted s st
      unfolding admit_with
      admits_new a b = rw (f, first-order, first-filter, known_is none f, l, a, b)
