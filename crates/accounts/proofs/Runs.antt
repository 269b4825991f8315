-- A list of calls from a state that has a figure runs with `call_of` as it does with `call_in` for that figure: one argument for
-- both figures.
--     left_in, told_in     from the fresh state: what a list leaves, and what the accounts are fed
--     after-in             the call after it
use Prim.Native.Nat.{ℕ}
use mathlib.Core.Bool.{true}
use mathlib.Core.List.{List, [], ◌∷◌}
use mathlib.Core.Path.{◌≡◌, refl, ap, ◌∙◌}
use Rattle.model.specs.Call.{Left, call_in, call_of}
use Rattle.model.specs.State.{Lent, figure_ok, fresh}
use Rattle.model.proofs.Figures.{call-in, in_kept}
use Rattle.accounts.specs.Accounts.{Lending, with_out, event_of, next, final, history}
use Rattle.accounts.specs.InstanceAccounts.{Event}

-- the head says so many places
abbrev Has : ℕ → Lent → Type 0
Has places l = l.head.places ≡ places

has-fresh : (places : ℕ) (out : List ℕ) → Has places (fresh places out)
unfolding fresh
has-fresh places out = refl

module _ (places : ℕ) (ok : figure_ok places ≡ true) where
  next-in : (i : Lending) (l : Lent) → Has places l → next call_of i l ≡ next (call_in places) i l
  next-in i l has = call-in i.sheet (with_out i.out l) places ok has

  next-kept : (i : Lending) (l : Lent) → Has places l → Has places (next (call_in places) i l).lent
  next-kept i l has = in_kept places (with_out i.out l) has i.sheet

  final-in : (is : List Lending) (l : Lent) → Has places l → final call_of is l ≡ final (call_in places) is l
  unfolding final
  final-in [] l has = refl
  final-in (i ∷ is) l has =
      ap (λ (r : Left). final call_of is r.lent) (next-in i l has) ∙ final-in is (next (call_in places) i l).lent (next-kept i l has)

  history-in : (is : List Lending) (l : Lent) → Has places l → history call_of is l ≡ history (call_in places) is l
  unfolding history
  history-in [] l has = refl
  history-in (i ∷ is) l has =
      ap (λ (r : Left). event_of i.sheet r.answer ∷ history call_of is r.lent) (next-in i l has)
      ∙ ap (λ (h : List Event). event_of i.sheet (next (call_in places) i l).answer ∷ h)
      (history-in is (next (call_in places) i l).lent (next-kept i l has))

  final-kept : (is : List Lending) (l : Lent) → Has places l → Has places (final (call_in places) is l)
  unfolding final
  final-kept [] l has = has
  final-kept (i ∷ is) l has = final-kept is (next (call_in places) i l).lent (next-kept i l has)

  -- ---- from the fresh state

  module _ (is : List Lending) (out : List ℕ) where
    pub left_in : final call_of is (fresh places out) ≡ final (call_in places) is (fresh places out)
    left_in = final-in is (fresh places out) (has-fresh places out)

    pub told_in : history call_of is (fresh places out) ≡ history (call_in places) is (fresh places out)
    told_in = history-in is (fresh places out) (has-fresh places out)

    -- the call after a list
    pub after-in : (i : Lending) → next call_of i (final call_of is (fresh places out)) ≡ next (call_in places) i (final (call_in places) is (fresh places out))
    after-in i =
        ap (λ (l : Lent). next call_of i l) left_in
        ∙ next-in i (final (call_in places) is (fresh places out)) (final-kept is (fresh places out) (has-fresh places out))
