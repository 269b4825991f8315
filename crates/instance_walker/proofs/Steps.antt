-- A step of the walker, from what handle_at_position answers.
--     inside                                a position whose handle is given is below 128
--     step-refused, step_none, step_given   the step, by the answer
use Prim.Native.Nat.{ℕ, zero, suc, ◌+◌, ◌≤◌, ◌<◌}
use mathlib.Core.List.{List}
use mathlib.Core.Path.{◌≡◌, refl, ap, ◌∙◌}
use mathlib.Core.Logic.{⊎_elim}
use native.Mathlib.Omega.{arith}
use Rattle.model.specs.declared.FoundHandle.{FoundHandle}
use Rattle.model.specs.declared.FoundHandle.TheVariants.{Is as found_handle_is, Missing as found_handle_missing, Refused as found_handle_refused}
use Rattle.model.specs.declared.InstanceHandle.{InstanceHandle}
use Rattle.model.specs.Reads.{used_in, table_refusal, walk_read}
use Rattle.model.specs.State.{places_in}
use Rattle.model.proofs.Figures.{figure-few, figure-in}
use Rattle.model.proofs.Tests.{lt-or-le}
use Rattle.instance_reads.proofs.Table.{whole}
use Rattle.instance_reads.proofs.Walks.{handle_past}
use Rattle.instance_walker.specs.declared.Walked.{Walked}
use Rattle.instance_walker.specs.Walk.{walked}

-- answers of two cases differ
abbrev case_of : FoundHandle → ℕ
case_of (found_handle_refused n) = 0
case_of found_handle_missing = 1
case_of (found_handle_is h) = 2

module _ (t : List ℕ) (position : ℕ) where
  pub inside : (h : InstanceHandle) → walk_read (places_in t) t position ≡ found_handle_is h → position < 128
  unfolding walk_read
  inside h e = each (table_refusal (places_in t) t) refl
    where
      past : table_refusal (places_in t) t ≡ 0 → used_in (places_in t) t ≤ position → position < 128
      past q l =
          let z : ◌≡◌ {A = ℕ} 1 2 = ap case_of (handle_past (places_in t) t position l ∙ (rw q at e)) in
          absurd (omega arith)

      each : (n : ℕ) → table_refusal (places_in t) t ≡ n → position < 128
      each zero q = ⊎_elim (λ l. omega (arith, (whole (places_in t) t q).few, figure-few (places_in t) (figure-in t))) (past q) (lt-or-le position (used_in (places_in t) t))
      each (suc n) q =
          let z : ◌≡◌ {A = ℕ} 0 2 = ap case_of (rw q at e) in
          absurd (omega arith)

  module _ (f : FoundHandle) (e : f ≡ walk_read (places_in t) t position) where
    abbrev stepped : ℕ → Walked
    stepped p = record { found = f; position = p }

    pub step-refused : (n : ℕ) → f ≡ found_handle_refused n → stepped position ≡ walked (places_in t) t position
    unfolding walked
    step-refused n a = rw (← e, a) refl

    pub step_none : f ≡ found_handle_missing → stepped position ≡ walked (places_in t) t position
    unfolding walked
    step_none a = rw (← e, a) refl

    pub step_given : (h : InstanceHandle) → f ≡ found_handle_is h → stepped (position + 1) ≡ walked (places_in t) t position
    unfolding walked
    step_given h a = rw (← e, a) refl
