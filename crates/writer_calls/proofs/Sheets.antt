-- What the sheet of a call on writers decides, over plain variables.
--     tracker_5, tracker_7, tracker_8, tracker_none     the links of the chain that such a call has
--     clocks_fine, acknowledges_fine                    what a sheet that meets no refusal has
use Prim.Native.Nat.{ℕ}
use mathlib.Core.Bool.{Bool, true, false, not, cond}
use mathlib.Core.Path.{◌≡◌, refl, sym, ap, ◌∙◌}
use native.Mathlib.Omega.{arith}
use Rattle.model.specs.declared.Sheet.{Sheet}
use Rattle.model.specs.declared.TrackerCall.{TrackerCall}
use Rattle.model.specs.declared.TrackerRule.{TrackerRule}
use Rattle.model.specs.Calls.{tracker}
use Rattle.model.specs.Refusals.{clocks_with, clocks_used_by, kind_with, kind_ok, acknowledge_ok, sheet_refusal}
use Rattle.model.specs.State.{State}
use Rattle.model.specs.Tables.{all}
use Rattle.model.specs.WellFormed.{clock_ok}
use Rattle.model.specs.Writers.{tracker_rule, acknowledgeable, acknowledgeable_with}
use Rattle.call_codes.proofs.SheetChain.{sheet_5, sheet_7, sheet_8, sheet_none}

-- from the columns of the row that the code reads
module _ (c : TrackerCall) (s : Sheet) (st : State) (rule : TrackerRule) (row : rule ≡ tracker_rule c) where
  clocks_as : {b : Bool} → all clock_ok (clocks_with rule.clocks s) ≡ b → all clock_ok (clocks_used_by c s) ≡ b
  clocks_as e = ap (λ (r : TrackerRule). all clock_ok (clocks_with r.clocks s)) (sym row) ∙ e

  kind_as : {b : Bool} → kind_with rule.matches s ≡ b → kind_ok (tracker c) s ≡ b
  kind_as e = ap (λ (r : TrackerRule). kind_with r.matches s) (sym row) ∙ e

  acknowledge_as : {b : Bool} → acknowledgeable_with rule.acknowledges s st ≡ b → acknowledge_ok (tracker c) s st ≡ b
  acknowledge_as e = ap (λ (r : TrackerRule). acknowledgeable_with r.acknowledges s st) (sym row) ∙ e

  pub tracker_5 : all clock_ok (clocks_with rule.clocks s) ≡ false → 5 ≡ sheet_refusal (tracker c) s st
  unfolding all
  tracker_5 e = sheet_5 (tracker c) s st refl (clocks_as e)

  module _ (clocks : all clock_ok (clocks_with rule.clocks s) ≡ true) where
    pub tracker_7 : kind_with rule.matches s ≡ false → 7 ≡ sheet_refusal (tracker c) s st
    unfolding all
    tracker_7 e = sheet_7 (tracker c) s st refl (clocks_as clocks) refl (kind_as e)

    module _ (kind : kind_with rule.matches s ≡ true) where
      pub tracker_8 : acknowledgeable_with rule.acknowledges s st ≡ false → 8 ≡ sheet_refusal (tracker c) s st
      unfolding all
      tracker_8 e = sheet_8 (tracker c) s st refl (clocks_as clocks) refl (kind_as kind) (acknowledge_as e)

      pub tracker_none : acknowledgeable_with rule.acknowledges s st ≡ true → 0 ≡ sheet_refusal (tracker c) s st
      unfolding all
      tracker_none e = sheet_none (tracker c) s st refl (clocks_as clocks) refl (kind_as kind) (acknowledge_as e)

-- ---- a sheet that meets none

-- three tests in a row, none of which fails
none_fails : (a b d : Bool) → ◌≡◌ {A = ℕ} 0 (cond (not a) 5 (cond (not b) 7 (cond (not d) 8 0))) → (a ≡ true) × (d ≡ true)
none_fails true true true e = (refl, refl)
none_fails true true false e = absurd (omega (arith, e))
none_fails true false d e = absurd (omega (arith, e))
none_fails false b d e = absurd (omega (arith, e))

both_fine : (c : TrackerCall) (s : Sheet) (st : State) → 0 ≡ sheet_refusal (tracker c) s st → (all clock_ok (clocks_used_by c s) ≡ true) × (acknowledgeable c s st ≡ true)
unfolding sheet_refusal all
both_fine c s st fine = none_fails (all clock_ok (clocks_used_by c s)) (kind_ok (tracker c) s) (acknowledgeable c s st) fine

-- a sheet of the call d, which is c
module _ (d c : TrackerCall) (told : d ≡ c) (s : Sheet) (st : State) (fine : 0 ≡ sheet_refusal (tracker d) s st) where
  pub clocks_fine : all clock_ok (clocks_used_by c s) ≡ true
  clocks_fine = rw (← told) (both_fine d s st fine).0

  pub acknowledges_fine : acknowledgeable c s st ≡ true
  acknowledges_fine = rw (← told) (both_fine d s st fine).1
