-- A range of codes past the lengths: refused as 3, else the call of its code.
--     formed_parts      well-formedness, part by part, from its test
--     entered           what a call past 3 is lent
--     refused-3, by_code
--                       refused as 3; else the call of its code
use Prim.Native.Nat.{ℕ}
use mathlib.Core.Bool.{Bool, true, false}
use mathlib.Core.List.{List}
use mathlib.Core.Option.{some}
use mathlib.Core.Path.{◌≡◌, sym, ◌∙◌}
use Rattle.octets.specs.Bounds.{Bytes}
use Rattle.model.specs.declared.Called.{Called}
use Rattle.model.specs.declared.Head.{Head}
use Rattle.model.specs.declared.Sheet.{Sheet}
use Rattle.model.specs.Answers.{refused_with}
use Rattle.model.specs.Call.{Left, judged, coded, lent_of, left_of}
use Rattle.model.specs.Calls.{Call, call_of_code}
use Rattle.model.specs.WellFormed.{well_formed}
use Rattle.lent_state.proofs.Formed.{Parts, parts}
use Rattle.call_laws.specs.Entered.{Entered}
use Rattle.call_ranges.specs.Lengths.{Lengths}
use Rattle.call_laws.specs.Heads.{called}
use Rattle.call_laws.proofs.Chain.{refused-left, coded-3, coded-judged}

-- ---- a range of codes: refused as 3, else the call of its code

module _ (head : Head) (pens writers lost out : List ℕ) (s : Sheet) (ok : Bool) (tested : ok ≡ well_formed head.places (lent_of head pens writers lost out)) where
  pub formed : ok ≡ true → well_formed head.places (lent_of head pens writers lost out) ≡ true
  formed passed = sym tested ∙ passed

  pub formed_parts : ok ≡ true → Parts head.places (lent_of head pens writers lost out)
  formed_parts passed = parts head.places (lent_of head pens writers lost out) (formed passed)

  -- what a call past 3 is lent
  pub entered : ok ≡ true → Lengths (lent_of head pens writers lost out) → Bytes pens → Bytes writers → Bytes lost → Entered head.places (lent_of head pens writers lost out)
  entered passed n pb wb lb =
      record { pens = n.pens; writers = n.writers; lost = n.lost; out = n.out; pens_bytes = pb; writers_bytes = wb; lost_bytes = lb; formed = formed passed }

  module _ (c : Call) (known : call_of_code s.code ≡ some c) where
    pub refused-3 : ok ≡ false → (r : Called) → r ≡ called (refused_with 3) head →
        left_of r pens writers lost out ≡ coded head.places (call_of_code s.code) s (lent_of head pens writers lost out)
    refused-3 failed r e =
        refused-left 3 r head pens writers lost out e ∙ coded-3 head.places s (lent_of head pens writers lost out) c known (sym tested ∙ failed)

    pub by_code : ok ≡ true → (x : Left) → x ≡ judged head.places c s (lent_of head pens writers lost out) →
        x ≡ coded head.places (call_of_code s.code) s (lent_of head pens writers lost out)
    by_code passed x e = e ∙ coded-judged head.places s (lent_of head pens writers lost out) c known (formed passed)
