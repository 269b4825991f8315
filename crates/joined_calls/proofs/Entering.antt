-- What a joined call is lent past refusals 1 to 3, and a sheet that is refused.
--     entered_parts                     head and buffers are well formed, part by part
--     entered_held, entered_losable     what the calls on the tracker and the pass ask for
--     sheet-refused                     refusals 4 to 6
use Prim.Native.Nat.{ℕ, ◌≤◌}
use mathlib.Core.List.{List}
use mathlib.Core.Path.{◌≡◌, ap, ◌∙◌}
use native.Mathlib.Omega.{arith}
use Rattle.model.specs.declared.Called.{Called}
use Rattle.model.specs.declared.Head.{Head}
use Rattle.model.specs.declared.JoinedCall.{JoinedCall}
use Rattle.model.specs.declared.Sheet.{Sheet}
use Rattle.model.specs.Answers.{refused_with}
use Rattle.model.specs.Call.{judged, lent_of, left_of}
use Rattle.model.specs.Calls.{joined}
use Rattle.model.specs.Refusals.{sheet_refusal}
use Rattle.model.specs.State.{Lent, State, state_of}
use Rattle.instance_pass.proofs.EditLaws.{table_editable}
use Rattle.writer_counts.specs.WriterCalls.{WritersFormed}
use Rattle.lent_state.proofs.Formed.{Parts, parts}
use Rattle.call_laws.specs.Entered.{Entered}
use Rattle.call_laws.specs.Heads.{called}
use Rattle.call_laws.proofs.Chain.{judged_refuses}
use Rattle.joined_calls.specs.Losses.{Losable}

module _ (places : ℕ) (l : Lent) (e : Entered places l) where
  pub entered_parts : Parts places l
  entered_parts = parts places l e.formed

  pub entered_held : WritersFormed l.head l.writers
  entered_held = record { long = e.writers; head_formed = entered_parts.head; table = entered_parts.writers; counted = entered_parts.counts }

  pub entered_losable : places ≤ 128 → Losable l.head.instance_count l.pens l.out
  entered_losable few =
      record {
        table = table_editable places l.head.instance_count l.head.next_handle.0 l.pens record { few = few; size = e.pens; formed = entered_parts.pens };
        wide = omega (arith, e.out);
      }

-- ---- refusals 4 to 6

pub sheet-refused : (k : JoinedCall) (s : Sheet) (head : Head) (n : ℕ) (r : Called) → ((st : State) → n ≡ sheet_refusal (joined k) s st) → (n ≡ 0 → ⊥) →
    r ≡ called (refused_with n) head → (places : ℕ) (pens writers lost out : List ℕ) →
    left_of r pens writers lost out ≡ judged places (joined k) s (lent_of head pens writers lost out)
sheet-refused k s head n r e some er places pens writers lost out =
    ap (λ (x : Called). left_of x pens writers lost out) er
    ∙ judged_refuses places (joined k) s (lent_of head pens writers lost out) n (e (state_of (lent_of head pens writers lost out))) some
