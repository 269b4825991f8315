-- Code 48 on head and buffers.
--     admit-left     what the call on the table leaves is, in head and buffers, what model says
use Prim.Native.Nat.{ℕ}
use mathlib.Core.List.{List}
use mathlib.Core.Path.{◌≡◌, sym, ap, ◌∙◌}
use Rattle.model.specs.declared.Called.{Called}
use Rattle.model.specs.declared.Head.{Head}
use Rattle.model.specs.declared.JoinedCall.TheVariants.{Admit}
use Rattle.model.specs.declared.Sheet.{Sheet}
use Rattle.model.specs.Call.{list_in, lent_of, left_of}
use Rattle.model.specs.Calls.{joined}
use Rattle.model.specs.Joined.{admit_call}
use Rattle.model.specs.Refusals.{sheet_refusal}
use Rattle.model.specs.State.{Lent, State, state_of, instances_in}
use Rattle.instance_table.specs.declared.TableCall.{TableCall}
use Rattle.instance_table.specs.TableCalls.{state_with}
use Rattle.instance_reach.specs.Turned.{LeavesTable}
use Rattle.call_laws.specs.Heads.{called, head_with}
use Rattle.call_laws.proofs.Graft.{table_of, admit_graft}
use Rattle.call_laws.proofs.InstanceRange.{admit-outcome, range_left}
use Rattle.joined_calls.specs.Losses.{AdmitJudged}

pub admit-left : (places : ℕ) (s : Sheet) (head : Head) (pens pens' : List ℕ) (t : TableCall) (r : Called) → ((st : State) → 0 ≡ sheet_refusal (joined Admit) s st) →
    LeavesTable places (admit_call places s (state_with (instances_in head.instance_count pens) head.next_handle.0)) t pens' →
    r ≡ called t.answer (head_with head t.count t.next_handle) → AdmitJudged places s head pens r pens'
unfolding state_of
admit-left places s head pens pens' t r fine d er writers lost out e =
    let l : Lent = lent_of head pens writers lost out in
    ap (λ (x : Called). left_of x pens' writers lost out) er
    ∙ range_left places (joined Admit) s l e (fine (state_of l)) (admit_call places s (table_of (state_of l))) (admit_graft places s (state_of l))
    (admit-outcome places s (table_of (state_of l))) t.answer t.count t.next_handle pens' out d.answer d.count d.next d.laid.laid
    (ap (λ (list : List ℕ). list_in list out) (sym d.quiet))
