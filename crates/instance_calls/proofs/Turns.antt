-- From what the calls on the instance table leave to what a call on head and buffers leaves.
--     refused-judged     the sheet refuses the call
--     every-judged       a call on every instance
--     single-judged      a call on one instance
--     by_reach           a call that is not on every instance reaches one
use Prim.Native.Nat.{ℕ}
use mathlib.Core.Bool.{true, false}
use mathlib.Core.List.{List, []}
use mathlib.Core.Path.{◌≡◌}
use lib.ListN.{length}
use Rattle.model.specs.declared.Answer.{Answer}
use Rattle.model.specs.declared.Called.{Called}
use Rattle.model.specs.declared.Head.{Head}
use Rattle.model.specs.declared.InstanceCall.{InstanceCall}
use Rattle.model.specs.declared.InstanceHandle.{InstanceHandle}
use Rattle.model.specs.declared.Reach.{Reach}
use Rattle.model.specs.declared.Sheet.{Sheet}
use Rattle.model.specs.Answers.{refused_with}
use Rattle.model.specs.Call.{lent_of, list_in}
use Rattle.model.specs.Calls.{instances}
use Rattle.model.specs.InstanceCalls.{Turned, instance_call}
use Rattle.model.specs.Instances.{is_every}
use Rattle.model.specs.Refusals.{sheet_refusal}
use Rattle.model.specs.State.{Lent, State, state_of, instances_in}
use Rattle.instance_table.specs.declared.TableCall.{TableCall}
use Rattle.instance_table.specs.Laid.{Laid}
use Rattle.instance_reach.specs.Rules.{single}
use Rattle.instance_reach.specs.Turned.{LeavesTable as SingleLeft}
use Rattle.instance_pass.specs.EveryCalls.{LeavesTableAndOut as EveryLeft}
use Rattle.call_laws.specs.Entered.{InstancesJudged}
use Rattle.call_laws.specs.Heads.{called, head_with}
use Rattle.call_laws.proofs.Chain.{judged_refuses}
use Rattle.instance_table.specs.TableCalls.{state_with}
use Rattle.call_laws.proofs.Graft.{instance_graft}
use Rattle.call_laws.proofs.InstanceRange.{instance-outcome, range_left}

pub by_reach : (r : Reach) → is_every r ≡ false → single r ≡ true
by_reach r e = rw e

-- the instances that are lent, with the next handle
abbrev lent_table : Head → List ℕ → State
lent_table head pens = state_with (instances_in head.instance_count pens) head.next_handle.0

-- a turn that lists nothing leaves Out as it is
quiet-out : (list out : List ℕ) → list ≡ [] → out ≡ list_in list out
quiet-out list out e = rw e

module _ (places : ℕ) (c : InstanceCall) (s : Sheet) (head : Head) (pens out : List ℕ) where
  pub refused-judged : (n : ℕ) → ((st : State) → n ≡ sheet_refusal (instances c) s st) → (n ≡ 0 → ⊥) → (r : Called) → r ≡ called (refused_with n) head →
      InstancesJudged places c s head pens out r pens out
  refused-judged n number Some-number r e = λ writers lost h.
      let l : Lent = lent_of head pens writers lost out in
      rw e (judged_refuses places (instances c) s l n (number (state_of l)) Some-number)

  module _ (fine : (st : State) → 0 ≡ sheet_refusal (instances c) s st) (r : Called) (pens' : List ℕ) where
    abbrev turned : Turned
    turned = instance_call places c s (lent_table head pens)

    -- what is left of the turn on the table
    table-judged : (a : Answer) (n : ℕ) (next : InstanceHandle) (out' : List ℕ) → a ≡ turned.answer → n ≡ length turned.state.instances →
        next.0 ≡ turned.state.next_handle → Laid places turned.state.instances pens' → out' ≡ list_in turned.list out →
        r ≡ called a (head_with head n next) → InstancesJudged places c s head pens out r pens' out'
    unfolding state_of
    table-judged a n next out' ea en eh laid eo e =
        λ writers lost h.
        let l : Lent = lent_of head pens writers lost out in
        rw e
        (range_left places (instances c) s l h (fine (state_of l)) turned (instance_graft places c s (state_of l)) (instance-outcome places c s (lent_table head pens))
        a n next pens' out' ea en eh laid.laid eo)

    pub every-judged : (out' : List ℕ) (t : TableCall) → EveryLeft places turned out t pens' out' →
        r ≡ called t.answer (head_with head t.count t.next_handle) → InstancesJudged places c s head pens out r pens' out'
    every-judged out' t l e = table-judged t.answer t.count t.next_handle out' l.answer l.count l.next l.laid l.list e

    pub single-judged : (t : TableCall) → SingleLeft places turned t pens' →
        r ≡ called t.answer (head_with head t.count t.next_handle) → InstancesJudged places c s head pens out r pens' out
    single-judged t l e =
        table-judged t.answer t.count t.next_handle out l.answer l.count l.next l.laid (quiet-out turned.list out l.quiet) e
