-- A call, with section 8's order of refusals: the bytes read back to records, the call's turn on records, the result laid out. One function on bytes, for
-- every input.
use Rattle.std.specs.Prelude.{ℕ, cond, List, ◌++◌, eqb, length, drop}
use Rattle.std.proofs.Math.Option.{Option, none, some}
use Rattle.model.specs.declared.Answer.{Answer}
use Rattle.model.specs.declared.Called.{Called}
use Rattle.model.specs.declared.Head.{Head}
use Rattle.model.specs.declared.Sheet.{Sheet}
use Rattle.model.specs.Answers.{refused_with}
use Rattle.model.specs.Calls.{Call, instances, tracker, joined, call_of_code}
use Rattle.model.specs.InstanceCalls.{Turned, instance_call}
use Rattle.model.specs.Joined.{joined_call}
use Rattle.model.specs.Refusals.{lengths_ok, sheet_refusal}
use Rattle.model.specs.Sheets.{sheet_of}
use Rattle.model.specs.State.{Lent, State, figure_ok, state_of, lay_out}
use Rattle.model.specs.WellFormed.{well_formed}
use Rattle.model.specs.Writers.{tracker_call}

-- the answer, and what the lent head and buffers are after the call
pub record Left : Type 0 where
  pub answer : Answer
  pub lent : Lent

-- section 8: the number, other fields zero, nothing written
abbrev pub refuse : ℕ → Lent → Left
refuse n l = record { answer = refused_with n; lent = l }

-- the turn of a call
abbrev pub turn : ℕ → Call → Sheet → State → Turned
turn places (instances c) s st = instance_call places c s st
turn places (tracker c) s st = tracker_call c s st
turn places (joined c) s st = joined_call places c s st

-- lists are written from the front of Out, the rest keeps its bytes
abbrev pub list_in : List ℕ → List ℕ → List ℕ
list_in list out = list ++ drop (length list) out

unfoldable pub settle : ℕ → Turned → Lent → Left
settle places t l =
    cond (eqb t.answer.number 0)
    record { answer = t.answer; lent = lay_out places t.state (list_in t.list l.out) }
    (refuse t.answer.number l)

-- 4 and on
unfoldable pub judged : ℕ → Call → Sheet → Lent → Left
judged places c s l =
    cond (eqb (sheet_refusal c s (state_of l)) 0)
    (settle places (turn places c s (state_of l)) l)
    (refuse (sheet_refusal c s (state_of l)) l)

-- 2 and 3
abbrev pub coded : ℕ → Option Call → Sheet → Lent → Left
coded places none s l = refuse 2 l
coded places (some c) s l = cond (well_formed places l) (judged places c s l) (refuse 3 l)

-- 1
unfoldable pub call_in : ℕ → List ℕ → Lent → Left
call_in places sheet l =
    cond (lengths_ok places sheet l) (coded places (call_of_code (sheet_of sheet).code) (sheet_of sheet) l) (refuse 1 l)

-- 02, ticket 5: a head with another figure is refused as 3, before 1 is looked at
unfoldable pub call_of : List ℕ → Lent → Left
call_of sheet l = cond (figure_ok l.head.places) (call_in l.head.places sheet l) (refuse 3 l)

-- what code returns and leaves, in the definition's form
abbrev pub lent_of : Head → List ℕ → List ℕ → List ℕ → List ℕ → Lent
lent_of head pens writers lost out = record { head = head; pens = pens; writers = writers; lost = lost; out = out }

abbrev pub left_of : Called → List ℕ → List ℕ → List ℕ → List ℕ → Left
left_of r pens writers lost out = record { answer = r.answer; lent = lent_of r.head pens writers lost out }
