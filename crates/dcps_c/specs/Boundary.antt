-- The C boundary: head, sheet, buffers and answer as bytes, one function on bytes for every input.
use Rattle.std.specs.Prelude.{ℕ, cond, List, [], eqb, pos, length, None}
use Rattle.std.proofs.Math.Option.{Option, none, some}
use Rattle.model.specs.declared.Called.{Called}
use Rattle.model.specs.declared.Head.{Head}
use Rattle.model.specs.Call.{Left, refuse, call_of, lent_of}
use Rattle.model.specs.Calls.{Call, call_of_code}
use Rattle.model.specs.Refusals.{lengths_ok}
use Rattle.model.specs.Sheets.{sheet_of}
use Rattle.model.specs.State.{Lent, figure_ok, places_in}
use Rattle.boundary.specs.Layouts.{head_bytes, head_in, head_laid, answer_bytes}
use Rattle.dcps.specs.Fresh.{fresh_head, fresh_of}

abbrev pub head_size : ℕ
head_size = 64

abbrev pub answer_size : ℕ
answer_size = 72

-- the number that is returned, and what the lent bytes are after it
pub record Crossed : Type 0 where
  pub number : ℕ
  pub head : List ℕ
  pub pens : List ℕ
  pub writers : List ℕ
  pub lost : List ℕ
  pub out : List ℕ
  pub answer : List ℕ

-- what code returns and leaves, in the definition's form
abbrev pub crossed_of : ℕ → List ℕ → List ℕ → List ℕ → List ℕ → List ℕ → List ℕ → Crossed
crossed_of number head pens writers lost out answer =
    record { number = number; head = head; pens = pens; writers = writers; lost = lost; out = out; answer = answer }

-- ---- what is written: the new head on number 0 only, and the answer where it has its length

unfoldable pub called_head : Called → List ℕ → List ℕ
called_head r head = cond (eqb r.answer.number 0) (head_bytes r.head) head

unfoldable pub answer_left : Left → List ℕ → List ℕ
answer_left x answer = cond (eqb (length answer) answer_size) (answer_bytes x.answer) answer

unfoldable pub crossed : List ℕ → List ℕ → Left → Crossed
crossed head answer x =
    crossed_of x.answer.number (called_head record { answer = x.answer; head = x.lent.head } head) x.lent.pens x.lent.writers x.lent.lost x.lent.out (answer_left x answer)

-- ---- a call

-- 3 for bytes that are no head's, after 1 and 2
abbrev pub code_number : Option Call → ℕ
code_number none = 2
code_number (some c) = 3

unfoldable pub unlaid_number : List ℕ → Lent → ℕ
unlaid_number sheet l = cond (lengths_ok l.head.places sheet l) (code_number (call_of_code (sheet_of sheet).code)) 1

unfoldable pub laid_call : List ℕ → List ℕ → Lent → Left
laid_call sheet head l = cond (head_laid head) (call_of sheet l) (refuse (unlaid_number sheet l) l)

-- the lengths of head and answer belong to 1; but 02's ticket 5 has the figure looked at before any length, and it can be where
-- the head has its own
unfoldable pub lent_call : List ℕ → List ℕ → List ℕ → Lent → Left
lent_call sheet head answer l =
    cond (eqb (length head) head_size)
    (cond (figure_ok l.head.places)
    (cond (eqb (length answer) answer_size) (laid_call sheet head l) (refuse 1 l))
    (refuse 3 l))
    (refuse 1 l)

unfoldable pub boundary_call : List ℕ → List ℕ → List ℕ → List ℕ → List ℕ → List ℕ → List ℕ → Crossed
boundary_call head sheet pens writers lost out answer =
    crossed head answer (lent_call sheet head answer (lent_of (head_in head) pens writers lost out))

-- ---- the fresh state: no Out and no answer are lent

unfoldable pub boundary_fresh : List ℕ → List ℕ → List ℕ → List ℕ → Crossed
boundary_fresh head pens writers lost =
    crossed head [] (cond (eqb (length head) head_size)
    (fresh_of pens writers lost) (refuse 1 (lent_of (fresh_head (places_in pens)) pens writers lost [])))

-- ---- where an answer has another length nothing is written, and the number is 1, or 3 by the head's figure

unfoldable pub unanswered : List ℕ → ℕ
unanswered head = cond (eqb (length head) head_size) (cond (figure_ok (head_in head).places) 1 3) 1

-- ---- in place of a head that is not laid out, one that no buffers make well formed: its next handle is nil. The figure is
-- handed on

abbrev pub no_head : ℕ → Head
no_head places =
    record {
      instance_count = 0;
      next_handle = record { 0 = 0 };
      writer_count = 0;
      lost_count = 0;
      alive = 0;
      not_alive = 0;
      alive_change = pos 0;
      not_alive_change = pos 0;
      last_writer = None;
      changes = 0;
      places = places;
    }

unfoldable pub head_or : List ℕ → Head
head_or head = cond (head_laid head) (head_in head) (no_head (head_in head).places)
