-- The reads across the C boundary: what each answers is a read of section 7; keys, GUIDs and times cross as numbers.
use Rattle.std.specs.Prelude.{ℕ, cond, List, eqb, ℤ, length}
use Rattle.model.specs.declared.Answer.{Answer}
use Rattle.model.specs.declared.Guid.{Guid}
use Rattle.model.specs.declared.Time.{Time}
use Rattle.model.specs.Answers.{refused_with}
use Rattle.model.specs.Reads.{status_read, changes_read, left_read, left_out}
use Rattle.model.specs.State.{places_in}
use Rattle.boundary.specs.Layouts.{head_in, head_laid, answer_bytes}
use Rattle.boundary_reads.specs.ReadAnswers.{AnswerTold, told_of, told}
use Rattle.read_answers.specs.declared.ReadAnswer.{ReadAnswer}
use Rattle.read_answers.specs.Cases.{refused_answer, changes_answer, status_answer, listing_answer, holder_answer}
use Rattle.instance_reads.specs.declared.HolderPlace.{HolderPlace}
use Rattle.dcps_c.specs.Boundary.{head_size, answer_size, unanswered}

abbrev pub guid_of : ℕ → ℕ → Guid
guid_of high low = record { hi = high; lo = low }

abbrev pub time_at : ℤ → ℕ → Time
time_at sec nanosec = record { sec = sec; nanosec = nanosec }

-- ---- of the head alone: its length belongs to 1; bytes that are no head's are refused as 3, and so is another figure

unfoldable pub status_of : List ℕ → Answer
status_of head =
    cond (eqb (length head) head_size)
    (cond (head_laid head) (status_answer (status_read (head_in head))) (refused_with 3)) (refused_with 1)

unfoldable pub boundary_status : List ℕ → List ℕ → AnswerTold
boundary_status head answer =
    cond (eqb (length answer) answer_size) (told_of (status_of head).number (answer_bytes (status_of head)))
    (told_of (unanswered head) answer)

unfoldable pub changes_of : List ℕ → ReadAnswer
changes_of head =
    cond (eqb (length head) head_size)
    (cond (head_laid head) (changes_answer (changes_read (head_in head))) (refused_answer 3)) (refused_answer 1)

unfoldable pub boundary_changes : List ℕ → List ℕ → AnswerTold
boundary_changes head answer = cond (eqb (length answer) 24) (told (changes_of head) answer) (told_of (unanswered head) answer)

-- ---- left_writerless: Out is written where the answer has its length

pub record ToldList : Type 0 where
  pub told : AnswerTold
  pub out : List ℕ

abbrev pub told_list : ℕ → List ℕ → List ℕ → ToldList
told_list number out answer = record { told = told_of number answer; out = out }

unfoldable pub boundary_left : List ℕ → List ℕ → ℕ → List ℕ → List ℕ → ToldList
boundary_left pens gone mask out answer =
    record {
      told = told (listing_answer (left_read (places_in pens) pens gone mask out)) answer;
      out = cond (eqb (length answer) 24) (left_out (places_in pens) pens gone mask out) out;
    }

-- ---- the holder in force: where it is stored, by its place in pens

abbrev pub place_answer : HolderPlace → ReadAnswer
place_answer p = holder_answer p.stored p.offset p.len
