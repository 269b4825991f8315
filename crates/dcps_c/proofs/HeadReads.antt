-- The reads of a head across the boundary.
--     status_short, status_made       a head of another length; the status of the head that was read, or of none
--     status_told, status_untold      the answer's bytes, and where it has another length
--     unanswered-..                   the number where the answer has another length
--     changes_short, changes_made, changes-told, changes_untold      likewise for the changes
use Prim.Native.Nat.{ℕ}
use Rattle.octets.specs.Octets.{be}
use mathlib.Core.Bool.{Bool, true, false, cond, and-false}
use mathlib.Core.Path.{◌≡◌, refl, ap, ◌∙◌}
use mathlib.Core.List.{List}
use borrow.Author.Tests.{eq-eqb, ne_eqb}
use lib.ListN.{length}
use Rattle.model.specs.declared.Answer.{Answer}
use Rattle.model.specs.declared.ChangesRead.{ChangesRead}
use Rattle.model.specs.declared.Head.{Head}
use Rattle.model.specs.declared.StatusRead.{StatusRead}
use Rattle.model.specs.Answers.{refused_with}
use Rattle.model.specs.Reads.{head_alone, status_read, changes_read}
use Rattle.model.specs.State.{figure_ok}
use Rattle.model.specs.WellFormed.{head_ok}
use Rattle.boundary.specs.Layouts.{head_in, head_laid, answer_bytes}
use Rattle.read_answers.specs.declared.ReadAnswer.{ReadAnswer}
use Rattle.read_answers.specs.Cases.{refused_answer, changes_answer, status_answer}
use Rattle.boundary_reads.specs.ReadAnswers.{AnswerTold, told_of, told}
use Rattle.dcps_c.specs.Boundary.{unanswered, no_head, head_or}
use Rattle.dcps_c.specs.Reads.{status_of, boundary_status, changes_of, boundary_changes}

-- no head is refused as 3
no_status_lem : (places : ℕ) → status_answer (status_read (no_head places)) ≡ refused_with 3
unfolding status_read head_alone head_ok
no_status_lem places = rw (and-false (figure_ok places))

no_changes : (places : ℕ) → changes_answer (changes_read (no_head places)) ≡ refused_answer 3
unfolding changes_read head_alone head_ok
no_changes places = rw (and-false (figure_ok places))

module _ (head : List ℕ) where
  pub status_short : {a : Answer} → (length head ≡ 64 → ⊥) → a ≡ refused_with 1 → a ≡ status_of head
  unfolding status_of
  status_short h e = rw (ne_eqb (length head) 64 h) e

  status_by : (b : Bool) → status_answer (status_read (cond b (head_in head) (no_head (head_in head).places)))
      ≡ cond b (status_answer (status_read (head_in head))) (refused_with 3)
  status_by true = refl
  status_by false = no_status_lem (head_in head).places

  status_right : length head ≡ 64 → status_answer (status_read (head_or head)) ≡ status_of head
  unfolding status_of head_or
  status_right n = rw (eq-eqb (length head) 64 n) (status_by (head_laid head))

  pub status_made : {h : Head} {x : StatusRead} {a : Answer} → length head ≡ 64 → h ≡ head_or head → x ≡ status_read h →
      a ≡ status_answer x → a ≡ status_of head
  status_made n eh ex ea =
      ea ∙ ap status_answer (ex ∙ ap status_read eh) ∙ status_right n

  pub status_untold : (answer : List ℕ) (n : ℕ) → (length answer ≡ 72 → ⊥) → n ≡ unanswered head → told_of n answer ≡ boundary_status head answer
  unfolding boundary_status
  status_untold answer n h e = rw (ne_eqb (length answer) 72 h, e)

  pub status_told : (answer b : List ℕ) (a : Answer) {m : ℕ} → length answer ≡ 72 → m ≡ a.number → a ≡ status_of head →
      b ≡ answer_bytes a → told_of m b ≡ boundary_status head answer
  unfolding boundary_status
  status_told answer b a n em ea eb = rw (eq-eqb (length answer) 72 n, em, eb, ea)

  pub changes_short : {a : ReadAnswer} → (length head ≡ 64 → ⊥) → a ≡ refused_answer 1 → a ≡ changes_of head
  unfolding changes_of
  changes_short h e = rw (ne_eqb (length head) 64 h) e

  changes_by : (b : Bool) → changes_answer (changes_read (cond b (head_in head) (no_head (head_in head).places)))
      ≡ cond b (changes_answer (changes_read (head_in head))) (refused_answer 3)
  changes_by true = refl
  changes_by false = no_changes (head_in head).places

  changes_right : length head ≡ 64 → changes_answer (changes_read (head_or head)) ≡ changes_of head
  unfolding changes_of head_or
  changes_right n = rw (eq-eqb (length head) 64 n) (changes_by (head_laid head))

  pub changes_made : {h : Head} {x : ChangesRead} {a : ReadAnswer} → length head ≡ 64 → h ≡ head_or head → x ≡ changes_read h →
      a ≡ changes_answer x → a ≡ changes_of head
  changes_made n eh ex ea =
      ea ∙ ap changes_answer (ex ∙ ap changes_read eh) ∙ changes_right n

  pub changes_untold : (answer : List ℕ) (n : ℕ) → (length answer ≡ 24 → ⊥) → n ≡ unanswered head → told_of n answer ≡ boundary_changes head answer
  unfolding boundary_changes
  changes_untold answer n h e = rw (ne_eqb (length answer) 24 h, e)

  pub changes-told : (answer : List ℕ) {x : AnswerTold} → length answer ≡ 24 → x ≡ told (changes_of head) answer → x ≡ boundary_changes head answer
  unfolding boundary_changes
  changes-told answer n e = rw (eq-eqb (length answer) 24 n) e

  pub unanswered_short : (length head ≡ 64 → ⊥) → 1 ≡ unanswered head
  unfolding unanswered
  unanswered_short h = rw (ne_eqb (length head) 64 h)

  module _ (size : length head ≡ 64) {n : ℕ} (e : n ≡ be 2 head 30) where
    pub unanswered-one : figure_ok n ≡ true → 1 ≡ unanswered head
    unfolding unanswered head_in
    unanswered-one ok = rw (eq-eqb (length head) 64 size, ← e, ok)

    pub unanswered_three : figure_ok n ≡ false → 3 ≡ unanswered head
    unfolding unanswered head_in
    unanswered_three other = rw (eq-eqb (length head) 64 size, ← e, other)
