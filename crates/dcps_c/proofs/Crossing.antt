-- A call across the boundary.
--     laid-head, unlaid_head      the head of bytes that are a head's; of others
--     head-written, head-kept     the head that is left, by the number
--     short_answer, short_head    refused for their lengths, or by the figure
--     fresh_short, fresh_made     the fresh state
--     made                        a call on a head that was read, and on one that was none
use Prim.Native.Nat.{ℕ}
use mathlib.Core.Bool.{Bool, true, false, cond, and-false}
use mathlib.Core.Option.{Option, none, some}
use mathlib.Core.Path.{◌≡◌, refl, ap, ◌∙◌}
use mathlib.Core.List.{List, []}
use native.Mathlib.Omega.{arith}
use borrow.Author.Tests.{eq-eqb, ne_eqb}
use lib.Dec.{eqb}
use lib.ListN.{length}
use Rattle.model.specs.declared.Called.{Called}
use Rattle.model.specs.declared.Head.{Head}
use Rattle.model.specs.declared.Sheet.{Sheet}
use Rattle.model.specs.Answers.{refused_with}
use Rattle.model.specs.Call.{refuse, coded, call_in, call_of, lent_of, left_of}
use Rattle.model.specs.Calls.{Call, call_of_code}
use Rattle.model.specs.Refusals.{lengths_ok}
use Rattle.model.specs.Sheets.{sheet_of}
use Rattle.model.specs.State.{Lent, figure_ok}
use Rattle.model.specs.WellFormed.{well_formed, head_ok}
use Rattle.model.proofs.Figures.{call-in, another_figure}
use Rattle.model.proofs.Tests.{split}
use Rattle.octets.specs.Octets.{be}
use Rattle.boundary.specs.Layouts.{head_bytes, head_in, head_laid, answer_bytes}
use Rattle.dcps.specs.Fresh.{fresh_of}
use Rattle.dcps_c.specs.Boundary.{crossed_of, crossed, called_head, answer_left, code_number, unlaid_number, laid_call, lent_call, boundary_call, boundary_fresh, unanswered, no_head, head_or}

-- ---- the head

pub laid-head : (b : List ℕ) {h : Head} → head_laid b ≡ true → h ≡ head_in b → h ≡ head_or b
unfolding head_or
laid-head b e r = rw e r

pub unlaid_head : (b : List ℕ) {h : Head} {n : ℕ} → head_laid b ≡ false → n ≡ be 2 b 30 → h ≡ no_head n → h ≡ head_or b
unfolding head_or head_in
unlaid_head b e f r = rw e (r ∙ ap no_head f)

pub head-written : (r : Called) (b c : List ℕ) → r.answer.number ≡ 0 → c ≡ head_bytes r.head → c ≡ called_head r b
unfolding called_head
head-written r b c e w = rw (eq-eqb r.answer.number 0 e) w

pub head-kept : (r : Called) (b : List ℕ) → (r.answer.number ≡ 0 → ⊥) → b ≡ called_head r b
unfolding called_head
head-kept r b h = rw (ne_eqb r.answer.number 0 h)

-- ---- lengths

module _ (head sheet pens writers lost out answer : List ℕ) where
  pub short_answer : (n : ℕ) → (length answer ≡ 72 → ⊥) → n ≡ unanswered head →
      crossed_of n head pens writers lost out answer ≡ boundary_call head sheet pens writers lost out answer
  unfolding boundary_call lent_call crossed called_head answer_left unanswered
  short_answer n h e =
      rw (e, ne_eqb (length answer) 72 h)
      (split (eqb (length head) 64)
      (λ a. split (figure_ok (head_in head).places) (λ f. rw (a, f)) (λ f. rw (a, f)))
      (λ a. rw a))

  pub short_head : (n : ℕ) (a : List ℕ) → length answer ≡ 72 → (length head ≡ 64 → ⊥) → n ≡ 1 → a ≡ answer_bytes (refused_with 1) →
      crossed_of n head pens writers lost out a ≡ boundary_call head sheet pens writers lost out answer
  unfolding boundary_call lent_call crossed called_head answer_left
  short_head n a la lh en ea = rw (eq-eqb (length answer) 72 la, ne_eqb (length head) 64 lh, en, ea)

-- ---- a call on no head: refused as 3 in its turn

never : (places : ℕ) (pens writers lost out : List ℕ) → well_formed places (lent_of (no_head places) pens writers lost out) ≡ false
unfolding well_formed head_ok
never places pens writers lost out = and-false (eqb places places)

coded_never : (places : ℕ) (c : Option Call) (s : Sheet) (l : Lent) → well_formed places l ≡ false → coded places c s l ≡ refuse (code_number c) l
coded_never places none s l e = refl
coded_never places (some c) s l e = rw e

lengths_same : (places : ℕ) (sheet : List ℕ) (h g : Head) (pens writers lost out : List ℕ) →
    lengths_ok places sheet (lent_of h pens writers lost out) ≡ lengths_ok places sheet (lent_of g pens writers lost out)
unfolding lengths_ok
lengths_same places sheet h g pens writers lost out = refl

by_lengths : (places : ℕ) (b : Bool) (c : Option Call) (s : Sheet) (l : Lent) → well_formed places l ≡ false →
    cond b (coded places c s l) (refuse 1 l) ≡ refuse (cond b (code_number c) 1) l
by_lengths places true c s l e = coded_never places c s l e
by_lengths places false c s l e = refl

-- the number is the one of bytes that are no head's, with any head of that figure
no_call : (sheet : List ℕ) (h : Head) (pens writers lost out : List ℕ) → figure_ok h.places ≡ true →
    call_of sheet (lent_of (no_head h.places) pens writers lost out)
    ≡ refuse (unlaid_number sheet (lent_of h pens writers lost out)) (lent_of (no_head h.places) pens writers lost out)
no_call sheet h pens writers lost out ok = call-in sheet l places ok refl ∙ refuses
  where
    places : ℕ
    places = h.places

    l : Lent
    l = lent_of (no_head h.places) pens writers lost out

    refuses : call_in places sheet l ≡ refuse (unlaid_number sheet (lent_of h pens writers lost out)) l
    refuses =
        unfold call_in unlaid_number in
        rw (lengths_same places sheet h (no_head places) pens writers lost out)
        (by_lengths places (lengths_ok places sheet l) (call_of_code (sheet_of sheet).code) (sheet_of sheet) l (never places pens writers lost out))

-- a refusal's head is not written
kept : (n : ℕ) (b answer : List ℕ) (h g : Head) (pens writers lost out : List ℕ) → (n ≡ 0 → ⊥) →
    crossed b answer (refuse n (lent_of h pens writers lost out)) ≡ crossed b answer (refuse n (lent_of g pens writers lost out))
unfolding crossed called_head answer_left
kept n b answer h g pens writers lost out e = rw (ne_eqb n 0 e)

code-refused : (c : Option Call) → code_number c ≡ 0 → ⊥
code-refused none e = absurd (omega (arith, e))
code-refused (some c) e = absurd (omega (arith, e))

some_number : (b : Bool) (c : Option Call) → cond b (code_number c) 1 ≡ 0 → ⊥
some_number true c e = code-refused c e
some_number false c e = absurd (omega (arith, e))

unlaid_refused : (sheet : List ℕ) (l : Lent) → unlaid_number sheet l ≡ 0 → ⊥
unfolding unlaid_number
unlaid_refused sheet l e = some_number (lengths_ok l.head.places sheet l) (call_of_code (sheet_of sheet).code) e

-- ---- a call

module _ (head sheet pens writers lost out answer : List ℕ) where
  abbrev l : Lent
  l = lent_of (head_in head) pens writers lost out

  abbrev figure : ℕ
  figure = (head_in head).places

  on_laid : figure_ok figure ≡ true → (b : Bool) →
      crossed head answer (call_of sheet (lent_of (cond b (head_in head) (no_head figure)) pens writers lost out))
      ≡ crossed head answer (cond b (call_of sheet l) (refuse (unlaid_number sheet l) l))
  on_laid ok true = refl
  on_laid ok false =
      ap (crossed head answer) (no_call sheet (head_in head) pens writers lost out ok)
      ∙ kept (unlaid_number sheet l) head answer (no_head figure) (head_in head) pens writers lost out (unlaid_refused sheet l)

  laid-or-not : figure_ok figure ≡ true →
      crossed head answer (call_of sheet (lent_of (head_or head) pens writers lost out)) ≡ crossed head answer (laid_call sheet head l)
  unfolding head_or laid_call
  laid-or-not ok = on_laid ok (head_laid head)

  -- the figure is handed on, laid out or not
  or-figure : (head_or head).places ≡ figure
  unfolding head_or
  or-figure = split (head_laid head) (λ e. rw e) (λ e. rw e)

  other_figure : figure_ok figure ≡ false →
      crossed head answer (call_of sheet (lent_of (head_or head) pens writers lost out)) ≡ crossed head answer (refuse 3 l)
  other_figure other =
      ap (crossed head answer) (another_figure sheet (lent_of (head_or head) pens writers lost out) (ap figure_ok or-figure ∙ other))
      ∙ kept 3 head answer (head_or head) (head_in head) pens writers lost out (λ e. omega arith)

  lengths_right : length answer ≡ 72 → length head ≡ 64 →
      crossed head answer (call_of sheet (lent_of (head_or head) pens writers lost out)) ≡ boundary_call head sheet pens writers lost out answer
  unfolding boundary_call lent_call
  lengths_right la lh =
      rw (eq-eqb (length answer) 72 la, eq-eqb (length head) 64 lh)
      (split (figure_ok figure) (λ ok. rw ok (laid-or-not ok)) (λ other. rw other (other_figure other)))

  written : (r : Called) (n : ℕ) (head' pens' writers' lost' out' answer' : List ℕ) → length answer ≡ 72 →
      n ≡ r.answer.number → head' ≡ called_head r head → answer' ≡ answer_bytes r.answer →
      crossed_of n head' pens' writers' lost' out' answer' ≡ crossed head answer (left_of r pens' writers' lost' out')
  unfolding crossed answer_left called_head
  written r n head' pens' writers' lost' out' answer' la en eh ea = rw (eq-eqb (length answer) 72 la, en, eh, ea)

  pub made : (h : Head) (r : Called) (n : ℕ) (head' pens' writers' lost' out' answer' : List ℕ) → length answer ≡ 72 → length head ≡ 64 →
      h ≡ head_or head → left_of r pens' writers' lost' out' ≡ call_of sheet (lent_of h pens writers lost out) →
      n ≡ r.answer.number → head' ≡ called_head r head → answer' ≡ answer_bytes r.answer →
      crossed_of n head' pens' writers' lost' out' answer' ≡ boundary_call head sheet pens writers lost out answer
  made h r n head' pens' writers' lost' out' answer' la lh e left en eh ea =
      written r n head' pens' writers' lost' out' answer' la en eh ea
      ∙ ap (crossed head answer) (left ∙ ap (λ (z : Head). call_of sheet (lent_of z pens writers lost out)) e)
      ∙ lengths_right la lh

-- ---- the fresh state

module _ (head pens writers lost : List ℕ) where
  pub fresh_short : (length head ≡ 64 → ⊥) → crossed_of 1 head pens writers lost [] [] ≡ boundary_fresh head pens writers lost
  unfolding boundary_fresh crossed called_head answer_left
  fresh_short h = rw (ne_eqb (length head) 64 h)

  fresh-written : (r : Called) (n : ℕ) (head' pens' writers' lost' : List ℕ) → n ≡ r.answer.number → head' ≡ called_head r head →
      crossed_of n head' pens' writers' lost' [] [] ≡ crossed head [] (left_of r pens' writers' lost' [])
  unfolding crossed answer_left called_head
  fresh-written r n head' pens' writers' lost' en eh = rw (en, eh)

  fresh_right : length head ≡ 64 → crossed head [] (fresh_of pens writers lost) ≡ boundary_fresh head pens writers lost
  unfolding boundary_fresh
  fresh_right e = rw (eq-eqb (length head) 64 e)

  pub fresh_made : (r : Called) (n : ℕ) (head' pens' writers' lost' : List ℕ) → length head ≡ 64 →
      left_of r pens' writers' lost' [] ≡ fresh_of pens writers lost → n ≡ r.answer.number → head' ≡ called_head r head →
      crossed_of n head' pens' writers' lost' [] [] ≡ boundary_fresh head pens writers lost
  fresh_made r n head' pens' writers' lost' e left en eh =
      fresh-written r n head' pens' writers' lost' en eh ∙ ap (crossed head []) left ∙ fresh_right e
