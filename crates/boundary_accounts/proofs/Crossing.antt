-- Demand 3 at the C boundary.
--     boundary_demand3      the claim; boundary_demand3_32, boundary_demand3_128 with pens of either length
--     never_3               no call of such a list is refused as 3
--     only-busy             a call in order returns the number worked out from the accounts
use Prim.Native.Nat.{ℕ}
use mathlib.Core.Bool.{Bool, true, false, cond}
use mathlib.Core.List.{List, [], ◌∷◌}
use mathlib.Core.Logic.{◌≢◌}
use mathlib.Core.Option.{Option, none, some}
use mathlib.Core.Path.{◌≡◌, refl, sym, ap, ◌∙◌, subst}
use native.Mathlib.Omega.{arith}
use borrow.Author.Tests.{eqb-true, eqb-false, eq-eqb}
use lib.Dec.{eqb}
use lib.ListN.{length}
use Rattle.octets.specs.Lay.{All}
use Rattle.model.specs.declared.Head.{Head}
use Rattle.model.specs.declared.Sheet.{Sheet}
use Rattle.model.specs.Answers.{silent}
use Rattle.model.specs.Call.{Left, refuse, turn, settle, judged, coded, call_in, call_of, lent_of}
use Rattle.model.specs.Calls.{Call, call_of_code}
use Rattle.model.specs.InstanceCalls.{Turned}
use Rattle.model.specs.Refusals.{lengths_ok, sheet_refusal}
use Rattle.model.specs.Sheets.{sheet_of}
use Rattle.model.specs.State.{Lent, figure_ok, places_in, head_of, lay_out, state_of, fresh}
use Rattle.model.specs.WellFormed.{well_formed}
use Rattle.model.proofs.Figures.{figure-few, figure-in, places-in, call-in}
use Rattle.accounts.specs.Accounts.{Accounts, Told, absent, accepted, advance, accounts_from, accounts_of, with_out}
use Rattle.accounts.specs.Accounts as A
use Rattle.accounts.specs.Busy.{Ordered, busy}
use Rattle.accounts.specs.InstanceAccounts.{Event}
use Rattle.model.proofs.Tests.{split}
use Rattle.accounts.proofs.Basics.{either, never}
use Rattle.accounts.proofs.Demand3.{After, after_list, after-fresh, anew, told-after}
use Rattle.accounts.proofs.Refusals.{call_other, held_busy}
use Rattle.boundary.specs.Layouts.{head_bytes, head_in}
use Rattle.boundary.proofs.HeadLaws.{FitsHead, length-head, head_forth}
use Rattle.dcps.specs.Fresh.{fresh_of, room_ok}
use Rattle.dcps_c.specs.Boundary.{Crossed, crossed, called_head, answer_left, laid_call, lent_call, boundary_call, boundary_fresh}
use Rattle.boundary_accounts.specs.Crossings.{Lending, next, final, event_of, history, SheetBytes, ToldAcross, BoundaryDemand3, SizedDemand3}
use Rattle.boundary_accounts.proofs.Answers.{AnswerFits, call_fits, outcome_read, handle_read}
use Rattle.boundary_accounts.proofs.Heads.{LastFits, last_fits, head_fits}

-- ---- a refused call leaves what it was lent

abbrev Keeps : Lent → Left → Type 0
Keeps l r = eqb r.answer.number 0 ≡ false → r.lent ≡ l

settle_keeps : (places : ℕ) (t : Turned) (l : Lent) → Keeps l (settle places t l)
unfolding settle
settle_keeps places t l = either (Keeps l) (eqb t.answer.number 0) _ _ (λ e d. never (sym e ∙ d)) (λ e d. refl)

judged_keeps : (places : ℕ) (c : Call) (s : Sheet) (l : Lent) → Keeps l (judged places c s l)
unfolding judged
judged_keeps places c s l =
    either (Keeps l) (eqb (sheet_refusal c s (state_of l)) 0) _ _ (λ e. settle_keeps places (turn places c s (state_of l)) l) (λ e d. refl)

coded_keeps : (places : ℕ) (o : Option Call) (s : Sheet) (l : Lent) → Keeps l (coded places o s l)
coded_keeps places none s l = λ d. refl
coded_keeps places (some c) s l = either (Keeps l) (well_formed places l) _ _ (λ e. judged_keeps places c s l) (λ e d. refl)

call_keeps : (sheet : List ℕ) (l : Lent) → Keeps l (call_of sheet l)
unfolding call_of call_in
call_keeps sheet l =
    let places = l.head.places in
    either (Keeps l) (figure_ok places) _ _
    (λ f. either (Keeps l) (lengths_ok places sheet l) _ _ (λ e. coded_keeps places (call_of_code (sheet_of sheet).code) (sheet_of sheet) l) (λ e d. refl))
    (λ f d. refl)

-- ---- one call

same-call : {h h' p p' w w' q q' : List ℕ} (sheet out answer : List ℕ) → h ≡ h' → p ≡ p' → w ≡ w' → q ≡ q' →
    boundary_call h sheet p w q out answer ≡ boundary_call h' sheet p' w' q' out answer
same-call sheet out answer a b c d = rw (a, b, c, d)

same-lent : {h h' : Head} {p p' w w' q q' : List ℕ} (out : List ℕ) → h ≡ h' → p ≡ p' → w ≡ w' → q ≡ q' →
    lent_of h p w q out ≡ lent_of h' p' w' q' out
same-lent out a b c d = rw (a, b, c, d)

-- the bytes are those of the head, and the buffers the same
record Along (x : Crossed) (l : Lent) : Type 0 where
  head : x.head ≡ head_bytes l.head
  pens : x.pens ≡ l.pens
  writers : x.writers ≡ l.writers
  lost : x.lost ≡ l.lost

-- on the bytes of a head, with an answer of its length: the call itself
crossing : (h : Head) (sheet pens writers lost out answer : List ℕ) → FitsHead h → figure_ok h.places ≡ true → eqb (length answer) 72 ≡ true →
    boundary_call (head_bytes h) sheet pens writers lost out answer ≡ crossed (head_bytes h) answer (call_of sheet (lent_of h pens writers lost out))
unfolding boundary_call lent_call laid_call
crossing h sheet pens writers lost out answer f ok e =
    rw (eq-eqb (length (head_bytes h)) 64 (length-head h), (head_forth h f).0, ok, e, (head_forth h f).1)

-- with an answer of another length: refused, nothing written
short : (h : Head) (sheet pens writers lost out answer : List ℕ) → FitsHead h → figure_ok h.places ≡ true → eqb (length answer) 72 ≡ false →
    boundary_call (head_bytes h) sheet pens writers lost out answer ≡ crossed (head_bytes h) answer (refuse 1 (lent_of h pens writers lost out))
unfolding boundary_call lent_call
short h sheet pens writers lost out answer f ok e =
    rw (eq-eqb (length (head_bytes h)) 64 (length-head h), (head_forth h f).0, ok, e)

-- what is left goes along with what the call left
crossed_along : (h : Head) (answer : List ℕ) (r : Left) → (eqb r.answer.number 0 ≡ false → r.lent.head ≡ h) →
    Along (crossed (head_bytes h) answer r) r.lent
unfolding crossed called_head
crossed_along h answer r k = record { head = written; pens = refl; writers = refl; lost = refl }
  where
    written : cond (eqb r.answer.number 0) (head_bytes r.lent.head) (head_bytes h) ≡ head_bytes r.lent.head
    written = split (eqb r.answer.number 0) (λ e. rw e) (λ e. rw e (ap head_bytes (sym (k e))))

-- ---- what the accounts hear of it

-- a refused call is skipped
unheard : (e : Event) (acc : Accounts) → eqb e.number 0 ≡ false → advance e acc ≡ acc
unfolding advance
unheard e acc n = let q : accepted e ≡ none = ap (λ (b : Bool). cond b (call_of_code e.sheet.code) none) n in rw q

event_is : (sheet h answer : List ℕ) (r : Left) → eqb (length answer) 72 ≡ true → AnswerFits r.answer → eqb r.answer.number 0 ≡ true →
    event_of sheet (crossed h answer r) ≡ A.event_of sheet r.answer
unfolding crossed answer_left
event_is sheet h answer r e f n =
    let z = eqb-true r.answer.number 0 n in
    rw (e, outcome_read r.answer z f, handle_read r.answer z f)

crossed-number : (h answer : List ℕ) (r : Left) → (crossed h answer r).number ≡ r.answer.number
unfolding crossed
crossed-number h answer r = refl

same-heard : (sheet h answer : List ℕ) (r : Left) (acc : Accounts) → eqb (length answer) 72 ≡ true → AnswerFits r.answer →
    advance (event_of sheet (crossed h answer r)) acc ≡ advance (A.event_of sheet r.answer) acc
same-heard sheet h answer r acc e f =
    split (eqb r.answer.number 0)
    (λ n. ap (λ (v : Event). advance v acc) (event_is sheet h answer r e f n))
    (λ n. unheard (event_of sheet (crossed h answer r)) acc (rw (crossed-number h answer r) n) ∙ sym (unheard (A.event_of sheet r.answer) acc n))

-- ---- the list

-- bytes that go along with a state in step with the accounts
record Carried (places : ℕ) (x : Crossed) (acc : Accounts) : Type 0 where
  lent : Lent
  along : Along x lent
  after : After places lent acc
  last : LastFits acc.writers.last

module _ (places : ℕ) (ok : figure_ok places ≡ true) (l : Lent) (acc : Accounts) (m : After places l acc) where
  heads : l.head ≡ head_of places m.state
  heads = ap (λ (k : Lent). k.head) m.laid ∙ unfold lay_out in refl

  fits_after : LastFits acc.writers.last → FitsHead l.head
  fits_after f = subst FitsHead (sym heads) (head_fits places (figure-few places ok) m.state acc m.held f)

  figure-after : l.head.places ≡ places
  figure-after = ap (λ (h : Head). h.places) heads ∙ unfold head_of in refl

  -- so a call on it is `call_in` for the figure
  call-after : (sheet out : List ℕ) → call_of sheet (with_out out l) ≡ call_in places sheet (lay_out places m.state out)
  call-after sheet out = call-in sheet (with_out out l) places ok figure-after ∙ ap (call_in places sheet) (anew places out m)

module _ (places : ℕ) (ok : figure_ok places ≡ true) (i : Lending) (x : Crossed) (acc : Accounts) (m : Carried places x acc) where
  abbrev l : Lent
  l = m.lent

  abbrev r : Left
  r = call_of i.sheet (with_out i.out l)

  abbrev e : Event
  e = event_of i.sheet (next i x)

  fits : FitsHead l.head
  fits = fits_after places ok l acc m.after m.last

  has-figure : figure_ok l.head.places ≡ true
  has-figure = rw (figure-after places ok l acc m.after) ok

  same_lending : next i x ≡ boundary_call (head_bytes l.head) i.sheet l.pens l.writers l.lost i.out i.answer
  same_lending = same-call i.sheet i.out i.answer m.along.head m.along.pens m.along.writers m.along.lost

  -- an answer of its length
  module _ (w : eqb (length i.answer) 72 ≡ true) where
    crosses : next i x ≡ crossed (head_bytes l.head) i.answer r
    crosses = same_lending ∙ crossing l.head i.sheet l.pens l.writers l.lost i.out i.answer fits has-figure w

    answer_fits : AnswerFits r.answer
    answer_fits =
        subst (λ (z : Left). AnswerFits z.answer) (sym (call-after places ok l acc m.after i.sheet i.out))
        (call_fits places m.after.state i.out acc m.after.held i.sheet)

    heard : advance e acc ≡ advance (A.event_of i.sheet r.answer) acc
    heard =
        ap (λ (y : Crossed). advance (event_of i.sheet y) acc) crosses
        ∙ same-heard i.sheet (head_bytes l.head) i.answer r acc w answer_fits

    one : SheetBytes i → After places r.lent (advance (A.event_of i.sheet r.answer) acc)
    unfolding A.final A.history accounts_from
    one bytes =
        rw (call-in i.sheet (with_out i.out l) places ok (figure-after places ok l acc m.after))
        (after_list places (record { sheet = i.sheet; out = i.out } ∷ []) l acc (bytes, tt) m.after)

    carried : SheetBytes i → Carried places (next i x) (advance e acc)
    carried bytes =
        record {
          lent = r.lent;
          along = subst (λ (y : Crossed). Along y r.lent) (sym crosses)
              (crossed_along l.head i.answer r (λ n. ap (λ (k : Lent). k.head) (call_keeps i.sheet (with_out i.out l) n)));
          after = subst (After places r.lent) (sym heard) (one bytes);
          last = last_fits e acc m.last;
        }

  -- another length
  module _ (w : eqb (length i.answer) 72 ≡ false) where
    refuses : next i x ≡ crossed (head_bytes l.head) i.answer (refuse 1 (with_out i.out l))
    refuses = same_lending ∙ short l.head i.sheet l.pens l.writers l.lost i.out i.answer fits has-figure w

    left_alone : Along (next i x) l
    unfolding crossed called_head
    left_alone = subst (λ (y : Crossed). Along y l) (sym refuses) record { head = refl; pens = refl; writers = refl; lost = refl }

    refused-1 : (next i x).number ≡ 1
    unfolding crossed
    refused-1 = ap (λ (y : Crossed). y.number) refuses

    skipped : advance e acc ≡ acc
    skipped = unheard e acc (rw refused-1)

    stays : Carried places (next i x) (advance e acc)
    stays =
        record {
          lent = l;
          along = left_alone;
          after = subst (After places l) (sym skipped) m.after;
          last = last_fits e acc m.last;
        }

  next_carried : SheetBytes i → Carried places (next i x) (advance e acc)
  next_carried bytes = split (eqb (length i.answer) 72) (λ w. carried w bytes) stays

  called_other : eqb r.answer.number 3 ≡ false
  called_other =
      ap (λ (z : Left). eqb z.answer.number 3) (call-after places ok l acc m.after i.sheet i.out)
      ∙ call_other places i.sheet m.after.state i.out acc m.after.held

list_carried : (places : ℕ) → figure_ok places ≡ true → (is : List Lending) (x : Crossed) (acc : Accounts) → All SheetBytes is → Carried places x acc →
    Carried places (final is x) (accounts_from (history is x) acc)
unfolding final history accounts_from
list_carried places ok [] x acc b m = m
list_carried places ok (i ∷ is) x acc b m =
    list_carried places ok is (next i x) (advance (event_of i.sheet (next i x)) acc) b.1 (next_carried places ok i x acc m b.0)

-- ---- from the fresh state

abbrev Begins : ℕ → Crossed → Type 0
Begins places x = x.number ≡ 0 → Along x (fresh places [])

refused-begins : (places : ℕ) (head : List ℕ) (l : Lent) → Begins places (crossed head [] (refuse 1 l))
unfolding crossed
refused-begins places head l n = absurd (omega (arith, n))

fresh-begins : (head pens writers lost : List ℕ) → Begins (places_in pens) (boundary_fresh head pens writers lost)
unfolding boundary_fresh fresh_of
fresh-begins head pens writers lost =
    either (λ (z : Left). Begins (places_in pens) (crossed head [] z)) (eqb (length head) 64) _ _
    (λ e. either (λ (z : Left). Begins (places_in pens) (crossed head [] z)) (room_ok (places_in pens) pens writers lost) _ _ (λ d. made)
    (λ d. refused-begins (places_in pens) head _))
    (λ e. refused-begins (places_in pens) head _)
  where
    made : Begins (places_in pens) (crossed head [] record { answer = silent; lent = fresh (places_in pens) [] })
    made n = unfold crossed called_head in record { head = refl; pens = refl; writers = refl; lost = refl }

fresh_carried : (head pens writers lost : List ℕ) → (boundary_fresh head pens writers lost).number ≡ 0 →
    Carried (places_in pens) (boundary_fresh head pens writers lost) absent
fresh_carried head pens writers lost n =
    record {
      lent = fresh (places_in pens) [];
      along = fresh-begins head pens writers lost n;
      after = unfold accounts_of accounts_from A.final A.history in after-fresh (places_in pens) [] [] tt;
      last = record { high = omega arith; low = omega arith };
    }

-- ---- the claim

told_carried : (places : ℕ) → figure_ok places ≡ true → (x : Crossed) (acc : Accounts) → Carried places x acc → ToldAcross places x acc
told_carried places ok x acc m =
    record {
      head = m.along.head ∙ ap head_bytes (sym read);
      told =
          subst (λ (k : Lent). Told places k acc) (sym (same-lent x.out read m.along.pens m.along.writers m.along.lost))
          (told-after places (with_out x.out l) acc
          record { state = m.after.state; held = m.after.held; laid = anew places x.out m.after });
    }
  where
    l : Lent
    l = m.lent

    read : head_in x.head ≡ l.head
    read = ap head_in m.along.head ∙ (head_forth l.head (fits_after places ok l acc m.after m.last)).0

pub boundary_demand3 : BoundaryDemand3
boundary_demand3 head pens writers lost is n b =
    unfold accounts_of in
    told_carried (places_in pens) (figure-in pens) _ _
    (list_carried (places_in pens) (figure-in pens) is (boundary_fresh head pens writers lost) absent b (fresh_carried head pens writers lost n))

-- with pens of 16,384 bytes, and of 65,536
pub boundary_demand3_32 : SizedDemand3 32
boundary_demand3_32 head pens writers lost is size n b = rw (places-in 32 pens refl size) at (boundary_demand3 head pens writers lost is n b)

pub boundary_demand3_128 : SizedDemand3 128
boundary_demand3_128 head pens writers lost is size n b = rw (places-in 128 pens refl size) at (boundary_demand3 head pens writers lost is n b)

-- ---- not vacuous

module _ (head pens writers lost : List ℕ) (is : List Lending) (i : Lending) (accepted : (boundary_fresh head pens writers lost).number ≡ 0)
    (bytes : All SheetBytes is) where
  abbrev x : Crossed
  x = final is (boundary_fresh head pens writers lost)

  abbrev acc : Accounts
  acc = accounts_from (history is (boundary_fresh head pens writers lost)) absent

  m : Carried (places_in pens) x acc
  m =
      list_carried (places_in pens) (figure-in pens) is (boundary_fresh head pens writers lost) absent bytes
      (fresh_carried head pens writers lost accepted)

  number_is : eqb (length i.answer) 72 ≡ true → (next i x).number ≡ (call_of i.sheet (with_out i.out m.lent)).answer.number
  number_is w =
      ap (λ (y : Crossed). y.number) (crosses (places_in pens) (figure-in pens) i x acc m w)
      ∙ crossed-number (head_bytes m.lent.head) i.answer (call_of i.sheet (with_out i.out m.lent))

  -- no sheet, Out and answer whatever is refused as 3
  pub never_3 : (next i x).number ≢ 3
  never_3 e =
      split (eqb (length i.answer) 72)
      (λ w. eqb-false (call_of i.sheet (with_out i.out m.lent)).answer.number 3 (called_other (places_in pens) (figure-in pens) i x acc m) (sym (number_is w) ∙ e))
      (λ w. absurd (omega (arith, e, refused-1 (places_in pens) (figure-in pens) i x acc m w)))

  -- a call whose lengths and sheet are in order returns the number worked out from the accounts
  pub only-busy : (c : Call) → SheetBytes i → length i.sheet ≡ 256 → length i.out ≡ 4096 → length i.answer ≡ 72 →
      call_of_code (sheet_of i.sheet).code ≡ some c → Ordered c (sheet_of i.sheet) →
      (next i x).number ≡ busy (places_in pens) c (sheet_of i.sheet) (accounts_of (history is (boundary_fresh head pens writers lost)))
  unfolding accounts_of
  only-busy c b n o a q d =
      number_is (eq-eqb (length i.answer) 72 a)
      ∙ ap (λ (z : Left). z.answer.number) (call-after (places_in pens) (figure-in pens) m.lent acc m.after i.sheet i.out)
      ∙ held_busy (places_in pens) i.sheet m.after.state i.out acc c b n o q d m.after.held
