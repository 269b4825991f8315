-- From what a call on the instance table leaves to what the call on head and buffers leaves.
--     instance-outcome, admit-outcome     a call is accepted, or refused with nothing changed
--     range_left          from what the code returns and leaves to the call on bytes
--     graft_left          what such a call on the table leaves is, in head and buffers, what model says
use Prim.Native.Nat.{ℕ, zero, suc}
use mathlib.Core.Bool.{Bool, true, false, not, ◌&&◌, cond}
use mathlib.Core.Option.{Option}
use mathlib.Core.Path.{◌≡◌, refl, sym, ap, ◌∙◌}
use mathlib.Core.List.{List}
use lib.Dec.{eqb, eqb-suc-zero}
use lib.ListN.{length}
use Rattle.model.specs.declared.Head.{Head}
use Rattle.model.specs.declared.Instance.{Instance}
use Rattle.model.specs.declared.InstanceCall.{InstanceCall}
use Rattle.model.specs.declared.InstanceHandle.{InstanceHandle}
use Rattle.model.specs.declared.Sheet.{Sheet}
use Rattle.model.specs.Answers.{refused_with, silent, stopping}
use Rattle.model.specs.declared.Answer.{Answer}
use Rattle.model.specs.Call.{Left, lent_of, settle, list_in, turn, judged}
use Rattle.model.specs.Calls.{Call}
use Rattle.model.specs.Handles.{handle}
use Rattle.model.specs.InstanceCalls.{Turned, refused, unchanged, with_instances, at_limit, late_refusal, instance_turn, instance_call, known, full, spent, crowds, accepted}
use Rattle.model.specs.Instances.{rule, limited_by, has_key}
use Rattle.model.specs.Joined.{in_order, passes_filter, sampled, admitted, admit_with, admit_call}
use Rattle.model.specs.State.{Lent, State, state_of, lay_out, head_of, pens_of}
use Rattle.model.specs.Refusals.{sheet_refusal}
use Rattle.model.specs.Tables.{find}
use Rattle.model.proofs.CallLaws.{told-accepts}
use Rattle.model.proofs.StateLaws.{Buffers, Formed, formed_facts, lay_back}
use Rattle.call_laws.specs.Entered.{Entered}
use Rattle.call_laws.specs.Heads.{head_with}
use Rattle.call_laws.proofs.Chain.{judged-turn, buffers}
use Rattle.call_laws.proofs.Graft.{table_of, graft}

-- ---- accepted, or refused with nothing changed

pub picked : {A : Type 0} (n : ℕ) (x y : A) → n ≡ 0 → cond (eqb n 0) x y ≡ x
picked n x y e = rw e

pub unpicked : {A : Type 0} (n : ℕ) (x y : A) → cond (eqb (suc n) 0) x y ≡ y
unpicked n x y = rw (eqb-suc-zero n)

pub data Outcome (st : State) (t : Turned) : Type 0 where
  accepts : t.answer.number ≡ 0 → Outcome st t
  refuses : (n : ℕ) → t ≡ refused (suc n) st → Outcome st t

pub instance-outcome : (places : ℕ) (c : InstanceCall) (s : Sheet) (st : State) → Outcome st (instance_call places c s st)
unfolding instance_call instance_turn
instance-outcome places c s st = each (limited_by (rule c).reach && at_limit s st) (late_refusal places c s st)
  where
    each : (a : Bool) (n : ℕ) → Outcome st (cond a (unchanged silent st) (cond (eqb n 0) (instance_turn c s st) (refused n st)))
    each true n = accepts refl
    each false zero = accepts (told-accepts c s _ _)
    each false (suc n) = refuses n (unpicked n (instance_turn c s st) (refused (suc n) st))

pub admit-outcome : (places : ℕ) (s : Sheet) (st : State) → Outcome st (admit_call places s st)
unfolding admit_with admitted sampled
admit-outcome places s st =
    each (not (in_order s x)) (not (passes_filter s x)) (at_limit s st) (not (known s st) && full places st) (not (known s st) && spent st) (crowds s x)
    (not (accepted s x))
  where
    x : Option Instance
    x = find (has_key s.key) st.instances

    each : (a b c d e f g : Bool) →
        Outcome st
        (cond a (unchanged (stopping 1) st) (cond b (unchanged (stopping 2) st) (cond c (unchanged (stopping 3) st) (cond d (refused 9 st) (cond e (refused 13 st)
        (cond f (refused 10 st) (cond g (unchanged (stopping 4) st) (admitted s st))))))))
    each true b c d e f g = accepts refl
    each false true c d e f g = accepts refl
    each false false true d e f g = accepts refl
    each false false false true e f g = refuses 8 refl
    each false false false false true f g = refuses 12 refl
    each false false false false false true g = refuses 9 refl
    each false false false false false false true = accepts refl
    each false false false false false false false = accepts refl

-- ---- head and buffers

-- what the call on the table left, in head and buffers
abbrev pub left_in : ℕ → Lent → Turned → Left
left_in places l t =
    record {
      answer = t.answer;
      lent = lent_of (head_with l.head (length t.state.instances) (handle t.state.next_handle)) (pens_of places t.state.instances) l.writers l.lost
          (list_in t.list l.out);
    }

module _ (places : ℕ) (l : Lent) (b : Buffers places l) (f : Formed places l) where
  laid : lay_out places (state_of l) l.out ≡ l
  laid = lay_back places l b f

  head-laid : head_of places (state_of l) ≡ l.head
  unfolding lay_out
  head-laid = ap (λ (x : Lent). x.head) laid

  -- the state with another table, laid out
  laid_with : (xs : List Instance) (next : ℕ) (out : List ℕ) →
      lay_out places (with_instances xs next (state_of l)) out
      ≡ lent_of (head_with l.head (length xs) (handle next)) (pens_of places xs) l.writers l.lost out
  unfolding lay_out head_of
  laid_with xs next out =
      let w = ap (λ (x : Lent). x.writers) laid in
      let o = ap (λ (x : Lent). x.lost) laid in
      rw (w, o) (ap (λ (x : Head). lent_of (head_with x (length xs) (handle next)) (pens_of places xs) l.writers l.lost out) head-laid)

  -- an accepted call
  settled : (t : Turned) → t.answer.number ≡ 0 → settle places (graft (state_of l) t) l ≡ left_in places l t
  unfolding settle
  settled t e =
      picked t.answer.number _ _ e
      ∙ ap (λ (x : Lent). record { answer = t.answer; lent = x }) (laid_with t.state.instances t.state.next_handle (list_in t.list l.out))

  -- the state with its own table is the state
  own : lent_of (head_with l.head (length (state_of l).instances) (handle (state_of l).next_handle)) (pens_of places (state_of l).instances) l.writers l.lost l.out ≡ l
  own = sym (laid_with (state_of l).instances (state_of l).next_handle l.out) ∙ laid

  -- a refused one
  unsettled : (n : ℕ) → settle places (graft (state_of l) (refused (suc n) (table_of (state_of l)))) l ≡ left_in places l (refused (suc n) (table_of (state_of l)))
  unfolding settle
  unsettled n = unpicked n _ _ ∙ ap (λ (x : Lent). record { answer = refused_with (suc n); lent = x }) (sym own)

  pub graft_left : (t : Turned) → Outcome (table_of (state_of l)) t → settle places (graft (state_of l) t) l ≡ left_in places l t
  graft_left t (accepts e) = settled t e
  graft_left t (refuses n e) = rw e (unsettled n)

-- ---- a call on instances, whole

abbrev pub lefts : Answer → Lent → Left
lefts a l = record { answer = a; lent = l }

module _ (places : ℕ) (c : Call) (s : Sheet) (l : Lent) (e : Entered places l) (fine : 0 ≡ sheet_refusal c s (state_of l)) (t : Turned)
    (grafted : turn places c s (state_of l) ≡ graft (state_of l) t) (outcome : Outcome (table_of (state_of l)) t) where
  -- what the code returns and leaves, from what the call on the table leaves
  pub range_left : (a : Answer) (n : ℕ) (h : InstanceHandle) (pens out : List ℕ) → a ≡ t.answer → n ≡ length t.state.instances → h.0 ≡ t.state.next_handle →
      pens ≡ pens_of places t.state.instances → out ≡ list_in t.list l.out →
      lefts a (lent_of (head_with l.head n h) pens l.writers l.lost out) ≡ judged places c s l
  range_left a n h pens out ea en eh ep eo =
      let h' : h ≡ handle t.state.next_handle = ap handle eh in
      let left : lefts a (lent_of (head_with l.head n h) pens l.writers l.lost out) ≡ left_in places l t = rw (ea, en, h', ep, eo) in
      left ∙ sym (graft_left places l (buffers places l e) (formed_facts places l e.formed) t outcome) ∙ ap (λ (u : Turned). settle places u l) (sym grafted)
      ∙ judged-turn places c s l fine
