-- Demand 3: one claim on the whole list of calls.
--     demand3            for every list of sheets and Outs, from the fresh state with either number of places: the final
--                        head and buffers are those of the accounts
--     demand3_32, demand3_128      with 32 places, and with 128
--     always-formed      each call of the list is lent a well-formed state: no run meets refusal 3
--     call_cases         a claim on what a call leaves, by what becomes of it
--     after-fresh        what holds after any list
--     instances_are, writers_are      the tables are the accounts not absent
use mathlib.Core.Bool.{Bool, true, false, cond}
use mathlib.Core.List.{List, [], ◌∷◌}
use mathlib.Core.Option.{Option, none, some}
use mathlib.Core.Path.{◌≡◌, refl, sym, ap, ◌∙◌, subst}
use Prim.Native.Nat.{ℕ}
use native.Mathlib.Nat.{zero-add}
use borrow.Author.Tests.{eqb-true}
use lib.Dec.{eqb}
use lib.ListN.{length}
use Rattle.octets.specs.Bounds.{Bytes}
use Rattle.octets.specs.Lay.{All}
use Rattle.model.specs.declared.Answer.{Answer}
use Rattle.model.specs.Answers.{refused_with}
use Rattle.model.specs.Call.{Left, refuse, turn, list_in, settle, judged, coded, call_in, call_of}
use Rattle.model.specs.Calls.{Call, call_of_code}
use Rattle.model.specs.Handles.{handle}
use Rattle.model.specs.InstanceCalls.{Turned}
use Rattle.model.specs.Refusals.{lengths_ok, sheet_refusal}
use Rattle.model.specs.Sheets.{sheet_of}
use Rattle.model.specs.State.{Lent, State, figure_ok, head_of, lay_out, pens_of, writers_of, lost_of, fresh, fresh_state, instance_key, writer_key}
use Rattle.model.specs.WellFormed.{well_formed}
use Rattle.model.proofs.Tests.{both}
use Rattle.model.proofs.StateLaws.{read_back, laid-valid, fresh-laid}
use Rattle.accounts.specs.Accounts.{Accounts, absent, accepted, advance, accounts_from, accounts_of, Lending, with_out, event_of, next, final, history, SheetBytes, instances_in, writers_in, Told, Demand3}
use Rattle.accounts.specs.Ranges.{bound}
use Rattle.accounts.proofs.Basics.{either}
use Rattle.accounts.proofs.InStep.{InStep, held_turn, held_valid, held_fits, held_fresh}
use Rattle.accounts.proofs.Runs.{left_in, told_in}
use Rattle.accounts.proofs.SheetLaws.{sheet_fits}
use Rattle.accounts.proofs.Steps.{advanced}
use Rattle.accounts.proofs.TurnLaws.{lookup, within-present, present_ext}
use Rattle.accounts.proofs.WriterTurns.{alive_are, not_alive_are}

-- ---- the accounts of an answer

-- refused calls are skipped
refused_unheard : (sheet : List ℕ) (n : ℕ) → eqb n 0 ≡ false → accepted (event_of sheet (refused_with n)) ≡ none
refused_unheard sheet n e = ap (λ (b : Bool). cond b (call_of_code (sheet_of sheet).code) none) e

skipped : (sheet : List ℕ) (n : ℕ) (acc : Accounts) → eqb n 0 ≡ false → advance (event_of sheet (refused_with n)) acc ≡ acc
unfolding advance
skipped sheet n acc e = rw (refused_unheard sheet n e)

heard : (sheet : List ℕ) (a : Answer) (c : Call) (acc : Accounts) → a.number ≡ 0 →
    call_of_code (sheet_of sheet).code ≡ some c →
    advance (event_of sheet a) acc ≡ advanced c (sheet_of sheet) a acc
unfolding advance
heard sheet a c acc e q = rw (e, q)

-- ---- one call of the list

pub record Next (places : ℕ) (sheet : List ℕ) (r : Left) (acc : Accounts) : Type 0 where
  pub state : State
  pub held : InStep places state (advance (event_of sheet r.answer) acc)
  pub laid : r.lent ≡ lay_out places state r.lent.out

pub formed : (places : ℕ) (st : State) (out : List ℕ) (acc : Accounts) → InStep places st acc →
    well_formed places (lay_out places st out) ≡ true
formed places st out acc m = laid-valid places st out (held_fits places st acc m) ∙ held_valid places st acc m

-- what an accepted turn leaves
abbrev pub settled : ℕ → Turned → List ℕ → Left
settled places t out = record { answer = t.answer; lent = lay_out places t.state (list_in t.list out) }

-- a claim on what a call leaves: of each refusal, and of what an accepted turn leaves
pub call_cases : (P : Left → Type 0) (places : ℕ) (sheet : List ℕ) (st : State) (out : List ℕ) (acc : Accounts) → InStep places st acc →
    ((n : ℕ) → eqb n 0 ≡ false → P (refuse n (lay_out places st out))) →
    ((c : Call) → length sheet ≡ 256 → call_of_code (sheet_of sheet).code ≡ some c → eqb (sheet_refusal c (sheet_of sheet) st) 0 ≡ true →
    eqb (turn places c (sheet_of sheet) st).answer.number 0 ≡ true → P (settled places (turn places c (sheet_of sheet) st) (lay_out places st out).out)) →
    P (call_in places sheet (lay_out places st out))
unfolding call_in
call_cases P places sheet st out acc m refuses takes =
    either P (lengths_ok places sheet (lay_out places st out)) _ _ (λ e. coded_case (size e) (call_of_code (sheet_of sheet).code) refl) (λ e. refuses 1 refl)
  where
    size : lengths_ok places sheet (lay_out places st out) ≡ true → length sheet ≡ 256
    size e = unfold lengths_ok in eqb-true (length sheet) 256 (both _ _ e).0

    judged_case : length sheet ≡ 256 → (c : Call) → call_of_code (sheet_of sheet).code ≡ some c → P (judged places c (sheet_of sheet) (lay_out places st out))
    judged_case n c q =
        unfold judged settle in
        rw (read_back places st out (held_fits places st acc m))
        (either P (eqb (sheet_refusal c (sheet_of sheet) st) 0) _ _
        (λ e. either P (eqb (turn places c (sheet_of sheet) st).answer.number 0) _ _ (λ d. takes c n q e d) (λ d. refuses _ d))
        (λ e. refuses _ e))

    coded_case : length sheet ≡ 256 → (o : Option Call) → call_of_code (sheet_of sheet).code ≡ o → P (coded places o (sheet_of sheet) (lay_out places st out))
    coded_case n none q = refuses 2 refl
    coded_case n (some c) q = rw (formed places st out acc m) (judged_case n c q)

call_next : (places : ℕ) (sheet : List ℕ) (st : State) (out : List ℕ) (acc : Accounts) → Bytes sheet → InStep places st acc →
    Next places sheet (call_in places sheet (lay_out places st out)) acc
call_next places sheet st out acc b m =
    call_cases (λ (r : Left). Next places sheet r acc) places sheet st out acc m
    (λ n e. record { state = st; held = subst (InStep places st) (sym (skipped sheet n acc e)) m; laid = unfold lay_out in refl })
    (λ c n q a e. let t = turn places c (sheet_of sheet) st in record {
      state = t.state;
      held = subst (InStep places t.state) (sym (heard sheet t.answer c acc (eqb-true t.answer.number 0 e) q))
          (held_turn places c (sheet_of sheet) st acc (sheet_fits sheet b n) a e m);
      laid = unfold lay_out in refl;
    })

-- ---- a list of calls

out_replaced : (places : ℕ) (st : State) (out new : List ℕ) → with_out new (lay_out places st out) ≡ lay_out places st new
unfolding lay_out
out_replaced places st out new = refl

pub record After (places : ℕ) (l : Lent) (acc : Accounts) : Type 0 where
  pub state : State
  pub held : InStep places state acc
  pub laid : l ≡ lay_out places state l.out

-- lent again with another Out
pub anew : (places : ℕ) (out : List ℕ) {l : Lent} {acc : Accounts} (m : After places l acc) → with_out out l ≡ lay_out places m.state out
anew places out {l} m = ap (with_out out) m.laid ∙ out_replaced places m.state l.out out

pub after_list : (places : ℕ) (is : List Lending) (l : Lent) (acc : Accounts) → All SheetBytes is → After places l acc →
    After places (final (call_in places) is l) (accounts_from (history (call_in places) is l) acc)
unfolding final history accounts_from
after_list places [] l acc b m = m
after_list places (i ∷ is) l acc b m =
    after_list places is (next (call_in places) i l).lent
    (advance (event_of i.sheet (next (call_in places) i l).answer) acc) b.1 after
  where
    one : Next places i.sheet (next (call_in places) i l) acc
    one =
        subst (λ (k : Lent). Next places i.sheet (call_in places i.sheet k) acc) (sym (anew places i.out m))
        (call_next places i.sheet m.state i.out acc b.0 m.held)

    after : After places (next (call_in places) i l).lent
        (advance (event_of i.sheet (next (call_in places) i l).answer) acc)
    after = record { state = one.state; held = one.held; laid = one.laid }

-- after every list, from the fresh state
pub after-fresh : (places : ℕ) (is : List Lending) (out : List ℕ) → All SheetBytes is →
    After places (final (call_in places) is (fresh places out)) (accounts_of (history (call_in places) is (fresh places out)))
unfolding accounts_of
after-fresh places is out b =
    after_list places is (fresh places out) absent b
    record {
      state = fresh_state;
      held = held_fresh places;
      laid = sym (fresh-laid places out) ∙ ap
          (lay_out places fresh_state) outs;
    }
  where
    outs : out ≡ (fresh places out).out
    outs = unfold fresh in refl

-- ---- the claim

-- the tables are the accounts not absent
pub instances_are : (places : ℕ) (st : State) (acc : Accounts) → InStep places st acc → st.instances ≡ instances_in acc
unfolding instances_in
instances_are places st acc m =
    within-present instance_key 0 bound st.instances (rw (zero-add bound) m.sim.instances.rising)
    ∙ present_ext instance_key 0 bound (λ j. lookup instance_key j st.instances) acc.instances.at
    (λ j l. m.sim.instances.agree j)

pub writers_are : (places : ℕ) (st : State) (acc : Accounts) → InStep places st acc → st.writers ≡ writers_in acc
unfolding writers_in
writers_are places st acc m =
    within-present writer_key 0 bound st.writers (rw (zero-add bound) m.sim.writers.rising)
    ∙ present_ext writer_key 0 bound (λ j. lookup writer_key j st.writers) acc.writers.at
    (λ j l. m.sim.writers.agree j)

told-laid : (places : ℕ) (st : State) (out : List ℕ) (acc : Accounts) → InStep places st acc →
    Told places (lay_out places st out) acc
unfolding lay_out head_of
told-laid places st out acc m =
    let xs : st.instances ≡ instances_in acc = instances_are places st acc m in
    let ws : st.writers ≡ writers_in acc = writers_are places st acc m in
    let v = m.sim.writers in
    let alive = alive_are st.writers acc.writers.at v.rising v.agree in
    let not_alive = not_alive_are st.writers acc.writers.at v.rising v.agree in
    record {
      figure = refl;
      pens = ap (pens_of places) xs;
      writers = ap writers_of ws;
      lost = ap lost_of v.lost;
      instance_count = ap length xs;
      writer_count = ap length ws;
      lost_count = ap length v.lost;
      alive = alive;
      not_alive = not_alive;
      alive_change = rw (alive, v.acknowledged_alive);
      not_alive_change = rw (not_alive, v.acknowledged_not_alive);
      last_writer = v.last;
      changes = v.changes;
      started_handles = m.sim.instances.handles;
      next_handle = ap handle m.sim.instances.next;
    }

pub told-after : (places : ℕ) (l : Lent) (acc : Accounts) → After places l acc → Told places l acc
told-after places l acc m =
    subst (λ (k : Lent). Told places k acc) (sym m.laid) (told-laid places m.state l.out acc m.held)

pub demand3 : (places : ℕ) → figure_ok places ≡ true → Demand3 places call_of
demand3 places ok is out b = rw (left_in places ok is out, told_in places ok is out) (told-after places _ _ (after-fresh places is out b))

pub demand3_32 : Demand3 32 call_of
demand3_32 = demand3 32 refl

pub demand3_128 : Demand3 128 call_of
demand3_128 = demand3 128 refl

-- ---- not vacuous: no call of a run meets refusal 3

pub always-formed : (places : ℕ) → figure_ok places ≡ true → (is : List Lending) (out new : List ℕ) → All SheetBytes is →
    well_formed places (with_out new (final call_of is (fresh places out))) ≡ true
always-formed places ok is out new b =
    let m = after-fresh places is out b in
    ap (λ (l : Lent). well_formed places (with_out new l)) (left_in places ok is out)
    ∙ ap (well_formed places) (anew places new m) ∙ formed places m.state new _ m.held
