-- From the lent table to what code 48 leaves, answer by answer.
--     known_read, known_place, known-usable, known-room    what a known instance gives
--     order-left, filter-left, crowded_left, weaker_left   a known key: nothing is written
--     admitted-left                                        the instance is replaced
--     limited-left, refused-left                           a new key: nothing is written
--     new_within, first-left                               the instance is put in
use Prim.Native.Nat.{ℕ, ◌+◌, ◌*◌, ◌≤◌, ◌<◌, ◌^◌}
use mathlib.Core.Bool.{true, false}
use mathlib.Core.List.{List, [], ◌∷◌, ◌++◌, map}
use mathlib.Core.Option.{none, some}
use mathlib.Core.Path.{◌≡◌, refl, sym, ap, ◌∙◌}
use native.Mathlib.Omega.{arith}
use borrow.Author.Tests.{le-leb, lt-leb}
use lib.ListN.{length, take, drop, set, length-append, length-drop, length-set}
use lib.Seq.{length-take-le}
use Rattle.octets.specs.Bounds.{Bytes}
use Rattle.model.specs.declared.Answer.{Answer}
use Rattle.model.specs.declared.Instance.{Instance}
use Rattle.model.specs.declared.InstanceHandle.{InstanceHandle}
use Rattle.model.specs.declared.Sheet.{Sheet}
use Rattle.model.specs.Answers.{refused_with, stopping}
use Rattle.model.specs.Guids.{num}
use Rattle.model.specs.Handles.{allocated}
use Rattle.model.specs.InstanceCalls.{Turned, unchanged, crowds}
use Rattle.model.specs.InstanceRecord.{instance_of}
use Rattle.model.specs.Instances.{has_key, takes_over, ownership_tried, admitted_observed, admitted_noted, started}
use Rattle.model.specs.Joined.{admit_call, in_order, passes_filter}
use Rattle.model.specs.State.{State, instance_key, instances_in}
use Rattle.model.specs.Tables.{find}
use Rattle.model.proofs.AdmitLaws.{tried_owned, noted_owned}
use Rattle.std.specs.Prelude.{Err}
use Rattle.tables.specs.Found.{found_in}
use Rattle.tables.specs.Places.{Only}
use Rattle.tables.proofs.Finds.{find-only, find-nowhere}
use Rattle.tables.proofs.Puts.{missing-nowhere, missing-le}
use Rattle.instance_fields.specs.Usable.{Usable, Room}
use Rattle.instance_table.specs.Laid.{Laid}
use Rattle.instance_table.specs.TableCalls.{TableFormed, state_with}
use Rattle.instance_reach.specs.Turned.{LeavesTable, start_refusal, blank, with_state}
use Rattle.instance_reach.proofs.Table.{start_cases, ready_length, ready_rises, ready_few, ready_laid, ready_place, ready_read, ready_usable, ready_room}
use Rattle.admission.specs.Admits.{Admits, Known, Timely, Sampled, limited}
use Rattle.admission.proofs.Admitted.{leaving, answers_of, admitted-known, admitted_new}
use Rattle.admission.proofs.Tests.{out_of_order, filtered, crowded_out, weaker, admits-known, new_limited, new_full, new_spent, admits_new}

-- what the code leaves is what the turn leaves
done_left : {places : ℕ} {T : Turned} {a : Answer} {ys : List Instance} {next : ℕ} {t : List ℕ} →
    T ≡ record { answer = a; state = state_with ys next; list = [] } → (b : Answer) (n : ℕ) (h : InstanceHandle) → b ≡ a → n ≡ length ys →
    h.0 ≡ next → Laid places ys t → LeavesTable places T (record { answer = b; count = n; next_handle = h }) t
done_left q b n h e m k l = rw q (record { answer = e; count = m; next = k; laid = l; quiet = refl })

module _ {places count next : ℕ} {t : List ℕ} (r : TableFormed places count next t) (s : Sheet) where
  abbrev xs : List Instance
  xs = instances_in count t

  abbrev st : State
  st = state_with xs next

  -- ---- the instance of the key stands at place i

  module _ (i : ℕ) where
    within : Only (has_key s.key) xs i blank → i < count
    within o = omega (arith, o.within, ready_length r)

    pub known_place : Only (has_key s.key) xs i blank → i * 512 + 512 ≤ length t
    known_place o = ready_place r i (omega (arith, within o, ready_few r))

    pub known_read : (x : Instance) → Only (has_key s.key) xs i blank → x ≡ instance_of (take 512 (drop (i * 512) t)) → Known s xs i x
    known_read x o e = record { only = o; is = e ∙ sym (ready_read r i (within o)) }

    module _ (x : Instance) (k : Known s xs i x) where
      pub known-usable : Usable x.state
      known-usable = rw k.is (ready_usable r i (within k.only))

      pub known-room : crowds s (some x) ≡ false → Room s.guid x.state
      known-room h = rw k.is (ready_room r i (within k.only) s.guid (rw k.is at h))

  -- ---- what is left

  module _ (bytes : Bytes t) where
    -- nothing is written
    same_left : (a b : Answer) (h : InstanceHandle) → admit_call places s st ≡ unchanged a st → b ≡ a → h.0 ≡ next →
        Admits places s xs next (record { answer = b; count = count; next_handle = h }) t
    same_left a b h q e k = done_left q b count h e (sym (ready_length r)) k (ready_laid r bytes)

    module _ (i : ℕ) (x : Instance) (k : Known s xs i x) (b : Answer) (h : InstanceHandle) (same : h.0 ≡ next) where
      found : find (has_key s.key) xs ≡ some x
      found = find-only (has_key s.key) blank xs i k.only ∙ ap some (sym k.is)

      pub order-left : in_order s (some x) ≡ false → b ≡ stopping 1 → Admits places s xs next (record { answer = b; count = count; next_handle = h }) t
      order-left a e = same_left (stopping 1) b h (out_of_order places s st x found a) e same

      pub filter-left : in_order s (some x) ≡ true → passes_filter s (some x) ≡ false → b ≡ stopping 2 →
          Admits places s xs next (record { answer = b; count = count; next_handle = h }) t
      filter-left a f e = same_left (stopping 2) b h (filtered places s st x found a f) e same

      module _ (timely : Timely s x) where
        pub crowded_left : crowds s (some x) ≡ true → b ≡ refused_with 10 → Admits places s xs next (record { answer = b; count = count; next_handle = h }) t
        crowded_left c e = same_left (refused_with 10) b h (crowded_out places s st x found timely c) e same

        module _ (c : crowds s (some x) ≡ false) where
          pub weaker_left : takes_over s x.state ≡ false → b ≡ stopping 4 → Admits places s xs next (record { answer = b; count = count; next_handle = h }) t
          weaker_left w e = same_left (stopping 4) b h (weaker places s st x found timely c w) e same

          pub admitted-left : (y : Instance) (u : List ℕ) → takes_over s x.state ≡ true → Sampled s x y →
              b ≡ answers_of y → ((places : ℕ) (xs : List Instance) → Laid places xs t → i < length xs → Laid places (set xs i y) u) →
              Admits places s xs next (record { answer = b; count = count; next_handle = h }) u
          admitted-left y u w n e l =
              let q : y ≡ with_state x (admitted_noted s (admitted_observed s (ownership_tried s x.state))) =
              rw (tried_owned s x.state w, noted_owned s x.state) n.left in
              done_left (admits-known places s st x found timely c w ∙ admitted-known s blank st i x k.only (sym k.is)
              ∙ ap (λ (v : Instance). leaving (answers_of v) (set xs i v) next st) (sym q)) b count h e
              (sym (length-set xs i y ∙ ready_length r)) same (l places xs (ready_laid r bytes) k.only.within)

    -- no instance has the key, and place i is where it would go in
    module _ (i : ℕ) (m : found_in (map instance_key xs) (num s.key) ≡ Err i) (b : Answer) (h : InstanceHandle) where
      nobody : find (has_key s.key) xs ≡ none
      nobody = find-nowhere (has_key s.key) blank xs (missing-nowhere instance_key xs blank (ready_rises r) (num s.key) i m)

      counted : limited s (length xs) ≡ limited s count
      counted = rw (ready_length r)

      pub limited-left : limited s count ≡ true → b ≡ stopping 3 → h.0 ≡ next → Admits places s xs next (record { answer = b; count = count; next_handle = h }) t
      limited-left l e same = same_left (stopping 3) b h (new_limited places s st nobody (counted ∙ l)) e same

      module _ (l : limited s count ≡ false) where
        full-left : places ≤ count → b ≡ refused_with 9 → h.0 ≡ next → Admits places s xs next (record { answer = b; count = count; next_handle = h }) t
        full-left f e same =
            same_left (refused_with 9) b h (new_full places s st nobody (counted ∙ l) (le-leb places (length xs) (omega (arith, ready_length r)))) e same

        module _ (f : count < places) where
          free : length xs < places
          free = omega (arith, ready_length r)

          spent-left : 9223372036854775808 ≤ next → b ≡ refused_with 13 → h.0 ≡ next →
              Admits places s xs next (record { answer = b; count = count; next_handle = h }) t
          spent-left p e same =
              same_left (refused_with 13) b h
              (new_spent places s st nobody (counted ∙ l) (lt-leb places (length xs) free) (le-leb (2 ^ 63) next p)) e same

          pub first-left : (x y : Instance) (n : ℕ) (u : List ℕ) → next < 9223372036854775808 → x ≡ started s.key (allocated next).handle.0 →
              Sampled s x y → b ≡ answers_of y → n ≡ count + 1 → h.0 ≡ (allocated next).counter →
              ((places : ℕ) (xs : List Instance) → Laid places xs t → length xs ≡ count → count < places → Laid places (take i xs ++ y ∷ drop i xs) u) →
              Admits places s xs next (record { answer = b; count = n; next_handle = h }) u
          first-left x y n u p new a e grown k laid =
              let w : i ≤ length xs = missing-le instance_key xs blank (ready_rises r) (num s.key) i m in
              let o : n ≡ length (take i xs ++ y ∷ drop i xs) =
              omega (arith, length-append (take i xs) (y ∷ drop i xs), length-take-le i xs w, length-drop i xs, ready_length r) in
              done_left
              (admits_new places s st nobody (counted ∙ l) (lt-leb places (length xs) free) (lt-leb (2 ^ 63) next p)
              ∙ admitted_new s blank st i (ready_rises r) m x new
              ∙ ap (λ (v : Instance). leaving (answers_of v) (take i xs ++ v ∷ drop i xs) (allocated next).counter st) (sym a.left)) b n h e o k (laid places xs (ready_laid r bytes) (ready_length r) f)

        pub refused-left : (n : ℕ) → n ≡ start_refusal places count next → (n ≡ 0 → ⊥) → b ≡ refused_with n → h.0 ≡ next →
            Admits places s xs next (record { answer = b; count = count; next_handle = h }) t
        refused-left n e z q same =
            start_cases places count next n e (λ (k : ℕ). b ≡ refused_with k → Admits places s xs next (record { answer = b; count = count; next_handle = h }) t)
            (λ f d. full-left f d same) (λ f p d. spent-left f p d same) z q

  pub new_within : (i : ℕ) → found_in (map instance_key xs) (num s.key) ≡ Err i → i ≤ count
  new_within i m = omega (arith, missing-le instance_key xs blank (ready_rises r) (num s.key) i m, ready_length r)
