-- From the lent table to the list of its instances, and back.
--     ready_length, ready_rises, ready_distinct, ready_few, ready_most, ready_laid, ready_place, ready_room_all, ready_read, ready_usable, ready_room
--                                          what a ready table gives
--     done_left                            what the code leaves is what the turn leaves
--     absent-left                          the same where no instance is reached
--     reached_place, reached-usable, reached-room, crowded_left, changed-left
--                                          where one is reached: what its change asks; refusal 10; the change
--     start_cases, start_free              what refuses a new instance, by its number, and what holds where nothing does
--     starts-within, starts_asked, limited-left, refused-left, started-left
--                                          where one would start: what that asks; none at the limit; refusals 9 and 13; the start
--     reached_key, absent_key, reached-handle, absent-handle
--                                          from what was found to what is reached
use Prim.Native.Nat.{ℕ, ◌+◌, ◌*◌, ◌≤◌, ◌<◌}
use mathlib.Core.Bool.{Bool, true, false, not, ◌&&◌}
use mathlib.Core.List.{List, [], ◌∷◌, ◌++◌, map}
use mathlib.Core.Option.{none, some}
use mathlib.Core.Path.{◌≡◌, refl, sym, ap, ◌∙◌, subst}
use native.Mathlib.Omega.{arith}
use borrow.Author.Tests.{eqb-true, leb-true, leb-false}
use lib.Dec.{leb}
use lib.ListN.{length, get_or, take, drop, set, length-append, length-drop, length-set, length-take}
use lib.Seq.{length-take-le}
use Rattle.octets.specs.Bounds.{Bytes}
use Rattle.model.specs.declared.Answer.{Answer}
use Rattle.model.specs.declared.Guid.{Guid}
use Rattle.model.specs.declared.Instance.{Instance}
use Rattle.model.specs.declared.InstanceCall.{InstanceCall}
use Rattle.model.specs.declared.InstanceHandle.{InstanceHandle}
use Rattle.model.specs.declared.InstanceState.{InstanceState}
use Rattle.model.specs.declared.Sheet.{Sheet}
use Rattle.model.specs.Answers.{silent, refused_with}
use Rattle.model.specs.Guids.{num, guid_of}
use Rattle.model.specs.Handles.{allocated}
use Rattle.model.specs.InstanceCalls.{crowds, unchanged, answer_of, instance_call}
use Rattle.model.specs.InstanceCalls as calls
use Rattle.model.specs.InstanceRecord.{instance_of}
use Rattle.model.specs.Instances.{rule, has_key, has_handle, reaches_by, starts_by, limited_by, started, started_state, writers_in}
use Rattle.model.specs.Sets.{has, insert}
use Rattle.model.specs.State.{State, instance_key, instances_in}
use Rattle.model.specs.Tables.{rising}
use Rattle.model.specs.Times.{negative}
use Rattle.model.specs.WellFormed.{instance_ok, handles_distinct}
use Rattle.model.proofs.Tests.{split}
use Rattle.model.proofs.RowLaws.{length_read, get_read}
use Rattle.std.specs.Prelude.{Ok, Err}
use Rattle.tables.specs.Found.{found_in}
use Rattle.tables.specs.Places.{place_of, Only, Nowhere}
use Rattle.tables.proofs.Finds.{all-at, any-only, place_at, noplace}
use Rattle.tables.proofs.Puts.{found_only, missing-nowhere, missing-le, only-handle}
use Rattle.model.proofs.Valid.{valid_parts, started-valid}
use Rattle.writer_set.proofs.SetLaws.{members_rise}
use Rattle.instance_fields.specs.Usable.{Usable, Room}
use Rattle.instance_fields.proofs.UsableLaws.{usable}
use Rattle.instance_table.specs.Laid.{Laid}
use Rattle.instance_table.proofs.LaidOut.{Formed, table-formed, table-laid}
use Rattle.instance_reach.specs.Rules.{single, handled}
use Rattle.instance_table.specs.declared.TableCall.{TableCall}
use Rattle.instance_table.specs.TableCalls.{TableFormed, left, state_with}
use Rattle.instance_reach.specs.Turned.{LeavesTable, Turned, start_refusal, blank, Acted, Reached, Absent, Starts}
use Rattle.instance_reach.proofs.Acting.{room}
use Rattle.instance_reach.proofs.Turns.{key_reach, handle-reach, starts_is, and_false, call_found, call_crowded, call_none, call-limited, call-full, call-spent, call-started}

module _ {places count next : ℕ} {t : List ℕ} (r : TableFormed places count next t) where
  abbrev xs : List Instance
  xs = instances_in count t

  formed : Formed places count next t
  formed = table-formed places count next t r.formed

  pub ready_length : length xs ≡ count
  ready_length = length_read instance_of 512 count t

  pub ready_rises : rising instance_key xs ≡ true
  ready_rises = formed.rises

  pub ready_distinct : handles_distinct xs ≡ true
  ready_distinct = formed.distinct

  pub ready_few : count ≤ places
  ready_few = formed.few

  pub ready_most : count ≤ 128
  ready_most = omega (arith, r.few, ready_few)

  pub ready_laid : Bytes t → Laid places xs t
  ready_laid b = table-laid places count next t r.size b formed

  pub ready_place : (i : ℕ) → i < places → i * 512 + 512 ≤ length t
  ready_place i l = omega (arith, r.size)

  pub ready_room_all : count * 512 ≤ length t
  ready_room_all = omega (arith, r.size, ready_few)

  -- ---- the instance at a place

  module _ (i : ℕ) (l : i < count) where
    pub ready_read : get_or xs i blank ≡ instance_of (take 512 (drop (i * 512) t))
    ready_read = get_read instance_of 512 count t i blank l

    valid : instance_ok (get_or xs i blank) ≡ true
    valid = all-at instance_ok xs blank formed.valid i (omega (arith, ready_length))

    items : length (get_or xs i blank).state.writers.items ≡ 16
    unfolding instance_of
    items = rw ready_read (length_read guid_of 16 16 (drop 256 (take 512 (drop (i * 512) t))))

    pub ready_usable : Usable (get_or xs i blank).state
    ready_usable = usable (get_or xs i blank).state items valid

    pub ready_room : (g : Guid) → (not (has g (writers_in (get_or xs i blank).state)) && leb 16 (length (writers_in (get_or xs i blank).state))) ≡ false →
        Room g (get_or xs i blank).state
    ready_room g h =
        let x : InstanceState = (get_or xs i blank).state in
        room g x (members_rise x.writers (valid_parts x valid).writers) h
        (omega (arith, length-take x.writers.len x.writers.items, ready_usable.writers.few))

-- ---- what refuses a new instance

module _ (places count next n : ℕ) (e : n ≡ start_refusal places count next) where
  pub start_cases : (P : ℕ → Type 0) → (places ≤ count → P 9) → (count < places → 9223372036854775808 ≤ next → P 13) → (n ≡ 0 → ⊥) → P n
  start_cases P full spent refuses =
      split (leb places count) (λ f. let q : n ≡ 9 = e ∙ rw f in rw q (full (leb-true places count f)))
      (λ f.
      split (leb 9223372036854775808 next)
      (λ p. let q : n ≡ 13 = e ∙ rw (f, p) in rw q (spent (leb-false places count f) (leb-true 9223372036854775808 next p)))
      (λ p. absurd (refuses (e ∙ rw (f, p)))))

  pub start_free : n ≡ 0 → (count < places) × (next < 9223372036854775808)
  start_free z =
      split (leb places count) (λ f. let q : n ≡ 9 = e ∙ rw f in absurd (omega arith))
      (λ f.
      split (leb 9223372036854775808 next) (λ p. let q : n ≡ 13 = e ∙ rw (f, p) in absurd (omega arith))
      (λ p. (leb-false places count f, leb-false 9223372036854775808 next p)))

-- ---- what the code leaves is what the turn leaves

abbrev turn_with : Answer → List Instance → ℕ → calls.Turned
turn_with a ys next = record { answer = a; state = state_with ys next; list = [] }

pub done_left : {places : ℕ} {T : calls.Turned} {a : Answer} {ys : List Instance} {t : List ℕ} (n : ℕ) (h : InstanceHandle) → T ≡ turn_with a ys h.0 →
    n ≡ length ys → Laid places ys t → LeavesTable places T (left a n h) t
done_left n h q m l = rw q (record { answer = refl; count = m; next = refl; laid = l; quiet = refl })

module _ {places count : ℕ} {t : List ℕ} (next : InstanceHandle) (r : TableFormed places count next.0 t) where
  abbrev st : State
  st = state_with (instances_in count t) next.0

  -- what the call leaves, by value and in the table
  abbrev Leaves : InstanceCall → Sheet → TableCall → List ℕ → Type 0
  Leaves c s z u = Turned places c s (instances_in count t) next.0 z u

  -- nothing is written
  same_left : Bytes t → (c : InstanceCall) (s : Sheet) (a : Answer) → instance_call places c s st ≡ unchanged a st → Leaves c s (left a count next) t
  same_left bytes c s a q = done_left count next q (sym (ready_length r)) (ready_laid r bytes)

  -- ---- no instance is reached, and none starts

  pub absent-left : {c : InstanceCall} {s : Sheet} → Absent c s (instances_in count t) → Bytes t → Leaves c s (left (answer_of (rule c).says s none none) count next) t
  absent-left {c} {s} a bytes =
      same_left bytes c s (answer_of (rule c).says s none none) (call_none c s st places (rw a.idle) blank a.one a.nowhere)

  -- ---- the instance at place i is reached

  module _ {c : InstanceCall} {s : Sheet} {i : ℕ} (reach : Reached c s (instances_in count t) i) where
    within : i < count
    within = omega (arith, reach.only.within, ready_length r)

    pub reached_place : i * 512 + 512 ≤ length t
    reached_place = ready_place r i (omega (arith, within, ready_few r))

    module _ {x : Instance} (read : x ≡ instance_of (take 512 (drop (i * 512) t))) where
      is : x ≡ get_or (instances_in count t) i blank
      is = read ∙ sym (ready_read r i within)

      pub reached-usable : Usable x.state
      reached-usable = rw is (ready_usable r i within)

      pub reached-room : ((rule c).adds_writer && crowds s (some x)) ≡ false → (rule c).adds_writer ≡ true → Room s.guid x.state
      reached-room h a = let n : crowds s (some x) ≡ false = rw a at h in rw is (ready_room r i within s.guid (rw is at n))

      pub crowded_left : Bytes t → ((rule c).adds_writer && crowds s (some x)) ≡ true → Leaves c s (left (refused_with 10) count next) t
      crowded_left bytes n =
          same_left bytes c s (refused_with 10) (call_crowded c s st places reach.old i blank reach.one reach.only (rw is at n))

      pub changed-left : Bytes t → ((rule c).adds_writer && crowds s (some x)) ≡ false → (y : Instance) → Acted c s x y → (u : List ℕ) →
          ((places : ℕ) (xs : List Instance) → Laid places xs t → i < length xs → Laid places (set xs i y) u) →
          Leaves c s (left (answer_of (rule c).says s (some x) (some y)) count next) u
      changed-left bytes n y a u l =
          let xs : List Instance = instances_in count t in
          let g : Instance = get_or xs i blank in
          let act : Acted c s g y = subst (λ (z : Instance). Acted c s z y) is a in
          let q = call_found c s st places reach.old i blank reach.one reach.only y.state act.left (rw is at n) in
          let w = ap (λ (z : Instance). turn_with (answer_of (rule c).says s (some g) (some z)) (set xs i z) next.0) (sym act.same) in
          rw is
          (done_left count next (q ∙ w) (sym (length-set xs i y ∙ ready_length r)) (l places xs (ready_laid r bytes) reach.only.within))

  -- ---- an instance starts at place i

  module _ {c : InstanceCall} {s : Sheet} {i : ℕ} (begin : Starts c s (instances_in count t) i) where
    -- the limit
    abbrev limit : Bool
    limit = limited_by (rule c).reach && (not (negative s.first) && leb s.first count)

    counted : limit ≡ (limited_by (rule c).reach && (not (negative s.first) && leb s.first (length (instances_in count t))))
    counted = rw (ready_length r)

    pub starts-within : i ≤ count
    starts-within =
        omega (arith, missing-le instance_key (instances_in count t) blank (ready_rises r) (num s.key) i begin.missing, ready_length r)

    -- what the effect asks of a started instance
    pub starts_asked : {x : Instance} (n : ℕ) → x ≡ started s.key n →
        (single (rule c).reach ≡ true) × Usable x.state × ((rule c).adds_writer ≡ true → Room s.guid x.state)
    unfolding started started_state insert
    starts_asked n e = (
      (starts_is (rule c).reach begin.starts).0,
      rw e (usable started_state refl started-valid),
      (λ a. rw e (omega arith)),
    )

    pub limited-left : Bytes t → limit ≡ true → Leaves c s (left silent count next) t
    limited-left bytes m =
        same_left bytes c s silent (call-limited c s st places i blank (ready_rises r) begin.missing begin.starts (sym counted ∙ m))

    module _ (m : limit ≡ false) where
      full-left : Bytes t → places ≤ count → Leaves c s (left (refused_with 9) count next) t
      full-left bytes f =
          same_left bytes c s (refused_with 9)
          (call-full c s st places i blank (ready_rises r) begin.missing begin.starts (sym counted ∙ m) (omega (arith, ready_length r)))

      module _ (f : count < places) where
        room-left : length (instances_in count t) < places
        room-left = omega (arith, ready_length r)

        spent-left : Bytes t → 9223372036854775808 ≤ next.0 → Leaves c s (left (refused_with 13) count next) t
        spent-left bytes p =
            same_left bytes c s (refused_with 13)
            (call-spent c s st places i blank (ready_rises r) begin.missing begin.starts (sym counted ∙ m) room-left p)

        pub started-left : Bytes t → next.0 < 9223372036854775808 → {x : Instance} → x ≡ started s.key (allocated next.0).handle.0 →
            (y : Instance) → Acted c s x y → (u : List ℕ) (h : InstanceHandle) → h.0 ≡ (allocated next.0).counter →
            ((places : ℕ) (xs : List Instance) → Laid places xs t → length xs ≡ count → count < places → Laid places (take i xs ++ y ∷ drop i xs) u) →
            Leaves c s (left (answer_of (rule c).says s (some x) (some y)) (count + 1) h) u
        started-left bytes p new y a u h k l =
            let xs : List Instance = instances_in count t in
            let g : Instance = started s.key (allocated next.0).handle.0 in
            let act : Acted c s g y = subst (λ (z : Instance). Acted c s z y) new a in
            let q = call-started c s st places i blank (ready_rises r) begin.missing begin.starts (sym counted ∙ m) room-left y.state p act.left in
            let w = ap (λ (z : Instance). turn_with (answer_of (rule c).says s (some g) (some z)) (take i xs ++ z ∷ drop i xs) (allocated next.0).counter) (sym act.same) in
            let o : count + 1 ≡ length (take i xs ++ y ∷ drop i xs) =
            omega (
              arith,
              length-append (take i xs) (y ∷ drop i xs),
              length-take-le i xs (omega (arith, starts-within, ready_length r)),
              length-drop i xs,
              starts-within,
              ready_length r,
            ) in
            rw new (done_left (count + 1) h (rw k (q ∙ w)) o (l places xs (ready_laid r bytes) (ready_length r) f))

      pub refused-left : Bytes t → (n : ℕ) → n ≡ start_refusal places count next.0 → (n ≡ 0 → ⊥) → Leaves c s (left (refused_with n) count next) t
      refused-left bytes n e z =
          start_cases places count next.0 n e (λ (k : ℕ). Leaves c s (left (refused_with k) count next) t) (full-left bytes) (λ f p. spent-left f bytes p) z

-- ---- from what was found to what is reached

module _ (c : InstanceCall) (s : Sheet) (xs : List Instance) where
  module _ (one : single (rule c).reach ≡ true) (keyed : handled (rule c).reach ≡ false) (r : rising instance_key xs ≡ true) (i : ℕ) where
    pub reached_key : found_in (map instance_key xs) (num s.key) ≡ Ok i → Reached c s xs i
    reached_key f =
        let o : Only (has_key s.key) xs i blank = found_only instance_key xs blank r (num s.key) i f in
        record {
          one = one;
          old = rw (any-only (has_key s.key) blank xs i o) (and_false (starts_by (rule c).reach));
          only = key_reach (λ p. Only p xs i blank) s o (rule c).reach one keyed;
        }

    pub absent_key : found_in (map instance_key xs) (num s.key) ≡ Err i → starts_by (rule c).reach ≡ false → Absent c s xs
    absent_key f idle =
        record {
          one = one;
          idle = idle;
          nowhere = key_reach (λ p. Nowhere p xs blank) s (missing-nowhere instance_key xs blank r (num s.key) i f) (rule c).reach one keyed;
        }

  module _ (h : handled (rule c).reach ≡ true) (i : ℕ) (e : i ≡ place_of (has_handle s.handle) xs) where
    one-handle : single (rule c).reach ≡ true
    one-handle = handle-reach (λ w. single w ≡ true) refl (rule c).reach h

    idle-handle : starts_by (rule c).reach ≡ false
    idle-handle = handle-reach (λ w. starts_by w ≡ false) refl (rule c).reach h

    pub reached-handle : handles_distinct xs ≡ true → i < length xs → Reached c s xs i
    reached-handle d l =
        let p : has_handle s.handle (get_or xs i blank) ≡ true = rw e (place_at (has_handle s.handle) xs blank (rw e at l)) in
        record {
          one = one-handle;
          old = rw idle-handle;
          only = handle-reach (λ w. Only (reaches_by w s) xs i blank) (only-handle blank xs d i s.handle.0 l (eqb-true (get_or xs i blank).handle.0 s.handle.0 p)) (rule c).reach h;
        }

    pub absent-handle : length xs ≤ i → Absent c s xs
    absent-handle l =
        record {
          one = one-handle;
          idle = idle-handle;
          nowhere = handle-reach (λ w. Nowhere (reaches_by w s) xs blank) (noplace (has_handle s.handle) xs blank (rw e at l)) (rule c).reach h;
        }
