-- Matches, code 32: the record that a match puts in, and what the call leaves, over plain variables.
--     class-kept, matched-ok, matched-fits      the record keeps the class of the one there, and is within its bounds
--     Put                                       a table with the matched record in its place
--     put_again, put_first                      it, where the GUID has a record and where it has none
--     match_asserted, match_kept                what the call leaves is model's turn, with an assertion and without
use Prim.Native.Nat.{ℕ, ◌+◌, ◌*◌, ◌≤◌, ◌<◌, ◌^◌}
use mathlib.Core.Bool.{Bool, true, false, not, ◌&&◌, cond, and-true}
use mathlib.Core.Path.{◌≡◌, refl, sym, ap, ◌∙◌}
use mathlib.Core.List.{List, [], ◌∷◌, ◌++◌, map}
use mathlib.Core.Option.{Option, none, some}
use native.Mathlib.Omega.{arith}
use borrow.Author.Tests.{lt-ltb, lt-leb, le-leb}
use lib.ListN.{length, take, drop, get_or, set, length-set, length-append, length-drop, length-map, take-append-drop}
use lib.Seq.{length-take-le}
use Rattle.octets.specs.Bounds.{Bytes}
use Rattle.octets.specs.Lay.{lay, All}
use Rattle.octets.proofs.LayLaws.{all_set, all_append, all_take, all_drop, lay-set}
use Rattle.octets.specs.Patch.{patch}
use Rattle.model.specs.declared.Called.{Called}
use Rattle.model.specs.declared.Head.{Head}
use Rattle.model.specs.declared.Sheet.{Sheet}
use Rattle.model.specs.declared.TrackerCall.TheVariants.{Matched}
use Rattle.model.specs.declared.Writer.{Writer}
use Rattle.model.specs.declared.WriterState.{WriterState}
use Rattle.model.specs.declared.WriterState.TheVariants.{Unasserted, Alive, NotAlive, Departed}
use Rattle.model.specs.Answers.{refused_with}
use Rattle.model.specs.Guids.{num}
use Rattle.model.specs.Refusals.{clocks_used_by}
use Rattle.model.specs.State.{class_of, counts_alive, counts_not_alive, alive_count, not_alive_count, state_of, writers_in, writers_of, writer_key}
use Rattle.model.specs.Tables.{find, put, all, pick, rising}
use Rattle.model.specs.WellFormed.{clock_ok, lease_ok, writer_ok, is_departed}
use Rattle.model.specs.WriterRecord.{writer_bytes}
use Rattle.model.specs.Writers.{assertion, asserted, has_guid, is_tracked, lease_on, matched_as, matched_from, matched_writer, match_asserts, guid_in, tracker_late, tracker_call}
use Rattle.model.proofs.Fits.{FitsGuid, FitsWriter}
use Rattle.model.proofs.Tests.{both}
use Rattle.std.specs.Prelude.{Ok, Err}
use Rattle.tables.specs.Found.{found_in}
use Rattle.tables.specs.Gaps.{opened}
use Rattle.tables.proofs.GapLaws.{opened-lay}
use Rattle.tables.proofs.Puts.{rising-put}
use Rattle.tables.proofs.RecordLaws.{at_lt, find_at, put-at, missing-le, find_none, put_in}
use Rattle.writer_pass.specs.Passes.{Sound, shifts_by, tally_of}
use Rattle.writer_pass.proofs.Passing.{Any, wide, any-all}
use Rattle.writer_pass.proofs.Picks.{writers_fit, count_middle, all-at, bounded}
use Rattle.writer_counts.specs.Turns.{called_by, still_tally}
use Rattle.writer_counts.specs.WriterCalls.{held_by, Settles, Passable, assertion_on, automatic, asserted_table, asserted_tally}
use Rattle.writer_counts.proofs.Holding.{Good, head-same, read_laid_all, length-laid, sound-laid, count-out, count_set, all-put, all_in}
use Rattle.writer_counts.proofs.Singles.{still_tallied}
use Rattle.writer_counts.proofs.Turning.{Plain, turn-settles, begun, match_turn, match_who, still_turn, still_who}

-- ---- the record

pub class-kept : (s : Sheet) (st : WriterState) (last : ℕ) → class_of (matched_from s st last).liveliness.state ≡ class_of st
class-kept s Unasserted last = refl
class-kept s Alive last = refl
class-kept s NotAlive last = refl
class-kept s Departed last = refl

guid-kept : (s : Sheet) (st : WriterState) (last : ℕ) → (matched_from s st last).guid ≡ s.guid
guid-kept s Unasserted last = refl
guid-kept s Alive last = refl
guid-kept s NotAlive last = refl
guid-kept s Departed last = refl

module _ (s : Sheet) (used : all clock_ok (clocks_used_by Matched s) ≡ true) where
  clock_small : clock_ok s.a ≡ true
  unfolding all
  clock_small = (both (clock_ok s.a) (all clock_ok (cond s.lease_present (s.b ∷ []) [])) used).0

  lease_small : lease_ok (lease_on s) ≡ true
  unfolding all lease_ok
  lease_small = each s.lease_present (both (clock_ok s.a) (all clock_ok (cond s.lease_present (s.b ∷ []) [])) used).1
    where
      each : (b : Bool) → all clock_ok (cond b (s.b ∷ []) []) ≡ true →
          lease_ok (cond b record { present = true; nanos = s.b } record { present = false; nanos = 0 }) ≡ true
      each true e = (both (clock_ok s.b) true e).0
      each false e = refl

  -- of a state that is not departed
  as_ok : (st : WriterState) (last : ℕ) → is_departed st ≡ false → clock_ok last ≡ true → writer_ok (matched_as s st last) ≡ true
  unfolding writer_ok
  as_ok st last d e = rw (lease_small, e, d)

  pub matched-ok : (w : Writer) → writer_ok w ≡ true → writer_ok (matched_writer s (some w)) ≡ true
  matched-ok w e = each w.liveliness.state
    where
      last : clock_ok w.liveliness.last_assertion ≡ true
      last = lt-ltb w.liveliness.last_assertion (2 ^ 62) (bounded w e).0

      each : (st : WriterState) → writer_ok (matched_from s st w.liveliness.last_assertion) ≡ true
      each Unasserted = as_ok Unasserted w.liveliness.last_assertion refl last
      each Alive = as_ok Alive w.liveliness.last_assertion refl last
      each NotAlive = as_ok NotAlive w.liveliness.last_assertion refl last
      each Departed = as_ok NotAlive 0 refl refl

  pub first-ok : writer_ok (matched_writer s none) ≡ true
  first-ok = as_ok Unasserted s.a refl clock_small

-- a writer within its bounds, with a GUID of 16 bytes, fits
ok_fits : (w : Writer) → FitsGuid w.guid → writer_ok w ≡ true → FitsWriter w
ok_fits w g e = let b = bounded w e in record { guid = g; lease = omega (arith, b.1); last = omega (arith, b.0) }

-- ---- the table with the record in its place

pub record Put (s : Sheet) (head : Head) (w w' : List ℕ) (n : ℕ) : Type 0 where
  pub laid : w' ≡ writers_of (begun s (writers_in head.writer_count w))
  pub size : n ≡ length (begun s (writers_in head.writer_count w))
  pub long : length w' ≡ 5120
  pub sound : Sound n w'
  pub back : writers_in n w' ≡ begun s (writers_in head.writer_count w)
  pub alive : alive_count (begun s (writers_in head.writer_count w)) ≡ alive_count (writers_in head.writer_count w)
  pub not_alive : not_alive_count (begun s (writers_in head.writer_count w)) ≡ not_alive_count (writers_in head.writer_count w)

module _ (s : Sheet) (head : Head) (w : List ℕ) (bytes : Bytes w) (long : length w ≡ 5120) (good : Good head w) (fits : FitsGuid s.guid)
    (used : all clock_ok (clocks_used_by Matched s) ≡ true) where
  abbrev ws : List Writer
  ws = writers_in head.writer_count w

  laid₀ : w ≡ writers_of ws
  laid₀ = sym good.ready.sound.laid ∙ ap (λ (n : ℕ). lay writer_bytes 40 n ws) long

  all_fit : All FitsWriter ws
  all_fit = writers_fit head.writer_count w bytes

  -- from the list that the table is laid out from
  put_by : (bs : List Writer) → begun s ws ≡ bs → (w' : List ℕ) (n : ℕ) → w' ≡ writers_of bs → n ≡ length bs → length bs ≤ 128 → All FitsWriter bs →
      all writer_ok bs ≡ true → alive_count bs ≡ alive_count ws → not_alive_count bs ≡ not_alive_count ws → Put s head w w' n
  put_by bs e w' n f m few a o p q =
      let k : length bs * 40 ≤ 5120 = omega arith in
      record {
        laid = f ∙ ap writers_of (sym e);
        size = m ∙ ap length (sym e);
        long = ap length f ∙ length-laid bs 5120 a k;
        sound = rw (f, m) (sound-laid bs 5120 a k few o);
        back = rw (f, m) (read_laid_all bs 5120 a k ∙ sym e);
        alive = ap alive_count e ∙ p;
        not_alive = ap not_alive_count e ∙ q;
      }

  module _ (i : ℕ) (x : Writer) (found : found_in (map writer_key ws) (num s.guid) ≡ Ok i) (read : x ≡ get_or ws i x) where
    inside : i < length ws
    inside = at_lt writer_key ws (num s.guid) i found

    pub there : find (has_guid s.guid) ws ≡ some x
    there = find_at writer_key ws (num s.guid) i found x ∙ ap some (sym read)

    abbrev y : Writer
    y = matched_writer s (some x)

    set_is : begun s ws ≡ set ws i y
    set_is =
        ap (λ (o : Option Writer). put writer_key (matched_writer s o) ws) there
        ∙ put-at writer_key ws (num s.guid) i found y (ap num (guid-kept s x.liveliness.state x.liveliness.last_assertion))

    x_ok : writer_ok x ≡ true
    x_ok = rw read (all-at writer_ok ws i x good.ready.sound.ok inside)

    alive-same : alive_count (set ws i y) ≡ alive_count ws
    unfolding alive_count
    alive-same =
        count_set counts_alive ws i x inside y
        ∙ rw (class-kept s x.liveliness.state x.liveliness.last_assertion) (sym (rw (← read) at (count-out counts_alive ws i x inside)))

    not-alive-same : not_alive_count (set ws i y) ≡ not_alive_count ws
    unfolding not_alive_count
    not-alive-same =
        count_set counts_not_alive ws i x inside y
        ∙ rw (class-kept s x.liveliness.state x.liveliness.last_assertion) (sym (rw (← read) at (count-out counts_not_alive ws i x inside)))

    pub put_again : (w' : List ℕ) → w' ≡ patch w (i * 40) 40 (writer_bytes y) → Put s head w w' head.writer_count
    put_again w' e =
        let g : FitsGuid y.guid = rw (guid-kept s x.liveliness.state x.liveliness.last_assertion) fits in
        put_by (set ws i y) set_is w' head.writer_count
        (e ∙ ap (λ (z : List ℕ). patch z (i * 40) 40 (writer_bytes y)) laid₀ ∙ lay-set writer_bytes 40 Any wide 5120 ws i y inside (any-all ws) tt)
        (sym (length-set ws i y ∙ good.size)) (omega (arith, length-set ws i y, good.size, good.ready.sound.few))
        (all_set FitsWriter ws i y (ok_fits y g (matched-ok s used x x_ok)) all_fit) (all-put writer_ok ws i y inside good.ready.sound.ok (matched-ok s used x x_ok))
        alive-same not-alive-same

    pub late_there : (pens lost : List ℕ) → tracker_late Matched s (held_by head pens w lost) ≡ 0
    unfolding state_of
    late_there pens lost = rw there

    -- it asserts if it is automatic and was departed
    pub asserts-there : match_asserts s ws ≡ (automatic s && not (is_tracked x.liveliness.state))
    asserts-there = rw there

  module _ (i : ℕ) (found : found_in (map writer_key ws) (num s.guid) ≡ Err i) where
    pub absent : find (has_guid s.guid) ws ≡ none
    absent = find_none writer_key ws (num s.guid) i good.ready.rises found

    pub within : i ≤ head.writer_count
    within = omega (arith, missing-le writer_key ws (num s.guid) i good.ready.rises found, good.size)

    abbrev z : Writer
    z = matched_writer s none

    abbrev bs : List Writer
    bs = take i ws ++ z ∷ drop i ws

    in_is : begun s ws ≡ bs
    in_is =
        ap (λ (o : Option Writer). put writer_key (matched_writer s o) ws) absent
        ∙ put_in writer_key ws (num s.guid) i good.ready.rises found z refl

    size_in : length bs ≡ length ws + 1
    size_in = omega (arith, length-append (take i ws) (z ∷ drop i ws), length-take-le i ws (omega (arith, within, good.size)), length-drop i ws, within, good.size)

    alive-in : alive_count bs ≡ alive_count ws
    unfolding alive_count
    alive-in = rw (take-append-drop i ws) at (count_middle counts_alive (take i ws) (drop i ws) z) ∙ omega arith

    not-alive-in : not_alive_count bs ≡ not_alive_count ws
    unfolding not_alive_count
    not-alive-in = rw (take-append-drop i ws) at (count_middle counts_not_alive (take i ws) (drop i ws) z) ∙ omega arith

    pub put_first : head.writer_count < 128 → (w' : List ℕ) → w' ≡ patch (opened 40 i head.writer_count w) (i * 40) 40 (writer_bytes z) →
        Put s head w w' (head.writer_count + 1)
    put_first few w' e =
        let n = head.writer_count in
        put_by bs in_is w' (n + 1)
        (e ∙ ap (λ (k : List ℕ). patch (opened 40 i n k) (i * 40) 40 (writer_bytes z)) laid₀
        ∙ ap (λ (k : ℕ). patch (opened 40 i k (writers_of ws)) (i * 40) 40 (writer_bytes z)) (sym good.size)
        ∙ opened-lay writer_bytes 40 Any wide 5120 ws i z (omega (arith, within, good.size)) (any-all ws) (omega (arith, good.size)))
        (omega (arith, size_in, good.size)) (omega (arith, size_in, good.size))
        (all_append FitsWriter (take i ws) (z ∷ drop i ws) (all_take FitsWriter i ws all_fit) (ok_fits z fits (first-ok s used), all_drop FitsWriter i ws all_fit))
        (all_in writer_ok ws i z good.ready.sound.ok (first-ok s used)) alive-in not-alive-in

    pub asserts-absent : match_asserts s ws ≡ automatic s
    asserts-absent = rw absent (and-true (automatic s))

    pub late_absent : head.writer_count < 128 → (pens lost : List ℕ) → tracker_late Matched s (held_by head pens w lost) ≡ 0
    unfolding state_of
    late_absent few pens lost = rw (absent, good.size, lt-leb 128 head.writer_count few)

    -- refusal 11: the number, and nothing changed
    pub match_full : 128 ≤ head.writer_count → (r : Called) → r.answer ≡ refused_with 11 → r.head ≡ head → (pens lost : List ℕ) →
        Settles head.places (tracker_call Matched s (held_by head pens w lost)) r w
    unfolding tracker_call state_of
    match_full full r a h pens lost =
        rw (absent, good.size, le-leb 128 head.writer_count full)
        record { answer = a; head = h ∙ sym (head-same head w good pens lost); laid = laid₀ }

  -- ---- what the call leaves

  pub ready : (w₁ : List ℕ) (n : ℕ) → Put s head w w₁ n → Passable head n w₁
  ready w₁ n p =
      record {
        sound = p.sound;
        rises = ap (rising writer_key) p.back ∙ rising-put writer_key (matched_writer s (find (has_guid s.guid) ws)) ws good.ready.rises;
        alive = good.ready.alive ∙ sym (ap alive_count p.back ∙ p.alive);
        not_alive = good.ready.not_alive ∙ sym (ap not_alive_count p.back ∙ p.not_alive);
        ack_alive = good.ready.ack_alive;
        ack_not_alive = good.ready.ack_not_alive;
      }

  module _ (w₁ : List ℕ) (n : ℕ) (p : Put s head w w₁ n) (pens lost : List ℕ) (late : tracker_late Matched s (held_by head pens w lost) ≡ 0) where
    plain : Plain Matched s (held_by head pens w lost)
    plain = record { late = late; told = refl; lost = refl; ack_alive = refl; ack_not_alive = refl }

    pub match_kept : match_asserts s ws ≡ false → (r : Called) → r ≡ called_by head n (still_tally head) → Settles head.places (tracker_call Matched s (held_by head pens w lost)) r w₁
    match_kept e r q =
        let t = still_tallied head ws (begun s ws) (matched_writer s none) good.ready.alive good.ready.not_alive p.alive p.not_alive in
        turn-settles Matched s head pens w lost (begun s ws) [] (still_tally head) n (still_turn s ws e) (still_who s ws e) t.counts t.moved t.newest p.size
        plain r w₁ q p.laid

    pub match_asserted : match_asserts s ws ≡ true → (r : Called) (w₂ : List ℕ) → w₂ ≡ asserted_table (assertion_on true false s) n w₁ →
        r ≡ called_by head n (asserted_tally head (assertion_on true false s) n w₁) → Settles head.places (tracker_call Matched s (held_by head pens w lost)) r w₂
    unfolding tally_of
    match_asserted e r w₂ u q =
        let f = asserted (assertion true false s) in
        let bs = begun s ws in
        turn-settles Matched s head pens w lost (map f bs) _ (tally_of f head.last_writer bs) n (match_turn s ws e) (match_who s ws e)
        refl (sym (length-map (pick (shifts_by f) bs) guid_in)) refl (p.size ∙ sym (length-map bs f)) plain r w₂ (q ∙ ap (λ (z : List Writer). called_by head n (tally_of f head.last_writer z)) p.back)
        (u ∙ rw (p.back, p.long))
