-- Calls on one writer, codes 33 and 34: its record is taken out, departs, or stays, over plain variables.
--     Lacks, missing_lacks, found-lacks     no other record has the GUID
--     single-sift, single-pick              the table and the movers of a call on one record
--     Tallied                               a tally is that of the writers and the movers
--     gone_tallied, departs_tallied         the tallies of a record taken out, and of one that departs
--     single-gone, single-departs, single-stays, single-missing     what the call leaves is model's turn
use Prim.Native.Nat.{ℕ, suc, ◌+◌, ◌-◌, ◌*◌, ◌<◌}
use mathlib.Core.Bool.{Bool, true, false, not, cond}
use mathlib.Core.Path.{◌≡◌, refl, sym, ap, ◌∙◌}
use mathlib.Core.Logic.{⊎_elim}
use mathlib.Core.List.{List, [], ◌∷◌, ◌++◌, map}
use mathlib.Core.Option.{Option, none, some}
use Rattle.model.proofs.Tests.{lt-or-le}
use native.Mathlib.Omega.{arith}
use borrow.Author.Tests.{eq-eqb, ne_eqb}
use lib.ListN.{length, take, drop, get_or, set, length-set, length-map, length-append, length-drop}
use lib.Seq.{split_at, set_split, length-take-le, get_or-take, get_or-drop}
use Rattle.octets.specs.Lay.{lay, All}
use Rattle.octets.proofs.LayLaws.{lay-set}
use Rattle.octets.specs.Patch.{patch}
use Rattle.model.specs.declared.Called.{Called}
use Rattle.model.specs.declared.Guid.{Guid}
use Rattle.model.specs.declared.Head.{Head}
use Rattle.model.specs.declared.Sheet.{Sheet}
use Rattle.model.specs.declared.TrackerCall.{TrackerCall}
use Rattle.model.specs.declared.Writer.{Writer}
use Rattle.model.specs.Guids.{num}
use Rattle.model.specs.InstanceRecord.{bit}
use Rattle.model.specs.State.{Class, alive, not_alive, neither, class_of, is_alive_class, is_not_alive_class, counts_alive, counts_not_alive, alive_count, not_alive_count, writers_in, writers_of, writer_key, LastWriter}
use Rattle.model.specs.Tables.{pick, sift, kept, rising as rising_by}
use Rattle.model.specs.WriterRecord.{writer_bytes}
use Rattle.model.specs.Writers.{has_guid, same_class, moves, guid_in, last_after, departed, movers, writers_after, tracker_call}
use Rattle.std.specs.Prelude.{Ok, Err}
use Rattle.tables.specs.Found.{found_in}
use Rattle.tables.proofs.FoundLaws.{StandsAt, InsertsAt, found_at, found_missing}
use Rattle.tables.proofs.GapLaws.{closed-lay}
use Rattle.tables.specs.Gaps.{closed}
use Rattle.tables.proofs.KeyLaws.{rising_pairs}
use Rattle.tables.proofs.RecordLaws.{rising-records, at_lt}
use Rattle.writer_pass.specs.declared.Tally.{Tally}
use Rattle.writer_pass.specs.Passes.{counts_of}
use Rattle.writer_pass.proofs.Passing.{Any, wide, any-all}
use Rattle.writer_pass.proofs.Prefixes.{get-map}
use Rattle.writer_pass.proofs.Picks.{all_from, pick-append, same_self}
use Rattle.writer_counts.specs.Turns.{called_by, still_tally, shifted_tally, gone_tally, departs_tally}
use Rattle.writer_counts.specs.WriterCalls.{held_by, Settles}
use Rattle.writer_counts.proofs.Holding.{Good, count-out, count_set}
use Rattle.writer_counts.proofs.Turning.{Plain, turn-settles}

-- ---- no other record has the GUID

abbrev pub Lacks : Guid → List Writer → Type 0
Lacks g ws = All (λ (w : Writer). has_guid g w ≡ false) ws

module _ (g : Guid) (ws : List Writer) (i : ℕ) (r : rising_by writer_key ws ≡ true) where
  pub missing_lacks : (d : Writer) → found_in (map writer_key ws) (num g) ≡ Err i → Lacks g ws
  missing_lacks d f =
      let p : InsertsAt (map writer_key ws) (num g) i = found_missing (map writer_key ws) (num g) i (rising-records writer_key ws ∙ r) f in
      all_from (λ (w : Writer). has_guid g w ≡ false) d ws
      (λ j l. ne_eqb (writer_key (get_or ws j d)) (num g) (λ e.
      ⊎_elim
      (λ m. omega (arith, p.before j m, get-map ws j d l))
      (λ m. omega (arith, p.behind j m (omega (arith, length-map ws writer_key)), get-map ws j d l))
      (lt-or-le j i)))

  module _ (d : Writer) (f : found_in (map writer_key ws) (num g) ≡ Ok i) where
    place : StandsAt (map writer_key ws) (num g) i
    place = found_at (map writer_key ws) (num g) i f

    pub below : i < length ws
    below = at_lt writer_key ws (num g) i f

    pub here : has_guid g (get_or ws i d) ≡ true
    here = eq-eqb (writer_key (get_or ws i d)) (num g) (sym (get-map ws i d below) ∙ place.here)

    pub lacks_before : Lacks g (take i ws)
    lacks_before =
        all_from (λ (w : Writer). has_guid g w ≡ false) d (take i ws)
        (λ j l.
        let n : length (take i ws) ≡ i = length-take-le i ws (omega (arith, below)) in
        rw (get_or-take i ws j d (omega arith))
        (ne_eqb (writer_key (get_or ws j d)) (num g) (λ e. omega (arith, place.before j (omega arith), get-map ws j d (omega (arith, below))))))

    pub lacks_behind : Lacks g (drop (suc i) ws)
    lacks_behind =
        all_from (λ (w : Writer). has_guid g w ≡ false) d (drop (suc i) ws)
        (λ j l.
        let m : suc i + j < length ws = omega (arith, length-drop (suc i) ws) in
        rw (get_or-drop (suc i) ws j d)
        (ne_eqb (writer_key (get_or ws (suc i + j) d)) (num g) (λ e.
        omega (
          arith,
          place.here,
          get-map ws (suc i + j) d m,
          rising_pairs (map writer_key ws) (rising-records writer_key ws ∙ r) i (suc i + j) (omega arith) (omega (arith, length-map ws writer_key)),
        ))))

-- ---- the table and the movers of a call on one record

module _ (g : Guid) (f : Writer → Option Writer) where
  -- the call acts on the record of the GUID alone
  abbrev pub only : Writer → Option Writer
  only w = cond (has_guid g w) (f w) (some w)

  pub sift_lacks : (ws : List Writer) → Lacks g ws → sift only ws ≡ ws
  unfolding sift
  sift_lacks [] l = refl
  sift_lacks (w ∷ ws) l = rw (l.0, sift_lacks ws l.1)

  pub pick_lacks : (ws : List Writer) → Lacks g ws → pick (moves only) ws ≡ []
  unfolding pick
  pick_lacks [] l = refl
  pick_lacks (w ∷ ws) l = rw (l.0, same_self (class_of w.liveliness.state)) (pick_lacks ws l.1)

  pub single-sift : (a b : List Writer) (x : Writer) → Lacks g a → Lacks g b → has_guid g x ≡ true → sift only (a ++ x ∷ b) ≡ a ++ kept (f x) b
  unfolding sift
  single-sift [] b x p q e = rw (e, sift_lacks b q)
  single-sift (w ∷ a) b x p q e = rw (p.0, single-sift a b x p.1 q e)

  pub single-pick : (a b : List Writer) (x : Writer) → Lacks g a → Lacks g b → has_guid g x ≡ true →
      pick (moves only) (a ++ x ∷ b) ≡ cond (moves f x) (x ∷ []) []
  unfolding pick
  single-pick a b x p q e = rw (pick-append (moves only) a (x ∷ b), pick_lacks a p, e, pick_lacks b q)

-- ---- tallies

pub record Tallied (t : Tally) (ws : List Writer) (gs : List Guid) (last : LastWriter) : Type 0 where
  pub counts : t.counts ≡ counts_of ws
  pub moved : t.moved ≡ length gs
  pub newest : t.last ≡ last_after gs last

module _ (head : Head) (ws after : List Writer) (x : Writer) (a : head.alive ≡ alive_count ws) (n : head.not_alive ≡ not_alive_count ws) where
  pub still_tallied : alive_count after ≡ alive_count ws → not_alive_count after ≡ not_alive_count ws → Tallied (still_tally head) after [] head.last_writer
  unfolding last_after
  still_tallied p q = record { counts = rw (p, q, a, n); moved = refl; newest = refl }

  -- one writer's class changes
  shifted : (u v : ℕ) → u ≡ alive_count after → v ≡ not_alive_count after → Tallied (shifted_tally u v x.guid) after (x.guid ∷ []) head.last_writer
  unfolding last_after
  shifted u v p q = record { counts = rw (p, q); moved = refl; newest = refl }

  pub gone_tallied : alive_count ws ≡ bit (counts_alive x) + alive_count after → not_alive_count ws ≡ bit (counts_not_alive x) + not_alive_count after →
      Tallied (gone_tally head x) after (cond (not (same_class (class_of x.liveliness.state) neither)) (x.guid ∷ []) []) head.last_writer
  gone_tallied p q = each (class_of x.liveliness.state) p q
    where
      each : (c : Class) → alive_count ws ≡ bit (is_alive_class c) + alive_count after → not_alive_count ws ≡ bit (is_not_alive_class c) + not_alive_count after →
          Tallied
          (cond (is_alive_class c) (shifted_tally (head.alive - 1) head.not_alive x.guid)
          (cond (is_not_alive_class c) (shifted_tally head.alive (head.not_alive - 1) x.guid) (still_tally head)))
          after (cond (not (same_class c neither)) (x.guid ∷ []) []) head.last_writer
      each alive p q = shifted (head.alive - 1) head.not_alive (omega arith) (omega arith)
      each not_alive p q = shifted head.alive (head.not_alive - 1) (omega arith) (omega arith)
      each neither p q = still_tallied (omega arith) (omega arith)

  pub departs_tallied : (rest rest_not : ℕ) → (class_of x.liveliness.state ≡ neither → ⊥) → alive_count ws ≡ bit (counts_alive x) + rest →
      not_alive_count ws ≡ bit (counts_not_alive x) + rest_not → alive_count after ≡ 0 + rest → not_alive_count after ≡ 1 + rest_not →
      Tallied (departs_tally head x) after (cond (not (same_class (class_of x.liveliness.state) not_alive)) (x.guid ∷ []) []) head.last_writer
  departs_tallied rest rest_not h p q u v = each (class_of x.liveliness.state) h p q
    where
      each : (c : Class) → (c ≡ neither → ⊥) → alive_count ws ≡ bit (is_alive_class c) + rest → not_alive_count ws ≡ bit (is_not_alive_class c) + rest_not →
          Tallied (cond (is_alive_class c) (shifted_tally (head.alive - 1) (head.not_alive + 1) x.guid) (still_tally head))
          after (cond (not (same_class c not_alive)) (x.guid ∷ []) []) head.last_writer
      each alive h p q = shifted (head.alive - 1) (head.not_alive + 1) (omega arith) (omega arith)
      each not_alive h p q = still_tallied (omega arith) (omega arith)
      each neither h p q = absurd (h refl)

-- ---- what the call leaves is model's turn

map-guid : (b : Bool) (x : Writer) → map guid_in (cond b (x ∷ []) []) ≡ cond b (x.guid ∷ []) []
map-guid true x = refl
map-guid false x = refl

module _ (c : TrackerCall) (s : Sheet) (f : Writer → Option Writer) (head : Head) (w : List ℕ) (long : length w ≡ 5120) (good : Good head w)
    (after : writers_after c s (writers_in head.writer_count w) ≡ sift (only s.guid f) (writers_in head.writer_count w))
    (who : movers c s (writers_in head.writer_count w) ≡ map guid_in (pick (moves (only s.guid f)) (writers_in head.writer_count w)))
    (plain : (pens lost : List ℕ) → Plain c s (held_by head pens w lost)) where
  abbrev ws : List Writer
  ws = writers_in head.writer_count w

  -- the table is the writers', laid out
  laid : w ≡ writers_of ws
  laid = sym good.ready.sound.laid ∙ ap (λ (n : ℕ). lay writer_bytes 40 n ws) long

  pub single-missing : Lacks s.guid ws → (r : Called) → r ≡ called_by head head.writer_count (still_tally head) → (pens lost : List ℕ) →
      Settles head.places (tracker_call c s (held_by head pens w lost)) r w
  single-missing l r e pens lost =
      let t = still_tallied head ws ws (departed s.guid) good.ready.alive good.ready.not_alive refl refl in
      turn-settles c s head pens w lost ws [] (still_tally head) head.writer_count (after ∙ sift_lacks s.guid f ws l)
      (who ∙ ap (map guid_in) (pick_lacks s.guid f ws l)) t.counts t.moved t.newest (sym good.size) (plain pens lost) r w e laid

  module _ (i : ℕ) (found : found_in (map writer_key ws) (num s.guid) ≡ Ok i) (x : Writer) (read : x ≡ get_or ws i x) where
    inside : i < length ws
    inside = below s.guid ws i good.ready.rises x found

    split : ws ≡ take i ws ++ x ∷ drop (suc i) ws
    split = split_at ws i x inside ∙ ap (λ (z : Writer). take i ws ++ z ∷ drop (suc i) ws) (sym read)

    has : has_guid s.guid x ≡ true
    has = rw read (here s.guid ws i good.ready.rises x found)

    left : writers_after c s ws ≡ take i ws ++ kept (f x) (drop (suc i) ws)
    left =
        after ∙ ap (sift (only s.guid f)) split
        ∙ single-sift s.guid f (take i ws) (drop (suc i) ws) x (lacks_before s.guid ws i good.ready.rises x found) (lacks_behind s.guid ws i good.ready.rises x found) has

    gone : movers c s ws ≡ cond (moves f x) (x.guid ∷ []) []
    gone =
        who
        ∙ ap (λ (l : List Writer). map guid_in (pick (moves (only s.guid f)) l)) split
        ∙ ap (map guid_in)
        (single-pick s.guid f (take i ws) (drop (suc i) ws) x (lacks_before s.guid ws i good.ready.rises x found) (lacks_behind s.guid ws i good.ready.rises x found) has)
        ∙ map-guid (moves f x) x

    pub out-alive : alive_count ws ≡ bit (counts_alive x) + alive_count (take i ws ++ drop (suc i) ws)
    unfolding alive_count
    out-alive = rw (← read) at (count-out counts_alive ws i x inside)

    pub out-not-alive : not_alive_count ws ≡ bit (counts_not_alive x) + not_alive_count (take i ws ++ drop (suc i) ws)
    unfolding not_alive_count
    out-not-alive = rw (← read) at (count-out counts_not_alive ws i x inside)

    pub single-stays : f x ≡ some x → (r : Called) → r ≡ called_by head head.writer_count (still_tally head) → (pens lost : List ℕ) → Settles head.places (tracker_call c s (held_by head pens w lost)) r w
    single-stays e r q pens lost =
        let t = still_tallied head ws ws x good.ready.alive good.ready.not_alive refl refl in
        let u : movers c s ws ≡ [] = gone ∙ rw (e, same_self (class_of x.liveliness.state)) in
        turn-settles c s head pens w lost ws [] (still_tally head) head.writer_count (left ∙ rw e (sym split)) u t.counts t.moved t.newest
        (sym good.size) (plain pens lost) r w q laid

    pub single-gone : f x ≡ none → (r : Called) (w' : List ℕ) → r ≡ called_by head (head.writer_count - 1) (gone_tally head x) →
        w' ≡ closed 40 i head.writer_count w → (pens lost : List ℕ) → Settles head.places (tracker_call c s (held_by head pens w lost)) r w'
    single-gone e r w' q v pens lost =
        let rest : List Writer = take i ws ++ drop (suc i) ws in
        let t = gone_tallied head ws rest x good.ready.alive good.ready.not_alive out-alive out-not-alive in
        let u : movers c s ws ≡ cond (not (same_class (class_of x.liveliness.state) neither)) (x.guid ∷ []) [] = gone ∙ rw e in
        let n : head.writer_count - 1 ≡ length rest =
        omega (arith, length-append (take i ws) (drop (suc i) ws), length-take-le i ws (omega (arith, inside)), length-drop (suc i) ws, good.size, inside) in
        let m : w' ≡ writers_of rest =
        v ∙ ap (λ (z : List ℕ). closed 40 i head.writer_count z) laid ∙ ap (λ (z : ℕ). closed 40 i z (writers_of ws)) (sym good.size)
        ∙ closed-lay writer_bytes 40 Any wide 5120 ws i x inside (any-all ws) (omega (arith, good.size, good.ready.sound.few)) in
        turn-settles c s head pens w lost rest _ (gone_tally head x) (head.writer_count - 1) (left ∙ rw e) u t.counts t.moved t.newest n
        (plain pens lost) r w' q m

    pub single-departs : f x ≡ some (departed x.guid) → (class_of x.liveliness.state ≡ neither → ⊥) → (r : Called) (w' : List ℕ) →
        r ≡ called_by head head.writer_count (departs_tally head x) → w' ≡ patch w (i * 40) 40 (writer_bytes (departed x.guid)) →
        (pens lost : List ℕ) → Settles head.places (tracker_call c s (held_by head pens w lost)) r w'
    unfolding alive_count not_alive_count
    single-departs e h r w' q v pens lost =
        let y : Writer = departed x.guid in
        let rest : List Writer = take i ws ++ drop (suc i) ws in
        let t =
        departs_tallied head ws (set ws i y) x good.ready.alive good.ready.not_alive (alive_count rest) (not_alive_count rest) h out-alive out-not-alive
        (count_set counts_alive ws i x inside y) (count_set counts_not_alive ws i x inside y) in
        let u : movers c s ws ≡ cond (not (same_class (class_of x.liveliness.state) not_alive)) (x.guid ∷ []) [] = gone ∙ rw e in
        let z : writers_after c s ws ≡ set ws i y = left ∙ rw e (sym (set_split ws i y inside)) in
        let n : head.writer_count ≡ length (set ws i y) = sym (length-set ws i y ∙ good.size) in
        let m : w' ≡ writers_of (set ws i y) =
        v ∙ ap (λ (k : List ℕ). patch k (i * 40) 40 (writer_bytes y)) laid ∙ lay-set writer_bytes 40 Any wide 5120 ws i y inside (any-all ws) tt in
        turn-settles c s head pens w lost (set ws i y) _ (departs_tally head x) head.writer_count z u t.counts t.moved t.newest n
        (plain pens lost) r w' q m
