-- What the calls' callees ask, and the calls that pass over every writer, over plain variables.
--     find-rises, found_in_lem                  a GUID looked for among the records' keys
--     at_place                              the record at a place
--     room_pass, room_still, room_gone, room-departs      the tallies fit the head
--     alive-there, not-alive-there          a writer that is there is counted
--     pass_settles                          a call that passes over every writer leaves model's turn
use Prim.Native.Nat.{ℕ, suc, ◌+◌, ◌-◌, ◌*◌, ◌≤◌, ◌<◌}
use mathlib.Core.Bool.{true, cond}
use mathlib.Core.Path.{◌≡◌, refl, sym, ap, ◌∙◌}
use mathlib.Core.List.{List, [], ◌∷◌, ◌++◌, map}
use native.Mathlib.Omega.{arith}
use lib.ListN.{length, take, drop, get_or, length-map}
use Rattle.octets.specs.Lay.{lay}
use Rattle.model.specs.declared.Called.{Called}
use Rattle.model.specs.declared.Head.{Head}
use Rattle.model.specs.declared.Sheet.{Sheet}
use Rattle.model.specs.declared.TrackerCall.{TrackerCall}
use Rattle.model.specs.declared.Writer.{Writer}
use Rattle.model.specs.InstanceRecord.{bit}
use Rattle.model.specs.State.{Class, alive, not_alive, neither, class_of, is_alive_class, is_not_alive_class, counts_alive, counts_not_alive, alive_count, not_alive_count, writers_in, writer_key, LastWriter}
use Rattle.model.specs.Tables.{pick}
use Rattle.model.specs.Writers.{guid_in, movers, writers_after, tracker_call}
use Rattle.model.specs.WriterRecord.{writer_of, writer_bytes}
use Rattle.std.specs.Prelude.{Result}
use Rattle.tables.specs.Found.{found_in}
use Rattle.tables.specs.Keys.{keys, rising}
use Rattle.tables.proofs.RecordLaws.{rising-records}
use Rattle.writer_pass.specs.declared.Tally.{Tally}
use Rattle.writer_pass.specs.Passes.{shifts_by, tally_of}
use Rattle.writer_pass.proofs.Passing.{counts_small}
use Rattle.writer_pass.proofs.Picks.{read_at, count-cons}
use Rattle.writer_pass.proofs.Prefixes.{keys_are}
use Rattle.writer_counts.specs.Turns.{CountsFit, called_by, still_tally, shifted_tally, gone_tally, departs_tally}
use Rattle.writer_counts.specs.WriterCalls.{held_by, Passable, Settles}
use Rattle.writer_counts.proofs.Holding.{Good, count-out, few-alive, few-not-alive}
use Rattle.writer_counts.proofs.Turning.{Plain, turn-settles}

module _ (head : Head) (w : List ℕ) (good : Good head w) where
  abbrev ws : List Writer
  ws = writers_in head.writer_count w

  pub find-rises : rising (keys 40 head.writer_count w) ≡ true
  find-rises = ap rising (keys_are head.writer_count w) ∙ rising-records writer_key ws ∙ good.ready.rises

  pub found_in_lem : (k : ℕ) (f : Result ℕ ℕ) → found_in (keys 40 head.writer_count w) k ≡ f → found_in (map writer_key ws) k ≡ f
  found_in_lem k f e = ap (λ (z : List ℕ). found_in z k) (sym (keys_are head.writer_count w)) ∙ e

  pub at_place : (i : ℕ) (x : Writer) → i < head.writer_count → x ≡ writer_of (take 40 (drop (i * 40) w)) → x ≡ get_or ws i x
  at_place i x h e = e ∙ sym (read_at writer_of 40 head.writer_count w i x h)

  module _ (i : ℕ) (x : Writer) (h : i < head.writer_count) (e : x ≡ writer_of (take 40 (drop (i * 40) w))) where
    out-alive : alive_count ws ≡ bit (counts_alive x) + length (pick counts_alive (take i ws ++ drop (suc i) ws))
    unfolding alive_count
    out-alive = rw (← at_place i x h e) at (count-out counts_alive ws i x (omega (arith, good.size)))

    out-not-alive : not_alive_count ws ≡ bit (counts_not_alive x) + length (pick counts_not_alive (take i ws ++ drop (suc i) ws))
    unfolding not_alive_count
    out-not-alive = rw (← at_place i x h e) at (count-out counts_not_alive ws i x (omega (arith, good.size)))

    pub alive-there : is_alive_class (class_of x.liveliness.state) ≡ true → 1 ≤ head.alive
    alive-there b = omega (arith, good.ready.alive, rw b at out-alive)

    pub not-alive-there : is_not_alive_class (class_of x.liveliness.state) ≡ true → 1 ≤ head.not_alive
    not-alive-there b = omega (arith, good.ready.not_alive, rw b at out-not-alive)

-- ---- the tallies fit the head

both-count : (c : Class) → bit (is_alive_class c) + bit (is_not_alive_class c) ≤ 1
both-count alive = omega arith
both-count not_alive = omega arith
both-count neither = omega arith

pub counts_apart : (ws : List Writer) → alive_count ws + not_alive_count ws ≤ length ws
unfolding alive_count not_alive_count pick
counts_apart [] = omega arith
counts_apart (w ∷ ws) =
    omega (
      arith,
      counts_apart ws,
      both-count (class_of w.liveliness.state),
      count-cons counts_alive w ws,
      count-cons counts_not_alive w ws,
    )

module _ (head : Head) (n : ℕ) (w : List ℕ) (ready : Passable head n w) where
  room : (t : Tally) → t.counts.alive ≤ 128 → t.counts.not_alive ≤ 128 → CountsFit head t
  room t a b = record { alive = a; not_alive = b; ack_alive = ready.ack_alive; ack_not_alive = ready.ack_not_alive }

  pub room_pass : (f : Writer → Writer) (last : LastWriter) (t : Tally) (ws : List Writer) → length ws ≤ 128 → t ≡ tally_of f last ws → CountsFit head t
  unfolding tally_of
  room_pass f last t ws h e =
      let k = counts_small (map f ws) in
      let m : length (map f ws) ≡ length ws = length-map ws f in
      rw e (room (tally_of f last ws) (omega (arith, k.0)) (omega (arith, k.1)))

  pub room_still : (t : Tally) → t ≡ still_tally head → CountsFit head t
  room_still t e = rw e (room (still_tally head) (few-alive head n w ready) (few-not-alive head n w ready))

  pub room_gone : (t : Tally) (x : Writer) → t ≡ gone_tally head x → CountsFit head t
  room_gone t x e = rw e (each (class_of x.liveliness.state))
    where
      each : (c : Class) →
          CountsFit head
          (cond (is_alive_class c) (shifted_tally (head.alive - 1) head.not_alive x.guid)
          (cond (is_not_alive_class c) (shifted_tally head.alive (head.not_alive - 1) x.guid) (still_tally head)))
      each alive = room (shifted_tally (head.alive - 1) head.not_alive x.guid) (omega (arith, few-alive head n w ready)) (few-not-alive head n w ready)
      each not_alive = room (shifted_tally head.alive (head.not_alive - 1) x.guid) (few-alive head n w ready) (omega (arith, few-not-alive head n w ready))
      each neither = room (still_tally head) (few-alive head n w ready) (few-not-alive head n w ready)

  pub room-departs : (t : Tally) (x : Writer) → (is_alive_class (class_of x.liveliness.state) ≡ true → 1 ≤ head.alive) → head.alive + head.not_alive ≤ 128 →
      t ≡ departs_tally head x → CountsFit head t
  room-departs t x h m e = rw e (each (class_of x.liveliness.state) h)
    where
      each : (c : Class) → (is_alive_class c ≡ true → 1 ≤ head.alive) →
          CountsFit head (cond (is_alive_class c) (shifted_tally (head.alive - 1) (head.not_alive + 1) x.guid) (still_tally head))
      each alive h = room (shifted_tally (head.alive - 1) (head.not_alive + 1) x.guid) (omega (arith, few-alive head n w ready)) (omega (arith, h refl))
      each not_alive h = room (still_tally head) (few-alive head n w ready) (few-not-alive head n w ready)
      each neither h = room (still_tally head) (few-alive head n w ready) (few-not-alive head n w ready)

-- ---- a call that passes over every writer

module _ (c : TrackerCall) (s : Sheet) (f : Writer → Writer) (head : Head) (w : List ℕ) (long : length w ≡ 5120) (good : Good head w)
    (after : writers_after c s (writers_in head.writer_count w) ≡ map f (writers_in head.writer_count w))
    (who : movers c s (writers_in head.writer_count w) ≡ map guid_in (pick (shifts_by f) (writers_in head.writer_count w))) where
  pub pass_settles : (pens lost : List ℕ) → Plain c s (held_by head pens w lost) → (r : Called) (w' : List ℕ) →
      w' ≡ lay writer_bytes 40 (length w) (map f (writers_in head.writer_count w)) →
      r ≡ called_by head head.writer_count (tally_of f head.last_writer (writers_in head.writer_count w)) →
      Settles head.places (tracker_call c s (held_by head pens w lost)) r w'
  unfolding tally_of
  pass_settles pens lost p r w' u q =
      let xs = writers_in head.writer_count w in
      turn-settles c s head pens w lost (map f xs) (map guid_in (pick (shifts_by f) xs)) (tally_of f head.last_writer xs) head.writer_count after who refl
      (sym (length-map (pick (shifts_by f) xs) guid_in)) refl (sym (length-map xs f ∙ good.size)) p r w' q (u ∙ rw long)

-- no more writers are counted than there are
pub both-few : (head : Head) (w : List ℕ) → Good head w → head.alive + head.not_alive ≤ 128
both-few head w g =
    omega (arith, g.ready.alive, g.ready.not_alive, counts_apart (writers_in head.writer_count w), g.size, g.ready.sound.few)
