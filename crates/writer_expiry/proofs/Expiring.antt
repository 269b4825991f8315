-- Expiry, over plain variables.
--     shifts-expires, expire-turn, expire_who     those that expire are those that change class
--     alive-after, not-alive-after                each of them is counted as not alive, and as alive no more
--     lost-laid, lost-few                         a well-formed Lost is its GUIDs, laid out
--     gone-alive, gone-room, gone_fits            no more expire than there are alive, and the counts hold them
--     expire-leaves, expire-full                  what the call leaves is model's turn, and refusal 12
use Prim.Native.Nat.{ℕ, ◌+◌, ◌-◌, ◌*◌, ◌≤◌, ◌<◌}
use mathlib.Core.Bool.{Bool, true, false, not, cond}
use mathlib.Core.Path.{◌≡◌, refl, sym, ap, ◌∙◌}
use mathlib.Core.List.{List, [], ◌∷◌, ◌++◌, map}
use native.Mathlib.Omega.{arith}
use borrow.Author.Tests.{leb-true, lt-ltb, le-ltb}
use lib.Dec.{eqb, leb, ltb}
use lib.ListN.{length, drop, length-append, length-map}
use Rattle.octets.specs.Bounds.{Bytes}
use Rattle.octets.specs.Lay.{lay}
use Rattle.octets.specs.Zeros.{all_zero}
use Rattle.model.specs.declared.Called.{Called}
use Rattle.model.specs.declared.Guid.{Guid}
use Rattle.model.specs.declared.Head.{Head}
use Rattle.model.specs.declared.Sheet.{Sheet}
use Rattle.model.specs.declared.TrackerCall.TheVariants.{Expire}
use Rattle.model.specs.declared.Writer.{Writer}
use Rattle.model.specs.declared.WriterState.{WriterState}
use Rattle.model.specs.declared.WriterState.TheVariants.{Unasserted, Alive, NotAlive, Departed}
use Rattle.model.specs.Answers.{refused_with, saying_due}
use Rattle.model.specs.Guids.{guid_of, guid_bytes, guids_in}
use Rattle.model.specs.InstanceRecord.{bit}
use Rattle.model.specs.State.{class_of, is_alive_class, is_not_alive_class, counts_alive, counts_not_alive, alive_count, not_alive_count, state_of, writers_in, writers_of, lost_of, LastWriter}
use Rattle.model.specs.Tables.{pick}
use Rattle.model.specs.WellFormed.{lost_ok}
use Rattle.model.specs.WriterRecord.{writer_bytes}
use Rattle.model.specs.Writers.{is_alive_state, leased, due_at, expires, expired, with_state, movers, guid_in, last_after, writers_after, tracker_late, tracker_told, tracker_state, tracker_turn, tracker_call}
use Rattle.model.proofs.GuidLaws.{guids_each}
use Rattle.model.proofs.Tests.{both}
use Rattle.model.proofs.RowLaws.{length_read, lay_read}
use Rattle.writer_pass.specs.declared.Dues.{Dues}
use Rattle.writer_pass.specs.declared.Tally.{Tally}
use Rattle.writer_pass.specs.Passes.{differs, shifts_by, dues_of}
use Rattle.writer_pass.proofs.Picks.{count-cons, same_self}
use Rattle.writer_counts.specs.Turns.{CountsFit, settled_head}
use Rattle.writer_counts.specs.WriterCalls.{WritersFormed, held_by}
use Rattle.writer_counts.proofs.Calling.{both-few}
use Rattle.writer_counts.proofs.Holding.{Good, good, head-same, few-alive}
use Rattle.tables.proofs.Sifts.{sift-map}
use Rattle.writer_counts.proofs.Turning.{moved-is, turn-head}
use Rattle.writer_expiry.specs.Losing.{expiry_tally, Expires}

-- ---- those that expire change class, and no other

alive-leaves : (st : WriterState) → is_alive_state st ≡ true → differs st NotAlive ≡ true
alive-leaves Unasserted e = let z : ◌≡◌ {A = ℕ} 0 1 = cc in absurd (omega arith)
alive-leaves Alive e = refl
alive-leaves NotAlive e = let z : ◌≡◌ {A = ℕ} 0 1 = cc in absurd (omega arith)
alive-leaves Departed e = let z : ◌≡◌ {A = ℕ} 0 1 = cc in absurd (omega arith)

-- a writer that expires is alive
was_alive : (clock : ℕ) (w : Writer) → expires clock w ≡ true → is_alive_state w.liveliness.state ≡ true
unfolding expires
was_alive clock w e =
    (both (is_alive_state w.liveliness.state) w.liveliness.lease.present (both (leased w) (leb (due_at w) clock) e).0).0

pub shifts-expires : (clock : ℕ) (w : Writer) → shifts_by (expired clock) w ≡ expires clock w
unfolding expired
shifts-expires clock w = each (expires clock w) refl
  where
    each : (b : Bool) → expires clock w ≡ b →
        differs w.liveliness.state (cond b (with_state NotAlive w.liveliness.last_assertion w) w).liveliness.state ≡ b
    each true e = alive-leaves w.liveliness.state (was_alive clock w e)
    each false e = rw (same_self (class_of w.liveliness.state))

pick_ext : (p q : Writer → Bool) → ((w : Writer) → p w ≡ q w) → (ws : List Writer) → pick p ws ≡ pick q ws
unfolding pick
pick_ext p q h [] = refl
pick_ext p q h (w ∷ ws) = rw (h w, pick_ext p q h ws)

pub expire-turn : (s : Sheet) (ws : List Writer) → writers_after Expire s ws ≡ map (expired s.a) ws
unfolding writers_after
expire-turn s ws = sift-map (expired s.a) ws

pub expire_who : (s : Sheet) (ws : List Writer) → movers Expire s ws ≡ map guid_in (pick (expires s.a) ws)
unfolding movers
expire_who s ws = ap (map guid_in) (pick_ext (shifts_by (expired s.a)) (expires s.a) (shifts-expires s.a) ws)

-- ---- the classes after it

class-alive : (st : WriterState) → is_alive_state st ≡ true → (is_alive_class (class_of st) ≡ true) × (is_not_alive_class (class_of st) ≡ false)
class-alive Unasserted e = let z : ◌≡◌ {A = ℕ} 0 1 = cc in absurd (omega arith)
class-alive Alive e = (refl, refl)
class-alive NotAlive e = let z : ◌≡◌ {A = ℕ} 0 1 = cc in absurd (omega arith)
class-alive Departed e = let z : ◌≡◌ {A = ℕ} 0 1 = cc in absurd (omega arith)

-- one writer: where it expires, it moves from one count to the other
bits-after : (clock : ℕ) (w : Writer) → (bit (counts_alive (expired clock w)) + bit (expires clock w) ≡ bit (counts_alive w))
    × (bit (counts_not_alive (expired clock w)) ≡ bit (counts_not_alive w) + bit (expires clock w))
unfolding expired
bits-after clock w = each (expires clock w) refl
  where
    each : (b : Bool) → expires clock w ≡ b →
        (bit (counts_alive (cond b (with_state NotAlive w.liveliness.last_assertion w) w)) + bit b ≡ bit (counts_alive w))
        × (bit (counts_not_alive (cond b (with_state NotAlive w.liveliness.last_assertion w) w)) ≡ bit (counts_not_alive w) + bit b)
    each true e = let c = class-alive w.liveliness.state (was_alive clock w e) in rw (c.0, c.1) (refl, refl)
    each false e = (omega arith, omega arith)

pub alive-after : (clock : ℕ) (ws : List Writer) → alive_count (map (expired clock) ws) + length (pick (expires clock) ws) ≡ alive_count ws
unfolding alive_count pick
alive-after clock [] = refl
alive-after clock (w ∷ ws) =
    omega (
      arith,
      alive-after clock ws,
      (bits-after clock w).0,
      count-cons counts_alive (expired clock w) (map (expired clock) ws),
      count-cons (expires clock) w ws,
      count-cons counts_alive w ws,
    )

pub not-alive-after : (clock : ℕ) (ws : List Writer) → not_alive_count (map (expired clock) ws) ≡ not_alive_count ws + length (pick (expires clock) ws)
unfolding not_alive_count pick
not-alive-after clock [] = refl
not-alive-after clock (w ∷ ws) =
    omega (
      arith,
      not-alive-after clock ws,
      (bits-after clock w).1,
      count-cons counts_not_alive (expired clock w) (map (expired clock) ws),
      count-cons (expires clock) w ws,
      count-cons counts_not_alive w ws,
    )

-- ---- Lost

pub lost-laid : (m : ℕ) (t : List ℕ) → Bytes t → length t ≡ 4096 → lost_ok m t ≡ true → lost_of (guids_in m t) ≡ t
unfolding lost_ok
lost-laid m t b long e =
    let p = both (leb m 256) (all_zero (drop (m * 16) t)) e in
    let few : m ≤ 256 = leb-true m 256 p.0 in
    let room : m * 16 ≤ length t = omega arith in
    rw (← long) (lay_read guid_bytes guid_of 16 m t room (guids_each m t b room) p.1)

pub lost-few : (m : ℕ) (t : List ℕ) → lost_ok m t ≡ true → m ≤ 256
unfolding lost_ok
lost-few m t e = leb-true m 256 (both (leb m 256) (all_zero (drop (m * 16) t)) e).0

module _ (s : Sheet) (head : Head) (w lost : List ℕ) (bytes : Bytes w) (held : WritersFormed head w) (lost_bytes : Bytes lost) (long : length lost ≡ 4096)
    (lost_formed : lost_ok head.lost_count lost ≡ true) where
  abbrev ws : List Writer
  ws = writers_in head.writer_count w

  abbrev after : List Writer
  after = map (expired s.a) ws

  g : Good head w
  g = good head w bytes held

  size : length after ≡ head.writer_count
  size = length-map ws (expired s.a) ∙ g.size

  laid : (w' : List ℕ) → w' ≡ lay writer_bytes 40 (length w) after → w' ≡ writers_of after
  laid w' e = e ∙ ap (λ (n : ℕ). lay writer_bytes 40 n after) held.long

  -- how many there are in Lost, and how many come to it
  gone-is : length (movers Expire s ws) ≡ length (pick (expires s.a) ws)
  gone-is = ap length (expire_who s ws) ∙ length-map (pick (expires s.a) ws) guid_in

  late_is : (pens : List ℕ) → tracker_late Expire s (held_by head pens w lost) ≡ cond (ltb 256 (head.lost_count + length (pick (expires s.a) ws))) 12 0
  unfolding state_of
  late_is pens = rw (gone-is, length_read guid_of 16 head.lost_count lost)

  pub expire-full : (d : Dues) → d ≡ dues_of s.a ws → 256 < head.lost_count + d.gone → (r : Called) → r.answer ≡ refused_with 12 → r.head ≡ head →
      Expires s head w lost r w lost
  unfolding tracker_call state_of
  expire-full d k h r a e pens =
      let l : tracker_late Expire s (held_by head pens w lost) ≡ 12 = late_is pens ∙ rw (lt-ltb 256 (head.lost_count + length (pick (expires s.a) ws)) (rw k at h)) in
      rw l
      record {
        settles = record { answer = a; head = e ∙ sym (head-same head w g pens lost); laid = kept-writers pens };
        lost_laid = kept-lost pens;
      }
    where
      kept-writers : (pens : List ℕ) → w ≡ writers_of (held_by head pens w lost).writers
      kept-writers pens = sym g.ready.sound.laid ∙ ap (λ (n : ℕ). lay writer_bytes 40 n ws) held.long

      kept-lost : (pens : List ℕ) → lost ≡ lost_of (held_by head pens w lost).lost
      kept-lost pens = sym (lost-laid head.lost_count lost lost_bytes long lost_formed)

  module _ (d : Dues) (k : d ≡ dues_of s.a ws) where
    gone_are : d.gone ≡ length (pick (expires s.a) ws)
    gone_are = ap (λ (z : Dues). z.gone) k

    pub gone-alive : d.gone ≤ head.alive
    gone-alive = omega (arith, gone_are, g.ready.alive, alive-after s.a ws)

    pub gone-room : head.not_alive + d.gone ≤ 128
    gone-room = omega (arith, gone-alive, both-few head w g)

    pub gone_fits : (last : LastWriter) (t : Tally) → t ≡ expiry_tally head d.gone last → CountsFit head t
    gone_fits last t e =
        rw e
        record {
          alive = omega (arith, few-alive head head.writer_count w g.ready);
          not_alive = gone-room;
          ack_alive = g.ready.ack_alive;
          ack_not_alive = g.ready.ack_not_alive;
        }

    pub expire-leaves : head.lost_count + d.gone ≤ 256 → (w' lost' : List ℕ) (last : LastWriter) (r : Called) →
        w' ≡ lay writer_bytes 40 (length w) after → lost' ≡ lost_of (guids_in head.lost_count lost ++ map guid_in (pick (expires s.a) ws)) →
        last ≡ last_after (map guid_in (pick (expires s.a) ws)) head.last_writer → r.answer ≡ saying_due (not (eqb d.gone 0)) d.next →
        r.head ≡ settled_head head head.writer_count (head.lost_count + d.gone) (expiry_tally head d.gone last) → Expires s head w lost r w' lost'
    unfolding tracker_call tracker_turn tracker_state state_of
    expire-leaves h w' lost' last r ew el et ea eh pens =
        let l : tracker_late Expire s (held_by head pens w lost) ≡ 0 = late_is pens ∙ rw (le-ltb 256 (head.lost_count + length (pick (expires s.a) ws)) (rw k at h)) in
        let gs : List Guid = map guid_in (pick (expires s.a) ws) in
        let m : d.gone ≡ length gs = gone_are ∙ sym (length-map (pick (expires s.a) ws) guid_in) in
        let n : head.lost_count + d.gone ≡ length (guids_in head.lost_count lost ++ gs) =
        omega (arith, m, length-append (guids_in head.lost_count lost) gs, length_read guid_of 16 head.lost_count lost) in
        let a : head.alive - d.gone ≡ alive_count after = omega (arith, gone_are, g.ready.alive, alive-after s.a ws) in
        let b : head.not_alive + d.gone ≡ not_alive_count after = omega (arith, gone_are, g.ready.not_alive, not-alive-after s.a ws) in
        let hd = turn-head Expire s head pens w lost after gs (expiry_tally head d.gone last) head.writer_count (expire-turn s ws) (expire_who s ws) (rw (a, b)) m et
        (sym size) (guids_in head.lost_count lost ++ gs) (head.lost_count + d.gone) refl n refl refl in
        let said : saying_due (not (eqb d.gone 0)) d.next ≡ tracker_told Expire s (held_by head pens w lost) =
        rw (m, moved-is gs, k, expire-turn s ws, expire_who s ws) in
        rw l
        record {
          settles = record { answer = ea ∙ said; head = eh ∙ hd; laid = laid w' ew ∙ ap writers_of (sym (expire-turn s ws)) };
          lost_laid = el ∙ ap (λ (z : List Guid). lost_of (guids_in head.lost_count lost ++ z)) (sym (expire_who s ws));
        }
