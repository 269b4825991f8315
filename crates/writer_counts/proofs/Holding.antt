-- What a well-formed table of writers gives, and tables that a turn leaves, over plain variables.
--     Good, good            the facts of `WritersFormed`
--     head-same             the head of the state that is held is the head
--     sound-laid            a table laid out from writers that are within their bounds may be passed over, and is read back
--     few-alive, few-not-alive                    at most 128 are counted
--     count_set, count-out                        how many are picked with one record changed, or taken out
--     all-put, all_in       what holds of all holds with one writer changed, or put in
use Prim.Native.Nat.{ℕ, suc, ◌+◌, ◌*◌, ◌≤◌, ◌<◌, ◌^◌}
use mathlib.Core.Bool.{Bool, true, ◌&&◌}
use mathlib.Core.Path.{◌≡◌, ap, ◌∙◌}
use mathlib.Core.List.{List, [], ◌∷◌, ◌++◌}
use native.Mathlib.Omega.{arith}
use borrow.Author.Tests.{eqb-true, leb-true}
use lib.Dec.{leb}
use lib.IntN.{pos, ◌-ℤ◌}
use lib.ListN.{length, take, drop, get_or, set, take-append-drop}
use lib.Seq.{split_at, set_split}
use Rattle.octets.specs.Bounds.{Bytes}
use Rattle.octets.specs.Lay.{lay, All}
use Rattle.octets.proofs.LayLaws.{length-lay}
use Rattle.model.specs.declared.Head.{Head}
use Rattle.model.specs.declared.Writer.{Writer}
use Rattle.model.specs.Guids.{guid_of}
use Rattle.model.specs.InstanceRecord.{bit, instance_of}
use Rattle.model.specs.State.{counts_alive, counts_not_alive, alive_count, not_alive_count, state_of, head_of, writers_in}
use Rattle.model.specs.Tables.{pick, all}
use Rattle.model.specs.WellFormed.{within, head_ok, writer_ok, writers_ok, writer_table_ok, counts_ok}
use Rattle.model.specs.WriterRecord.{writer_of, writer_bytes}
use Rattle.model.proofs.Fits.{FitsWriter}
use Rattle.model.proofs.Tests.{both, less-less}
use Rattle.model.proofs.RowLaws.{length_read, read_rows_lem, lay_read}
use Rattle.model.proofs.StateLaws.{writers_each, writers-all}
use Rattle.writer_pass.specs.Passes.{Sound}
use Rattle.writer_pass.proofs.Passing.{Any, wide, any-all}
use Rattle.writer_pass.proofs.Picks.{pick-le, count_middle}
use Rattle.writer_counts.specs.WriterCalls.{WritersFormed, Passable, held_by}

-- ---- the facts of `WritersFormed`

pub record Good (head : Head) (w : List ℕ) : Type 0 where
  pub ready : Passable head head.writer_count w
  pub size : length (writers_in head.writer_count w) ≡ head.writer_count

pub good : (head : Head) (w : List ℕ) → Bytes w → WritersFormed head w → Good head w
unfolding head_ok writer_table_ok writers_ok counts_ok alive_count not_alive_count
good head w b h =
    let n = head.writer_count in
    let ws = writers_in n w in
    let p = both _ _ h.table in
    let q = both _ _ p.1 in
    let r = both _ _ q.1 in
    let o = both _ _ r.1 in
    let k = both _ _ h.counted in
    let u =
    both (leb 1 head.next_handle.0 && leb head.next_handle.0 (2 ^ 63))
    (within (pos head.alive -ℤ head.alive_change) && within (pos head.not_alive -ℤ head.not_alive_change)) h.head_formed in
    let v = both _ _ u.1 in
    let few : n ≤ 128 = leb-true n 128 p.0 in
    let room : n * 40 ≤ length w = omega (arith, h.long) in
    record {
      ready = record {
        sound = record { few = few; room = room; laid = lay_read writer_bytes writer_of 40 n w room (writers_each n w b room r.0) q.0; ok = o.1 };
        rises = o.0;
        alive = eqb-true _ _ k.0;
        not_alive = eqb-true _ _ k.1;
        ack_alive = v.0;
        ack_not_alive = v.1;
      };
      size = length_read writer_of 40 n w;
    }

-- no more are counted than there are
module _ (head : Head) (n : ℕ) (w : List ℕ) (p : Passable head n w) where
  pub few-alive : head.alive ≤ 128
  unfolding alive_count
  few-alive = omega (arith, p.alive, pick-le counts_alive (writers_in n w), length_read writer_of 40 n w, p.sound.few)

  pub few-not-alive : head.not_alive ≤ 128
  unfolding not_alive_count
  few-not-alive = omega (arith, p.not_alive, pick-le counts_not_alive (writers_in n w), length_read writer_of 40 n w, p.sound.few)

-- ---- the head of the state that is held

pub head-same : (head : Head) (w : List ℕ) → Good head w → (pens lost : List ℕ) → head_of head.places (held_by head pens w lost) ≡ head
unfolding head_of state_of
head-same head w g pens lost =
    rw (
      length_read instance_of 512 head.instance_count pens,
      length_read guid_of 16 head.lost_count lost,
      g.size,
      ← g.ready.alive,
      ← g.ready.not_alive,
      less-less (pos head.alive) head.alive_change,
      less-less (pos head.not_alive) head.not_alive_change,
    )

-- ---- a table that is laid out

module _ (ws : List Writer) (n : ℕ) (fits : All FitsWriter ws) (room : length ws * 40 ≤ n) where
  pub read_laid_all : writers_in (length ws) (lay writer_bytes 40 n ws) ≡ ws
  unfolding lay
  read_laid_all = read_rows_lem writer_bytes writer_of 40 ws _ (writers-all ws fits)

  pub length-laid : length (lay writer_bytes 40 n ws) ≡ n
  length-laid = length-lay writer_bytes 40 Any wide n ws (any-all ws) room

  pub sound-laid : length ws ≤ 128 → all writer_ok ws ≡ true → Sound (length ws) (lay writer_bytes 40 n ws)
  sound-laid few ok =
      record {
        few = few;
        room = rw length-laid room;
        laid = rw (read_laid_all, length-laid);
        ok = rw read_laid_all ok;
      }

-- ---- one writer changed, put in, or taken out

module _ {A : Type 0} (p : A → Bool) where
  module _ (xs : List A) (i : ℕ) (d : A) (h : i < length xs) where
    pub count-out : length (pick p xs) ≡ bit (p (get_or xs i d)) + length (pick p (take i xs ++ drop (suc i) xs))
    count-out = ap (λ (l : List A). length (pick p l)) (split_at xs i d h) ∙ count_middle p (take i xs) (drop (suc i) xs) (get_or xs i d)

    pub count_set : (y : A) → length (pick p (set xs i y)) ≡ bit (p y) + length (pick p (take i xs ++ drop (suc i) xs))
    count_set y = ap (λ (l : List A). length (pick p l)) (set_split xs i y h) ∙ count_middle p (take i xs) (drop (suc i) xs) y

  all_middle : (a b : List A) (x : A) → all p (a ++ b) ≡ true → p x ≡ true → all p (a ++ x ∷ b) ≡ true
  unfolding all
  all_middle [] b x h q = rw (q, h)
  all_middle (y ∷ a) b x h q = let c = both (p y) (all p (a ++ b)) h in rw (c.0, all_middle a b x c.1 q)

  pub all-out : (a b : List A) (x : A) → all p (a ++ x ∷ b) ≡ true → all p (a ++ b) ≡ true
  unfolding all
  all-out [] b x h = (both (p x) (all p b) h).1
  all-out (y ∷ a) b x h = let c = both (p y) (all p (a ++ x ∷ b)) h in rw (c.0, all-out a b x c.1)

  pub all-put : (xs : List A) (i : ℕ) (y : A) → i < length xs → all p xs ≡ true → p y ≡ true → all p (set xs i y) ≡ true
  all-put xs i y h a q =
      ap (all p) (set_split xs i y h)
      ∙ all_middle (take i xs) (drop (suc i) xs) y (all-out (take i xs) (drop (suc i) xs) (get_or xs i y) (rw (← split_at xs i y h) a)) q

  pub all_in : (xs : List A) (i : ℕ) (y : A) → all p xs ≡ true → p y ≡ true → all p (take i xs ++ y ∷ drop i xs) ≡ true
  all_in xs i y a q = all_middle (take i xs) (drop i xs) y (rw (take-append-drop i xs) a) q
