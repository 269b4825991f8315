-- Loops that read the writer table, over plain variables.
--     reads                                   the record read at place i is writer i
--     bounded_in                              its clock and lease are bounded
--     dues_start, dues_turn, dues_room        the dues, one writer further to the front
use Prim.Native.Nat.{ℕ, suc, ◌+◌, ◌*◌, ◌≤◌, ◌<◌}
use mathlib.Core.Bool.{Bool, true, false, cond}
use mathlib.Core.Path.{◌≡◌, refl, sym, ap, ◌∙◌}
use mathlib.Core.List.{List, ◌∷◌}
use native.Mathlib.Numerals.{add-one}
use native.Mathlib.Omega.{arith}
use lib.Dec.{leb}
use lib.ListN.{length, take, drop, get_or, length-drop, drop_of_length-le}
use lib.Seq.{take_all, drop-cons, length-take-le}
use Rattle.model.specs.declared.Writer.{Writer}
use Rattle.model.specs.Answers.{no_due}
use Rattle.model.specs.State.{writers_in}
use Rattle.model.specs.Tables.{pick}
use Rattle.model.specs.WellFormed.{writer_ok}
use Rattle.model.specs.Writers.{leased, due_at, expires, expired, next_due}
use Rattle.model.specs.WriterRecord.{writer_of}
use Rattle.model.proofs.RowLaws.{length_read}
use Rattle.writer_pass.specs.declared.Dues.{Dues}
use Rattle.writer_pass.specs.Passes.{writer_in, Bounded, Sound, soonest, dues_with, dues_of}
use Rattle.writer_pass.proofs.Picks.{pick-le, all-at, read_at, bounded}

-- ---- the dues of a writer more in front

-- an expired writer has no lease that runs, so the next due is that of the others
next-cons : (clock : ℕ) (w : Writer) (ws : List Writer) (y z : Bool) → leased w ≡ y → leb (due_at w) clock ≡ z →
    dues_of clock (w ∷ ws)
    ≡ cond y
    (cond z record { gone = (dues_of clock ws).gone + 1; next = (dues_of clock ws).next }
    record { gone = (dues_of clock ws).gone; next = soonest (due_at w) (dues_of clock ws).next })
    (dues_of clock ws)
unfolding pick next_due expires expired
next-cons clock w ws true true e f = rw (e, f, add-one (length (pick (expires clock) ws)))
next-cons clock w ws true false e f = rw (e, f, e)
next-cons clock w ws false z e f = rw (e, e)

dues_cons : (clock : ℕ) (w : Writer) (ws : List Writer) → dues_of clock (w ∷ ws) ≡ cond (leased w) (dues_with (dues_of clock ws) (due_at w) clock) (dues_of clock ws)
dues_cons clock w ws = next-cons clock w ws (leased w) (leb (due_at w) clock) refl refl

module _ (t : List ℕ) (count : ℕ) where
  abbrev ws : List Writer
  ws = writers_in count t

  pub size : length ws ≡ count
  size = length_read writer_of 40 count t

  pub reads : (i : ℕ) (w : Writer) → i < count → w ≡ writer_of (take 40 (drop (i * 40) t)) → w ≡ get_or ws i w
  reads i w h e = e ∙ sym (read_at writer_of 40 count t i w h)

  pub bounded_in : (i : ℕ) (w : Writer) → Sound count t → i < count → w ≡ writer_of (take 40 (drop (i * 40) t)) → Bounded w
  bounded_in i w s h e = bounded w (rw (reads i w h e) (all-at writer_ok ws i w s.ok (omega (arith, size))))

  taken : (i : ℕ) → i ≤ count → length (take i ws) ≡ i
  taken i h = length-take-le i ws (omega (arith, size))

  whole : (i : ℕ) → count ≤ i → take i ws ≡ ws
  whole i h = take_all i ws (omega (arith, size))

  -- ---- the dues

  module _ (clock : ℕ) where
    pub dues_start : record { gone = 0; next = no_due } ≡ dues_of clock (drop count ws)
    unfolding pick next_due
    dues_start = rw (drop_of_length-le ws {i = count} (omega (arith, size)))

    pub dues_turn : (i j : ℕ) (w : Writer) (d : Dues) → i ≡ j + 1 → i ≤ count → w ≡ writer_in t j → d ≡ dues_of clock (drop i ws) →
        dues_of clock (drop j ws) ≡ cond (leased w) (dues_with d (due_at w) clock) d
    dues_turn i j w d e h r k =
        let n : i ≡ suc j = omega arith in
        let c : drop j ws ≡ w ∷ drop i ws =
        drop-cons ws j w (omega (arith, size)) ∙ ap (λ (z : Writer). z ∷ drop (suc j) ws) (sym (reads j w (omega arith) r)) ∙ rw (← n) in
        ap (dues_of clock) c ∙ dues_cons clock w (drop i ws) ∙ ap (λ (z : Dues). cond (leased w) (dues_with z (due_at w) clock) z) (sym k)

    pub dues_room : (i : ℕ) (d : Dues) → 0 < i → i ≤ count → count ≤ 128 → d ≡ dues_of clock (drop i ws) → d.gone < 128
    dues_room i d p h l k =
        omega (arith, ap (λ (z : Dues). z.gone) k, pick-le (expires clock) (drop i ws), length-drop i ws, size)
