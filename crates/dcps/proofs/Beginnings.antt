-- The fresh state.
--     cleared           a buffer cleared from end to end
--     room-is, rooms    the lengths of the buffers, as one test and one by one
--     fresh-refused, fresh-left
--                       a wrong length; buffers cleared, and the fresh head
use Prim.Native.Nat.{ℕ, ◌*◌}
use mathlib.Core.Bool.{Bool, true, false, ◌&&◌}
use mathlib.Core.Path.{◌≡◌, sym, ap, ◌∙◌}
use mathlib.Core.List.{List, [], ◌++◌, append-nil}
use native.Mathlib.Nat.{zero-add}
use borrow.Author.Tests.{eqb-true}
use lib.Dec.{eqb}
use lib.ListN.{length, drop, replicate}
use lib.Seq.{drop-length}
use Rattle.octets.specs.Patch.{patch}
use Rattle.model.specs.declared.Called.{Called}
use Rattle.model.specs.Answers.{refused_with}
use Rattle.model.specs.Call.{left_of}
use Rattle.model.specs.State.{places_in, fresh}
use Rattle.model.proofs.Tests.{both}
use Rattle.call_laws.specs.Heads.{called}
use Rattle.dcps.specs.Fresh.{fresh_head, room_ok, fresh_of}

pub cleared : (n : ℕ) (t u : List ℕ) → length t ≡ n → u ≡ patch t 0 n (replicate n 0) → u ≡ replicate n 0
cleared n t u e p = p ∙ ap (λ (z : List ℕ). replicate n 0 ++ z) (ap (λ (k : ℕ). drop k t) (zero-add n ∙ sym e) ∙ drop-length t) ∙ append-nil (replicate n 0)

-- ---- lengths

pub record Rooms (places p w l : ℕ) : Type 0 where
  pub pens : p ≡ places * 512
  pub writers : w ≡ 5120
  pub lost : l ≡ 4096

pub rooms : (places pens writers lost : ℕ) → (eqb pens (places * 512) && (eqb writers 5120 && eqb lost 4096)) ≡ true → Rooms places pens writers lost
rooms places pens writers lost e =
    let p = both (eqb pens (places * 512)) (eqb writers 5120 && eqb lost 4096) e in
    let q = both (eqb writers 5120) (eqb lost 4096) p.1 in
    record { pens = eqb-true pens (places * 512) p.0; writers = eqb-true writers 5120 q.0; lost = eqb-true lost 4096 q.1 }

pub room-is : (places : ℕ) (pens writers lost : List ℕ) (b : Bool) →
    (eqb (length pens) (places * 512) && (eqb (length writers) 5120 && eqb (length lost) 4096)) ≡ b → room_ok places pens writers lost ≡ b
unfolding room_ok
room-is places pens writers lost b e = e

-- ---- what is left

module _ (places : ℕ) (pens writers lost : List ℕ) (figure : places ≡ places_in pens) (r : Called) where
  pub fresh-refused : room_ok places pens writers lost ≡ false → r ≡ called (refused_with 1) (fresh_head places) → left_of r pens writers lost [] ≡ fresh_of pens writers lost
  unfolding fresh_of
  fresh-refused e s = rw (← figure, e, s)

  pub fresh-left : (pens' writers' lost' : List ℕ) → room_ok places pens writers lost ≡ true → r ≡ called (refused_with 0) (fresh_head places) →
      pens' ≡ replicate (places * 512) 0 → writers' ≡ replicate 5120 0 → lost' ≡ replicate 4096 0 → left_of r pens' writers' lost' [] ≡ fresh_of pens writers lost
  unfolding fresh_of fresh
  fresh-left pens' writers' lost' e s p w l = rw (← figure, e, s, p, w, l)
