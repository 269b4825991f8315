-- The figure, the lengths, and a call past them.
--     lengths_by        refusal 1 by the tests of the lengths
--     called-3          refused as 3 by the figure
--     called-1, called-coded
--                       past it: refused as 1; else the call by its code
use Prim.Native.Nat.{ℕ, ◌*◌}
use mathlib.Core.Bool.{Bool, true, false, ◌&&◌}
use mathlib.Core.Path.{◌≡◌, refl, sym, ap, ◌∙◌}
use mathlib.Core.List.{List}
use lib.Dec.{eqb}
use lib.ListN.{length}
use Rattle.model.specs.declared.Called.{Called}
use Rattle.model.specs.declared.Head.{Head}
use Rattle.model.specs.declared.Sheet.{Sheet}
use Rattle.model.specs.Answers.{refused_with}
use Rattle.model.specs.Call.{Left, coded, call_of, lent_of, left_of}
use Rattle.model.specs.Calls.{call_of_code}
use Rattle.model.specs.Refusals.{lengths_ok}
use Rattle.model.specs.Sheets.{sheet_of}
use Rattle.model.specs.State.{Lent, figure_ok}
use Rattle.model.proofs.Figures.{call-in, another_figure}
use Rattle.call_laws.specs.Heads.{called}
use Rattle.call_laws.proofs.Chain.{refused-left, call-1, call-coded}

-- ---- lengths

room-first : (p w l o : Bool) → (p && (w && (l && o))) ≡ ((p && (w && l)) && o)
room-first true true l o = refl
room-first true false l o = refl
room-first false w l o = refl

pub lengths_by : (places : ℕ) (sheet : List ℕ) (l : Lent) (a r o : Bool) → eqb (length sheet) 256 ≡ a →
    (eqb (length l.pens) (places * 512) && (eqb (length l.writers) 5120 && eqb (length l.lost) 4096)) ≡ r → eqb (length l.out) 4096 ≡ o →
    lengths_ok places sheet l ≡ (a && (r && o))
unfolding lengths_ok
lengths_by places sheet l a r o ea er eo =
    rw (ea, room-first (eqb (length l.pens) (places * 512)) (eqb (length l.writers) 5120) (eqb (length l.lost) 4096) (eqb (length l.out) 4096), er, eo)

-- ---- what is left

pub called-3 : (sheet : List ℕ) (r : Called) (head : Head) (pens writers lost out : List ℕ) → r ≡ called (refused_with 3) head →
    figure_ok head.places ≡ false → left_of r pens writers lost out ≡ call_of sheet (lent_of head pens writers lost out)
called-3 sheet r head pens writers lost out e other =
    refused-left 3 r head pens writers lost out e ∙ sym (another_figure sheet (lent_of head pens writers lost out) other)

-- past the figure
module _ (places : ℕ) (ok : figure_ok places ≡ true) where
  pub called-1 : (sheet : List ℕ) (r : Called) (head : Head) (pens writers lost out : List ℕ) → head.places ≡ places → r ≡ called (refused_with 1) head →
      lengths_ok places sheet (lent_of head pens writers lost out) ≡ false → left_of r pens writers lost out ≡ call_of sheet (lent_of head pens writers lost out)
  called-1 sheet r head pens writers lost out has e short =
      refused-left 1 r head pens writers lost out e ∙ call-1 places sheet (lent_of head pens writers lost out) short
      ∙ sym (call-in sheet (lent_of head pens writers lost out) places ok has)

  pub called-coded : (sheet : List ℕ) (s : Sheet) (l : Lent) (x : Left) → l.head.places ≡ places → s ≡ sheet_of sheet → lengths_ok places sheet l ≡ true →
      x ≡ coded places (call_of_code s.code) s l → x ≡ call_of sheet l
  called-coded sheet s l x has e fits left =
      left ∙ ap (λ (z : Sheet). coded places (call_of_code z.code) z l) e ∙ call-coded places sheet l fits ∙ sym (call-in sheet l places ok has)
