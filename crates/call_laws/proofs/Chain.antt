-- The chain of refusals, one law a link, for any call.
--     refused-left                a refusal leaves what it was lent
--     call-1, call-coded          1, lengths
--     coded_2, coded-3, coded-judged
--                                 2 and 3, code and well-formedness
--     judged_refuses, judged-turn
--                                 4 to 8, what the sheet decides; none of these: the call's turn
--     buffers                     what a call past 3 is lent are buffers of bytes
use Prim.Native.Nat.{ℕ, zero, suc}
use mathlib.Core.Bool.{true, false}
use mathlib.Core.Option.{none, some}
use mathlib.Core.Path.{◌≡◌, refl, ap}
use mathlib.Core.List.{List}
use lib.Dec.{eqb-suc-zero}
use Rattle.model.specs.declared.Called.{Called}
use Rattle.model.specs.declared.Head.{Head}
use Rattle.model.specs.declared.Sheet.{Sheet}
use Rattle.model.specs.Answers.{refused_with}
use Rattle.model.specs.Call.{call_in, coded, judged, refuse, settle, turn, lent_of, left_of}
use Rattle.model.specs.Calls.{Call, call_of_code}
use Rattle.model.specs.Refusals.{lengths_ok, sheet_refusal}
use Rattle.model.specs.Sheets.{sheet_of}
use Rattle.model.specs.State.{Lent, state_of}
use Rattle.model.specs.WellFormed.{well_formed}
use Rattle.model.proofs.StateLaws.{Buffers}
use Rattle.call_laws.specs.Entered.{Entered}
use Rattle.call_laws.specs.Heads.{called}

pub refused-left : (n : ℕ) (r : Called) (head : Head) (pens writers lost out : List ℕ) → r ≡ called (refused_with n) head →
    left_of r pens writers lost out ≡ refuse n (lent_of head pens writers lost out)
refused-left n r head pens writers lost out e = ap (λ (x : Called). left_of x pens writers lost out) e

module _ (places : ℕ) (sheet : List ℕ) (l : Lent) where
  pub call-1 : lengths_ok places sheet l ≡ false → refuse 1 l ≡ call_in places sheet l
  unfolding call_in
  call-1 e = rw e

  pub call-coded : lengths_ok places sheet l ≡ true → coded places (call_of_code (sheet_of sheet).code) (sheet_of sheet) l ≡ call_in places sheet l
  unfolding call_in
  call-coded e = rw e

module _ (places : ℕ) (s : Sheet) (l : Lent) where
  pub coded_2 : call_of_code s.code ≡ none → refuse 2 l ≡ coded places (call_of_code s.code) s l
  coded_2 e = rw e

  module _ (c : Call) (known : call_of_code s.code ≡ some c) where
    pub coded-3 : well_formed places l ≡ false → refuse 3 l ≡ coded places (call_of_code s.code) s l
    coded-3 e = rw (known, e)

    pub coded-judged : well_formed places l ≡ true → judged places c s l ≡ coded places (call_of_code s.code) s l
    coded-judged e = rw (known, e)

module _ (places : ℕ) (c : Call) (s : Sheet) (l : Lent) where
  pub judged_refuses : (n : ℕ) → n ≡ sheet_refusal c s (state_of l) → (n ≡ 0 → ⊥) → refuse n l ≡ judged places c s l
  unfolding judged
  judged_refuses zero e Some-number = absurd (Some-number refl)
  judged_refuses (suc n) e Some-number = rw (← e, eqb-suc-zero n)

  pub judged-turn : 0 ≡ sheet_refusal c s (state_of l) → settle places (turn places c s (state_of l)) l ≡ judged places c s l
  unfolding judged
  judged-turn e = rw (← e)

pub buffers : (places : ℕ) (l : Lent) → Entered places l → Buffers places l
buffers places l e =
    record {
      pens = e.pens;
      writers = e.writers;
      lost = e.lost;
      pens_bytes = e.pens_bytes;
      writers_bytes = e.writers_bytes;
      lost_bytes = e.lost_bytes;
    }
