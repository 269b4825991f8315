-- Zeros in bytes are zeros as numbers.
--     zero-time     two numbers of 4 bytes are 0 where the 8 bytes are as one number
--     guids_nil     GUIDs are nil where their bytes are zero
--     set_tail      the unused places of the writer set are nil where the record's end is zero
use Prim.Native.Nat.{ℕ, zero, suc, ◌+◌, ◌-◌, ◌*◌, ◌^◌, ◌≤◌}
use mathlib.Core.Bool.{◌&&◌}
use mathlib.Core.Path.{◌≡◌, refl, sym, ap, ◌∙◌}
use mathlib.Core.List.{List}
use native.Mathlib.Omega.{arith}
use lib.Dec.{eqb}
use lib.ListN.{length, take, drop, length-drop}
use lib.Seq.{take-add, take_all, drop-drop, length-take-le}
use Rattle.octets.specs.Octets.{be}
use Rattle.octets.specs.Zeros.{all_zero}
use Rattle.octets.proofs.ZeroLaws.{all_zero-append}
use Rattle.zeros.proofs.Words.{zero-sum, be-zero, zeros-add}
use Rattle.model.specs.Guids.{num, same, nil, guid_of, guids_in}
use Rattle.model.specs.Layout.{read_rows}
use Rattle.model.specs.Tables.{all}
use Rattle.model.specs.WellFormed.{is_nil}
use Rattle.model.proofs.RowLaws.{drop_read}

pub zero-time : (s : List ℕ) (at : ℕ) → at + 8 ≤ length s → eqb (be 8 s at) 0 ≡ (eqb (be 4 s at) 0 && eqb (be 4 s (at + 4)) 0)
zero-time s at h = rw (be-zero 8 s at h, be-zero 4 s at (omega arith), be-zero 4 s (at + 4) (omega arith)) (zeros-add s 4 4 at)

nil-zero : (s : List ℕ) → length s ≡ 16 → same (guid_of s) nil ≡ all_zero s
unfolding num
nil-zero s e =
    zero-sum (2 ^ 64) (be 8 s 0) (be 8 s 8) (omega arith)
    ∙ rw (be-zero 8 s 0 (omega arith), be-zero 8 s 8 (omega arith)) (sym (all_zero-append (take 8 s) (take 8 (drop 8 s))))
    ∙ ap all_zero (sym (take-add 8 8 s) ∙ take_all 16 s (omega arith))

pub guids_nil : (n : ℕ) (t : List ℕ) → n * 16 ≤ length t → all is_nil (guids_in n t) ≡ all_zero (take (n * 16) t)
unfolding read_rows all all_zero
guids_nil zero t h = refl
guids_nil (suc n) t h =
    let e : 16 + n * 16 ≡ suc n * 16 = omega arith in
    rw (nil-zero (take 16 t) (length-take-le 16 t (omega arith)), guids_nil n (drop 16 t) (rw (length-drop 16 t) (omega arith)))
    (sym (all_zero-append (take 16 t) (take (n * 16) (drop 16 t))) ∙ ap all_zero (sym (take-add 16 (n * 16) t) ∙ ap (λ (k : ℕ). take k t) e))

pub set_tail : (s : List ℕ) (n : ℕ) → length s ≡ 512 → n ≤ 16 → all is_nil (drop n (guids_in 16 (drop 256 s))) ≡ all_zero (drop (256 + n * 16) s)
set_tail s n e h =
    let m : length (drop (256 + n * 16) s) ≡ (16 - n) * 16 = rw (length-drop (256 + n * 16) s) (omega arith) in
    rw (drop_read guid_of 16 n 16 (drop 256 s) h, drop-drop (n * 16) 256 s)
    (guids_nil (16 - n) (drop (256 + n * 16) s) (omega arith) ∙ ap all_zero (take_all ((16 - n) * 16) (drop (256 + n * 16) s) (omega arith)))
