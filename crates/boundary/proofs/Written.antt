-- The parts of a head and of an answer, written one after the other over all of the bytes, over plain variables.
--     whole           what is written over all of the bytes is all that there is
--     head-put        a head's parts make its bytes
--     answer-put      an answer's parts make its bytes
use Prim.Native.Nat.{ℕ, ◌+◌}
use mathlib.Core.Path.{◌≡◌, ◌∙◌}
use mathlib.Core.List.{List, append-nil}
use native.Mathlib.Omega.{arith}
use lib.ListN.{length, drop_of_length-le}
use Rattle.octets.specs.Fields.{puts}
use Rattle.octets.specs.Patch.{patch}
use Rattle.octets.proofs.PatchLaws.{puts-patch}
use Rattle.model.specs.declared.Answer.{Answer}
use Rattle.model.specs.declared.Head.{Head}
use Rattle.boundary.specs.Layouts.{head_widths, head_values, head_bytes, answer_widths, answer_values, answer_bytes}
use Rattle.boundary.specs.Parts.{count_widths, count_values, change_widths, change_values, last_widths, last_values, bit_widths, bit_values, kind_widths, kind_values, list_widths, list_values, status_widths, status_values, due_widths, due_values}

pub whole : (n : ℕ) (s b : List ℕ) → length s ≡ n → patch s 0 n b ≡ b
whole n s b e = rw (drop_of_length-le s {i = 0 + n} (omega arith)) (append-nil b)

pub head-put : (h : Head) (s t1 t2 t3 : List ℕ) → length s ≡ 64 →
    t1 ≡ puts count_widths (count_values h) s 0 0 → t2 ≡ puts change_widths (change_values h) t1 0 20 →
    t3 ≡ puts last_widths (last_values h) t2 0 32 → t3 ≡ head_bytes h
unfolding head_bytes
head-put h s t1 t2 t3 n e1 e2 e3 =
    rw (e3, e2, e1) (puts-patch head_widths (head_values h) s 0 0 (omega arith) tt ∙ whole 64 s (head_bytes h) n)

pub answer-put : (a : Answer) (s t1 t2 t3 t4 t5 : List ℕ) → length s ≡ 72 →
    t1 ≡ puts bit_widths (bit_values a) s 0 0 → t2 ≡ puts kind_widths (kind_values a) t1 0 4 →
    t3 ≡ puts list_widths (list_values a) t2 0 16 → t4 ≡ puts status_widths (status_values a.status) t3 0 36 →
    t5 ≡ puts due_widths (due_values a) t4 0 56 → t5 ≡ answer_bytes a
unfolding answer_bytes
answer-put a s t1 t2 t3 t4 t5 n e1 e2 e3 e4 e5 =
    rw (e5, e4, e3, e2, e1) (puts-patch answer_widths (answer_values a) s 0 0 (omega arith) tt ∙ whole 72 s (answer_bytes a) n)
