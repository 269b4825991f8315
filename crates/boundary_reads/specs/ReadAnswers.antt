-- The answer of a read as it crosses the C boundary: 24 bytes, each number most significant byte first, one with a sign by its
-- 32 bits in two's complement. What a read doesn't answer is 0.
use Rattle.std.specs.Prelude.{ℕ, cond, List, [], ◌∷◌, eqb, length}
use Rattle.octets.specs.Patch.{fields}
use Rattle.model.specs.InstanceRecord.{bit}
use Rattle.read_answers.specs.declared.ReadAnswer.{ReadAnswer}

-- ---- the layout (widths and values line by line)

-- 0 number, 1 said, 2 present, 3 stored, 4 length or listed, 8 handle, changes or offset, 16 seconds, 20 nanoseconds
abbrev pub read_widths : List ℕ
read_widths =
    1 ∷ 1 ∷ 1 ∷ 1
    ∷ 4 ∷ 8 ∷ 4 ∷ 4 ∷ []

abbrev pub read_values : ReadAnswer → List ℕ
read_values a =
    a.number ∷ a.said ∷ bit a.present ∷ bit a.stored
    ∷ a.size ∷ a.value ∷ a.sec ∷ a.nanosec ∷ []

-- the 24 bytes of an answer
unfoldable pub read_bytes : ReadAnswer → List ℕ
read_bytes a = fields read_widths (read_values a)

-- the first four fields, from 0; the others, from 4
abbrev pub bit_widths : List ℕ
bit_widths = 1 ∷ 1 ∷ 1 ∷ 1 ∷ []

abbrev pub bit_values : ReadAnswer → List ℕ
bit_values a = a.number ∷ a.said ∷ bit a.present ∷ bit a.stored ∷ []

abbrev pub value_widths : List ℕ
value_widths = 4 ∷ 8 ∷ 4 ∷ 4 ∷ []

abbrev pub value_values : ReadAnswer → List ℕ
value_values a = a.size ∷ a.value ∷ a.sec ∷ a.nanosec ∷ []

-- ---- what a read leaves: the number that is returned, and the answer's bytes. The answer's length belongs to refusal 1

pub record AnswerTold : Type 0 where
  pub number : ℕ
  pub answer : List ℕ

abbrev pub told_of : ℕ → List ℕ → AnswerTold
told_of number answer = record { number = number; answer = answer }

-- an answer of another length is refused as 1 and keeps its bytes
unfoldable pub told_bytes : ℕ → List ℕ → List ℕ → AnswerTold
told_bytes number bytes answer = cond (eqb (length answer) 24) (told_of number bytes) (told_of 1 answer)

unfoldable pub told : ReadAnswer → List ℕ → AnswerTold
told a answer = told_bytes a.number (read_bytes a) answer
