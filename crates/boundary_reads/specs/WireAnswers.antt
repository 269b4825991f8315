-- Wire time as it crosses the C boundary, in the layout of a read's answer: 0 the number, 4 the fraction or the nanoseconds,
-- 8 the remainder, the others 0.
use Rattle.std.specs.Prelude.{ℕ, false}
use Rattle.read_answers.specs.declared.ReadAnswer.{ReadAnswer}
use Rattle.read_answers.specs.Cases.{read_of}
use Rattle.wire_time.specs.declared.WireFraction.{WireFraction}

abbrev pub fraction_answer : WireFraction → ReadAnswer
fraction_answer w = read_of w.number 0 false w.fraction w.remainder

abbrev pub nanos_answer : ℕ → ReadAnswer
nanos_answer n = read_of 0 0 false n 0
