-- Section 7: what each case of an enum answer says, as the scope document's number and values; values are 0 where a read does
-- not answer them.
use Rattle.std.specs.Prelude.{ℕ, Bool, true, false}
use Rattle.std.specs.Int.{w32}
use Rattle.std.proofs.Common.{of_z}
use Rattle.model.specs.declared.Answer.{Answer}
use Rattle.model.specs.declared.ChangesRead.{ChangesRead}
use Rattle.model.specs.declared.ChangesRead.TheVariants.{Is as changes_is, Refused as changes_refused}
use Rattle.model.specs.declared.Decision.{Decision}
use Rattle.model.specs.declared.Decision.TheVariants.{Is as decision_is, Refused as decision_refused}
use Rattle.model.specs.declared.FoundHandle.{FoundHandle}
use Rattle.model.specs.declared.FoundHandle.TheVariants.{Is as handle_is, Missing as handle_missing, Refused as handle_refused}
use Rattle.model.specs.declared.FoundTime.{FoundTime}
use Rattle.model.specs.declared.FoundTime.TheVariants.{Is as time_is, Missing as time_missing, Refused as time_refused}
use Rattle.model.specs.declared.Listing.{Listing}
use Rattle.model.specs.declared.Listing.TheVariants.{Listed, Refused as listing_refused}
use Rattle.model.specs.declared.StatusRead.{StatusRead}
use Rattle.model.specs.declared.StatusRead.TheVariants.{Is as status_is, Refused as status_refused}
use Rattle.model.specs.Answers.{refused_with, reporting}
use Rattle.model.specs.InstanceRecord.{bit}
use Rattle.read_answers.specs.declared.ReadAnswer.{ReadAnswer}

abbrev pub read_of : ℕ → ℕ → Bool → ℕ → ℕ → ReadAnswer
read_of number said present size value =
    record { number = number; said = said; present = present; stored = false; size = size; value = value; sec = 0; nanosec = 0 }

-- the number alone; number 0: nothing was found
abbrev pub refused_answer : ℕ → ReadAnswer
refused_answer n = read_of n 0 false 0 0

abbrev pub decision_answer : Decision → ReadAnswer
decision_answer (decision_refused n) = refused_answer n
decision_answer (decision_is b) = read_of 0 (bit b) false 0 0

abbrev pub handle_answer : FoundHandle → ReadAnswer
handle_answer (handle_refused n) = refused_answer n
handle_answer handle_missing = refused_answer 0
handle_answer (handle_is h) = read_of 0 0 true 0 h.0

abbrev pub time_answer : FoundTime → ReadAnswer
time_answer (time_refused n) = refused_answer n
time_answer time_missing = refused_answer 0
time_answer (time_is t) =
    record { number = 0; said = 0; present = true; stored = false; size = 0; value = 0; sec = of_z w32 t.sec; nanosec = t.nanosec }

abbrev pub listing_answer : Listing → ReadAnswer
listing_answer (listing_refused n) = refused_answer n
listing_answer (Listed n) = read_of 0 0 false n 0

-- a holder by its place; where none is stored, all is 0
abbrev pub holder_answer : Bool → ℕ → ℕ → ReadAnswer
holder_answer stored offset len =
    record { number = 0; said = 0; present = false; stored = stored; size = len; value = offset; sec = 0; nanosec = 0 }

abbrev pub changes_answer : ChangesRead → ReadAnswer
changes_answer (changes_refused n) = refused_answer n
changes_answer (changes_is n) = read_of 0 0 false 0 n

-- the status goes into the answer of a call
abbrev pub status_answer : StatusRead → Answer
status_answer (status_refused n) = refused_with n
status_answer (status_is s) = reporting s
