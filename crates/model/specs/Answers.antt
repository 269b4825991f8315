-- What a call answers. Section 8: on a refusal its number, other fields zero; an accepted call has number 0, and a field
-- that it does not answer is zero too.
use Rattle.std.specs.Prelude.{ℕ, Bool, true, false, pos}
use Rattle.model.specs.declared.Answer.{Answer}
use Rattle.model.specs.declared.InstanceHandle.{InstanceHandle}
use Rattle.model.specs.declared.InstanceState.{InstanceState}
use Rattle.model.specs.declared.InstanceStateKind.TheVariants.{Alive}
use Rattle.model.specs.declared.LivelinessChangedStatus.{LivelinessChangedStatus}
use Rattle.model.specs.declared.MaybeDue.{MaybeDue}
use Rattle.model.specs.declared.SampleInfo.{SampleInfo}
use Rattle.model.specs.Handles.{handle}

abbrev pub no_info : SampleInfo
no_info = record { view_new = false; kind = Alive; disposed_generations = 0; no_writers_generations = 0 }

abbrev pub no_due : MaybeDue
no_due = record { present = false; at = 0 }

abbrev pub no_status : LivelinessChangedStatus
no_status =
    record {
      alive_count = 0;
      not_alive_count = 0;
      alive_count_change = pos 0;
      not_alive_count_change = pos 0;
      last_publication_handle = handle 0;
    }

abbrev plain : ℕ → ℕ → Bool → ℕ → ℕ → MaybeDue → LivelinessChangedStatus → Answer
plain number outcome said count listed due status =
    record {
      number = number;
      outcome = outcome;
      yes = said;
      present = false;
      handle = handle 0;
      samples = 0;
      info = no_info;
      count = count;
      listed = listed;
      next_due = due;
      status = status;
    }

abbrev pub refused_with : ℕ → Answer
refused_with n = plain n 0 false 0 0 no_due no_status

-- accepted, and nothing more to say; also "none"
abbrev pub silent : Answer
silent = plain 0 0 false 0 0 no_due no_status

abbrev pub saying : Bool → Answer
saying said = plain 0 0 said 0 0 no_due no_status

abbrev pub counting : ℕ → Answer
counting n = plain 0 0 false n 0 no_due no_status

abbrev pub listing : ℕ → Answer
listing n = plain 0 0 false 0 n no_due no_status

abbrev pub saying_due : Bool → MaybeDue → Answer
saying_due said due = plain 0 0 said 0 0 due no_status

abbrev pub reporting : LivelinessChangedStatus → Answer
reporting status = plain 0 0 false 0 0 no_due status

abbrev pub stopping : ℕ → Answer
stopping outcome = plain 0 outcome false 0 0 no_due no_status

-- codes 49 to 51: what the tracker call answered, the number of handles in Out, and the owners cleared
abbrev pub with_list : Answer → ℕ → ℕ → Answer
with_list a count listed = plain 0 0 a.yes count listed a.next_due no_status

-- a value: handle, samples, or the four fields for a SampleInfo
abbrev valued : InstanceHandle → ℕ → SampleInfo → Answer
valued h samples info =
    record {
      number = 0;
      outcome = 0;
      yes = false;
      present = true;
      handle = h;
      samples = samples;
      info = info;
      count = 0;
      listed = 0;
      next_due = no_due;
      status = no_status;
    }

abbrev pub handed : InstanceHandle → Answer
handed h = valued h 0 no_info

abbrev pub handed_samples : InstanceHandle → ℕ → Answer
handed_samples h samples = valued h samples no_info

abbrev pub info_of : InstanceState → SampleInfo
info_of x =
    record {
      view_new = x.life.view_new;
      kind = x.life.kind;
      disposed_generations = x.life.disposed_generations;
      no_writers_generations = x.life.no_writers_generations;
    }

abbrev pub informed : SampleInfo → Answer
informed info = valued (handle 0) 0 info

-- code 48, outcome 0: the answers of codes 9 and 10
abbrev pub both : Answer → Answer → Answer
both observed noted = valued observed.handle observed.samples noted.info
