-- The smallest lists that show what the claims do not say, and what they do: one instance, of key 7 and handle 1, and the
-- writers 1 and 2, from the fresh state with 128 places. The calls are made on records; each list's ending is a row.
use Rattle.std.specs.Prelude.{ℕ, Bool, true, false, List, [], ◌∷◌, map, ◌≡◌, replicate}
use Rattle.std.proofs.Math.Option.{Option, none, some}
use Rattle.model.specs.declared.Guid.{Guid}
use Rattle.model.specs.declared.Instance.{Instance}
use Rattle.model.specs.declared.Sheet.{Sheet}
use Rattle.model.specs.Call.{turn}
use Rattle.model.specs.Calls.{Call, call_of_code}
use Rattle.model.specs.Guids.{num}
use Rattle.model.specs.Handles.{handle}
use Rattle.model.specs.InstanceCalls.{Turned, refused}
use Rattle.model.specs.InstanceRecord.{holder_places}
use Rattle.model.specs.Instances.{has_key, is_alive, writers_in}
use Rattle.model.specs.State.{State, fresh_state, large_places}
use Rattle.model.specs.Tables.{find}
use Rattle.model.specs.Times.{no_time}
use Rattle.accounts.specs.InstanceAccounts.{Event}
use Rattle.abandonment.specs.Standing.{stand_of}

abbrev guid : ℕ → Guid
guid n = record { hi = 0; lo = n }

-- a call of a code on key 7 and handle 1 by a writer: A, B, the strength, whether it has a lease, and the kind
abbrev sheet : ℕ → ℕ → ℕ → ℕ → ℕ → Bool → ℕ → Sheet
sheet code writer a b strength leased kind =
    record {
      key = guid 7;
      guid = guid writer;
      handle = handle 1;
      time_1 = no_time;
      time_2 = no_time;
      a = a;
      b = b;
      first = 1;
      second = strength;
      deadline_present = false;
      lease_present = leased;
      manual = false;
      by_source = false;
      kind = kind;
      code = code;
      holder = record { present = false; len = 0; bytes = replicate holder_places 0 };
    }

-- 32 at clock 1: automatic with lease 1, automatic without a lease, and by topic, which asserts nothing
abbrev matched : ℕ → Sheet
matched writer = sheet 32 writer 1 1 0 true 0

abbrev matched_leaseless : ℕ → Sheet
matched_leaseless writer = sheet 32 writer 1 0 0 false 0

abbrev matched_by_topic : ℕ → Sheet
matched_by_topic writer = sheet 32 writer 1 1 0 true 2

-- 48 with a strength
abbrev admits : ℕ → ℕ → Sheet
admits writer strength = sheet 48 writer 0 0 strength false 0

-- the same with a separation of 1 from the sample before
abbrev admits_apart : ℕ → ℕ → Sheet
admits_apart writer strength = sheet 48 writer 1 0 strength false 0

abbrev notes : ℕ → Sheet
notes writer = sheet 6 writer 0 0 0 false 0

abbrev expires : ℕ → Sheet
expires clock = sheet 37 0 clock 0 0 false 0

abbrev lapses : ℕ → Sheet
lapses clock = sheet 49 0 clock 0 0 false 0

-- 33 and 34, the tracker's own: they leave the instances alone
abbrev unmatches : ℕ → Sheet
unmatches writer = sheet 33 writer 0 0 0 false 0

abbrev loses_participant : ℕ → Sheet
loses_participant writer = sheet 34 writer 0 0 0 false 0

abbrev departs : ℕ → Sheet
departs writer = sheet 51 writer 0 0 0 false 0

-- ---- a list of calls on records

abbrev called : Option Call → Sheet → State → Turned
called none s st = refused 2 st
called (some c) s st = turn large_places c s st

abbrev calling : Sheet → State → Turned
calling s st = called (call_of_code s.code) s st

abbrev event_on : Sheet → Turned → Event
event_on s t = record { sheet = s; number = t.answer.number; handle = t.answer.handle.0; outcome = t.answer.outcome }

unfoldable pub events : List Sheet → State → List Event
events [] st = []
events (s ∷ ss) st = event_on s (calling s st) ∷ events ss (calling s st).state

unfoldable pub ending : List Sheet → State → State
ending [] st = st
ending (s ∷ ss) st = ending ss (calling s st).state

-- ---- the rows

abbrev outcome_of : Event → ℕ
outcome_of e = e.outcome

abbrev number_of : Event → ℕ
number_of e = e.number

abbrev alive_in : Option Instance → Bool
alive_in none = false
alive_in (some x) = is_alive x.state.life.kind

abbrev set_in : Option Instance → List Guid
set_in none = []
set_in (some x) = writers_in x.state

-- what a list ends in: the calls' refusal numbers and outcomes, whether the instance is shown as alive, its set, and the
-- writers that stand for it, the latest first
pub record End : Type 0 where
  pub refusals : List ℕ
  pub outcomes : List ℕ
  pub alive : Bool
  pub set : List ℕ
  pub standing : List ℕ

abbrev end_of : List Sheet → End
end_of ss =
    record {
      refusals = map number_of (events ss fresh_state);
      outcomes = map outcome_of (events ss fresh_state);
      alive = alive_in (find (has_key (guid 7)) (ending ss fresh_state).instances);
      set = map num (set_in (find (has_key (guid 7)) (ending ss fresh_state).instances));
      standing = map num (stand_of 7 (events ss fresh_state)).writers;
    }

pub record Row : Type 0 where
  pub calls : List Sheet
  pub end : End

abbrev pub Holds : Row → Type 0
Holds r = end_of r.calls ≡ r.end

abbrev shown_alive : List ℕ → List ℕ → List ℕ → End
shown_alive refusals outcomes set = record { refusals = refusals; outcomes = outcomes; alive = true; set = set; standing = set }

abbrev shown_abandoned : List ℕ → List ℕ → End
shown_abandoned refusals outcomes =
    record { refusals = refusals; outcomes = outcomes; alive = false; set = []; standing = [] }

-- the weak writer's sample is turned away (outcome 4), the strong one's lease runs out: abandoned, though the weak one
-- still writes. The strong one owns from its first sample on, which starts the instance
abbrev pub turned_away : Row
turned_away =
    record {
      calls = matched 1 ∷ admits 1 2 ∷ admits 2 1 ∷ lapses 2 ∷ [];
      end = shown_abandoned (0 ∷ 0 ∷ 0 ∷ 0 ∷ []) (0 ∷ 0 ∷ 4 ∷ 0 ∷ []);
    }

-- the same with a sample that the filter turns away (outcome 2)
abbrev pub filtered_out : Row
filtered_out =
    record {
      calls = matched 1 ∷ admits 1 2 ∷ admits_apart 2 1 ∷ lapses 2 ∷ [];
      end = shown_abandoned (0 ∷ 0 ∷ 0 ∷ 0 ∷ []) (0 ∷ 0 ∷ 2 ∷ 0 ∷ []);
    }

-- the remedy: code 6 after that outcome
abbrev pub noted_after : Row
noted_after =
    record {
      calls = matched 1 ∷ admits 1 2 ∷ admits 2 1 ∷ notes 2 ∷ lapses 2 ∷ [];
      end = shown_alive (0 ∷ 0 ∷ 0 ∷ 0 ∷ 0 ∷ []) (0 ∷ 0 ∷ 4 ∷ 0 ∷ 0 ∷ []) (2 ∷ []);
    }

-- the writers that no lapse takes out, each with a last lapse at clock 9
abbrev pub never_matched : Row
never_matched = record { calls = admits 1 2 ∷ lapses 9 ∷ []; end = shown_alive (0 ∷ 0 ∷ []) (0 ∷ 0 ∷ []) (1 ∷ []) }

abbrev pub never_asserted : Row
never_asserted =
    record {
      calls = matched_by_topic 1 ∷ admits 1 2 ∷ lapses 9 ∷ [];
      end = shown_alive (0 ∷ 0 ∷ 0 ∷ []) (0 ∷ 0 ∷ 0 ∷ []) (1 ∷ []);
    }

abbrev pub without_lease : Row
without_lease =
    record {
      calls = matched_leaseless 1 ∷ admits 1 2 ∷ lapses 9 ∷ [];
      end = shown_alive (0 ∷ 0 ∷ 0 ∷ []) (0 ∷ 0 ∷ 0 ∷ []) (1 ∷ []);
    }

abbrev pub expired_before : Row
expired_before =
    record {
      calls = matched 1 ∷ admits 1 2 ∷ expires 9 ∷ lapses 9 ∷ [];
      end = shown_alive (0 ∷ 0 ∷ 0 ∷ 0 ∷ []) (0 ∷ 0 ∷ 0 ∷ 0 ∷ []) (1 ∷ []);
    }

abbrev pub departed_before : Row
departed_before =
    record {
      calls = matched 1 ∷ departs 1 ∷ admits 1 2 ∷ lapses 9 ∷ [];
      end = shown_alive (0 ∷ 0 ∷ 0 ∷ 0 ∷ []) (0 ∷ 0 ∷ 0 ∷ 0 ∷ []) (1 ∷ []);
    }

abbrev pub back_by_sample : Row
back_by_sample =
    record {
      calls = matched 1 ∷ admits 1 2 ∷ lapses 2 ∷ admits 1 2 ∷ lapses 9 ∷ [];
      end = shown_alive (0 ∷ 0 ∷ 0 ∷ 0 ∷ 0 ∷ []) (0 ∷ 0 ∷ 0 ∷ 0 ∷ 0 ∷ []) (1 ∷ []);
    }

-- 33 and 34 in the place of 50 and 51
abbrev pub unmatched_alone : Row
unmatched_alone =
    record {
      calls = matched 1 ∷ admits 1 2 ∷ unmatches 1 ∷ lapses 9 ∷ [];
      end = shown_alive (0 ∷ 0 ∷ 0 ∷ 0 ∷ []) (0 ∷ 0 ∷ 0 ∷ 0 ∷ []) (1 ∷ []);
    }

abbrev pub lost_alone : Row
lost_alone =
    record {
      calls = matched 1 ∷ admits 1 2 ∷ loses_participant 1 ∷ lapses 9 ∷ [];
      end = shown_alive (0 ∷ 0 ∷ 0 ∷ 0 ∷ []) (0 ∷ 0 ∷ 0 ∷ 0 ∷ []) (1 ∷ []);
    }

abbrev pub rows : List Row
rows =
    turned_away ∷ noted_after ∷ filtered_out ∷ never_matched ∷ never_asserted ∷ without_lease ∷ expired_before ∷ departed_before ∷ back_by_sample ∷ unmatched_alone ∷ lost_alone ∷ []
