-- What inner functions look up, and where they look.
use Rattle.std.specs.Prelude.{ℕ, Bool, List, ◌≡◌, length}
use Rattle.std.proofs.Math.Option.{Option, none, some}
use Rattle.model.specs.declared.Instance.{Instance}
use Rattle.model.specs.declared.Times.{Times}
use Rattle.model.specs.Call.{list_in}
use Rattle.model.specs.InstanceCalls.{handle_bytes}
use Rattle.model.specs.Tables.{pick}
use Rattle.model.specs.Times.{no_time}

abbrev pub no_times : Times
no_times =
    record {
      last_sample = no_time;
      last_delivered = no_time;
      last_filter = no_time;
      disposed_at = no_time;
      no_writers_at = no_time;
      owner_at = no_time;
    }

-- the times of an instance that was looked for
abbrev pub times_in : Option Instance → Times
times_in none = no_times
times_in (some x) = x.state.times

-- n instances of which p holds were listed: out became it with their handles in front
pub record ListedBy (p : Instance → Bool) (xs : List Instance) (out : List ℕ) (n : ℕ) (after : List ℕ) : Type 0 where
  pub count : n ≡ length (pick p xs)
  pub list : after ≡ list_in (handle_bytes (pick p xs)) out
