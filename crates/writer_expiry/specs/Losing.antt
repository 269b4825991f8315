-- What the calls on Lost leave.
use Rattle.std.specs.Prelude.{ℕ, ◌+◌, ◌-◌, true, ◌≡◌, List}
use Rattle.model.specs.declared.Called.{Called}
use Rattle.model.specs.declared.Head.{Head}
use Rattle.model.specs.declared.Sheet.{Sheet}
use Rattle.model.specs.declared.TrackerCall.TheVariants.{Expire, TakeLost}
use Rattle.model.specs.Call.{list_in}
use Rattle.model.specs.InstanceCalls.{Turned}
use Rattle.model.specs.State.{lost_of, writers_in, LastWriter}
use Rattle.model.specs.WellFormed.{counts_ok}
use Rattle.model.specs.Writers.{tracker_call}
use Rattle.writer_pass.specs.declared.Tally.{Tally}
use Rattle.writer_counts.specs.WriterCalls.{held_by, Settles}
use Rattle.writer_status.specs.Status.{Kept}

-- so many alive writers are not alive now
abbrev pub expiry_tally : Head → ℕ → LastWriter → Tally
expiry_tally h gone last =
    record { counts = record { alive = h.alive - gone; not_alive = h.not_alive + gone }; moved = gone; last = last }

-- what a call returned and left of the writers and of Lost is the turn's, laid out
pub record Leaves (places : ℕ) (t : Turned) (r : Called) (writers lost : List ℕ) : Type 0 where
  pub settles : Settles places t r writers
  pub lost_laid : lost ≡ lost_of t.state.lost

-- code 37, whatever the pens hold
abbrev pub Expires : Sheet → Head → List ℕ → List ℕ → Called → List ℕ → List ℕ → Type 0
Expires sheet head writers lost r writers' lost' = (pens : List ℕ) → Leaves head.places (tracker_call Expire sheet (held_by head pens writers lost)) r writers' lost'

-- what code 38 returned and left of Lost and Out is the turn's
pub record Taken (places : ℕ) (t : Turned) (out : List ℕ) (r : Called) (lost' out' : List ℕ) : Type 0 where
  pub kept : Kept places t r
  pub emptied : lost' ≡ lost_of t.state.lost
  pub listed : out' ≡ list_in t.list out

-- code 38, whatever the pens and the writers hold, if the head counts the writers
abbrev pub Takes : Sheet → Head → List ℕ → List ℕ → Called → List ℕ → List ℕ → Type 0
Takes sheet head lost out r lost' out' =
    (pens writers : List ℕ) → counts_ok head (writers_in head.writer_count writers) ≡ true →
    Taken head.places (tracker_call TakeLost sheet (held_by head pens writers lost)) out r lost' out'
