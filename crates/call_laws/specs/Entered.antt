-- Calls past refusals 1 to 3: what they are lent, and what they leave.
--     Entered            head and buffers that a call is lent past refusals 1 and 3
--     InstancesJudged    a call on instances leaves what model says, whatever writers and Lost stand beside
--     TrackerJudged      a call on writers does, whatever pens stand beside
use Rattle.std.specs.Prelude.{ℕ, ◌*◌, true, List, ◌≡◌, length}
use Rattle.octets.specs.Bounds.{Bytes}
use Rattle.model.specs.declared.Called.{Called}
use Rattle.model.specs.declared.Head.{Head}
use Rattle.model.specs.declared.InstanceCall.{InstanceCall}
use Rattle.model.specs.declared.Sheet.{Sheet}
use Rattle.model.specs.declared.TrackerCall.{TrackerCall}
use Rattle.model.specs.Call.{judged, lent_of, left_of}
use Rattle.model.specs.Calls.{instances, tracker}
use Rattle.model.specs.State.{Lent}
use Rattle.model.specs.WellFormed.{well_formed}

-- bytes of the lengths that refusal 1 asks for, well formed
pub record Entered (places : ℕ) (l : Lent) : Type 0 where
  pub pens : length l.pens ≡ places * 512
  pub writers : length l.writers ≡ 5120
  pub lost : length l.lost ≡ 4096
  pub out : length l.out ≡ 4096
  pub pens_bytes : Bytes l.pens
  pub writers_bytes : Bytes l.writers
  pub lost_bytes : Bytes l.lost
  pub formed : well_formed places l ≡ true

-- what a call on instances returned and left of pens and Out
abbrev pub InstancesJudged : ℕ → InstanceCall → Sheet → Head → List ℕ → List ℕ → Called → List ℕ → List ℕ → Type 0
InstancesJudged places c s head pens out r pens' out' =
    (writers lost : List ℕ) → Entered places (lent_of head pens writers lost out) →
    left_of r pens' writers lost out' ≡ judged places (instances c) s (lent_of head pens writers lost out)

-- what a call on writers returned and left of writers, Lost and Out
abbrev pub TrackerJudged : TrackerCall → Sheet → Head → List ℕ → List ℕ → List ℕ → Called → List ℕ → List ℕ → List ℕ → Type 0
TrackerJudged c s head writers lost out r writers' lost' out' =
    (places : ℕ) (pens : List ℕ) → Entered places (lent_of head pens writers lost out) →
    left_of r pens writers' lost' out' ≡ judged places (tracker c) s (lent_of head pens writers lost out)
