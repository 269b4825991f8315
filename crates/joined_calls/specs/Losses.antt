-- The joined calls on head and buffers: what each leaves, and the loss of writers that codes 49 to 51 share.
--     Losable         a pass over the instances may run, and Out has room for its list
--     Loses           the writers gone are dropped from every instance, after a call on the tracker
--     gone_since       the writers that came to Lost since there were so many
--     AdmitJudged     code 48 leaves what model says, whatever writers, Lost and Out stand beside
--     LeaveJudged     codes 50 and 51 do, whatever Lost stands beside
--     LapseJudged     code 49 does
use Rattle.std.specs.Prelude.{ℕ, ◌-◌, ◌*◌, ◌≤◌, Bool, cond, List, ◌≡◌, length, take, drop}
use Rattle.model.specs.declared.Called.{Called}
use Rattle.model.specs.declared.Guid.{Guid}
use Rattle.model.specs.declared.Head.{Head}
use Rattle.model.specs.declared.Instance.{Instance}
use Rattle.model.specs.declared.JoinedCall.{JoinedCall}
use Rattle.model.specs.declared.JoinedCall.TheVariants.{Admit, Lapse, Part, Depart}
use Rattle.model.specs.declared.MaybeTime.{MaybeTime}
use Rattle.model.specs.declared.Sheet.{Sheet}
use Rattle.model.specs.Answers.{with_list}
use Rattle.model.specs.Call.{list_in, judged, lent_of, left_of}
use Rattle.model.specs.Calls.{joined}
use Rattle.model.specs.InstanceCalls.{handle_bytes}
use Rattle.model.specs.Joined.{clearings_in, loses, left_writerless}
use Rattle.model.specs.Tables.{pick, sift}
use Rattle.model.specs.Times.{if_present}
use Rattle.instance_table.specs.Laid.{Laid}
use Rattle.instance_pass.specs.Passes.{Editable}
use Rattle.writer_set_bytes.specs.Lists.{gones_in}
use Rattle.call_laws.specs.Entered.{Entered}

-- ---- the loss of writers

-- the first count instances can be passed over
pub record Losable (count : ℕ) (pens out : List ℕ) : Type 0 where
  pub table : Editable count pens
  pub wide : 1024 ≤ length out

-- time 1 with its presence bit
abbrev pub loss_time : Sheet → MaybeTime
loss_time s = if_present s.time_1

-- from what a call on the tracker returned to what is returned and left once the writers gone are lost to the instances xs
pub record Loses (s : Sheet) (gone : List Guid) (xs : List Instance) (called : Called) (pens out : List ℕ) (r : Called) (pens' out' : List ℕ) : Type 0 where
  pub answer : r.answer ≡ with_list called.answer (clearings_in gone (loss_time s) xs) (length (pick (left_writerless gone (loss_time s)) xs))
  pub head : r.head ≡ called.head
  pub laid : (places : ℕ) → Laid places xs pens → Laid places (sift (loses gone (loss_time s)) xs) pens'
  pub list : out' ≡ list_in (handle_bytes (pick (left_writerless gone (loss_time s)) xs)) out

-- the GUIDs that Lost holds, from those before to those after
abbrev pub gone_since : ℕ → ℕ → List ℕ → List Guid
gone_since before after lost = gones_in (take (after * 16 - before * 16) (drop (before * 16) lost))

-- ---- the calls

-- what code 48 returned and left of pens
abbrev pub AdmitJudged : ℕ → Sheet → Head → List ℕ → Called → List ℕ → Type 0
AdmitJudged places s head pens r pens' =
    (writers lost out : List ℕ) → Entered places (lent_of head pens writers lost out) →
    left_of r pens' writers lost out ≡ judged places (joined Admit) s (lent_of head pens writers lost out)

-- code 51, or code 50
abbrev pub departing : Bool → JoinedCall
departing lost = cond lost Depart Part

-- what code 50 or 51 returned and left of pens, writers and Out
abbrev pub LeaveJudged : JoinedCall → Sheet → Head → List ℕ → List ℕ → List ℕ → Called → List ℕ → List ℕ → List ℕ → Type 0
LeaveJudged c s head pens writers out r pens' writers' out' =
    (places : ℕ) (lost : List ℕ) → Entered places (lent_of head pens writers lost out) →
    left_of r pens' writers' lost out' ≡ judged places (joined c) s (lent_of head pens writers lost out)

-- what code 49 returned and left
abbrev pub LapseJudged : Sheet → Head → List ℕ → List ℕ → List ℕ → List ℕ → Called → List ℕ → List ℕ → List ℕ → List ℕ → Type 0
LapseJudged s head pens writers lost out r pens' writers' lost' out' =
    (places : ℕ) → Entered places (lent_of head pens writers lost out) →
    left_of r pens' writers' lost' out' ≡ judged places (joined Lapse) s (lent_of head pens writers lost out)
