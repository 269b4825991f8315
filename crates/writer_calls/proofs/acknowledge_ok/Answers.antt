-- `writer_calls::acknowledge_ok` meets its contract: each arm by itself.
use mathlib.Core.Logic.{inl, inr}
use Rattle.writer_calls.proofs.acknowledge_ok.Goals as goal

pub returns-in-Nothing : goal.returns-in-Nothing
returns-in-Nothing c =
    λ pens writers lost. elim c.in-Nothing.is [
      | inl e ↦ rw e
      | inr e ↦ rw e
    ]

pub returns-in-Part : goal.returns-in-Part
returns-in-Part c = λ pens writers lost. rw c.in-Part.is (c.acknowledge_ok.ensures pens writers lost)
