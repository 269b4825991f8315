-- `handle_at` meets its contract.
use Prim.Native.Nat.{ℕ}
use mathlib.Core.List.{List}
use mathlib.Core.Path.{ap, ◌∙◌}
use Rattle.model.specs.InstanceRecord.{instance_of}
use Rattle.instance_decoding.proofs.handle_at.Goals as goal

pub returns : goal.returns
returns c = c.read_handle.ensures ∙ ap (λ (l : List ℕ). (instance_of l).handle) c.record_at.ensures
