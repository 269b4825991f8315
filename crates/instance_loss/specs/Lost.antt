-- The writers of a list lost to an instance: dropped, as code 7 does, and cleared as its owner, as code 18 does, or dropped
-- alone.
--     Within          a GUID of a span; within-prop: of a list it has one proof
--     lost_by          what is left of the instance
--     told_of          whether it is left writerless, and whether its owner is cleared
--     ClearedIf       what becomes of the bytes r of an instance, whichever it is: the bytes s
use Rattle.std.specs.Prelude.{ℕ, ◌≤◌, ◌<◌, Bool, true, ◌&&◌, cond, List, [], ◌∷◌, ◌≡◌}
use Rattle.std.specs.Coded.{×_prop, Unit-prop, le_prop}
use Rattle.octets.specs.Lay.{All}
use Rattle.model.specs.declared.Guid.{Guid}
use Rattle.model.specs.declared.Instance.{Instance}
use Rattle.model.specs.declared.InstanceState.{InstanceState}
use Rattle.model.specs.declared.MaybeTime.{MaybeTime}
use Rattle.model.specs.Guids.{num}
use Rattle.model.specs.InstanceRecord.{instance_bytes}
use Rattle.model.specs.Instances.{no_owner, with_owner}
use Rattle.instance_edits.specs.declared.Span.{Span}
use Rattle.instance_edits.specs.Edits.{changed}
use Rattle.instance_edits.specs.Losses.{emptied_by, dropped_of, owned_by, disowned_by}
use Rattle.instance_loss.specs.declared.Told.{Told}

abbrev pub lost_by : Bool → List Guid → MaybeTime → InstanceState → InstanceState
lost_by clears gone at x = cond clears (disowned_by gone (dropped_of gone at x)) (dropped_of gone at x)

abbrev pub told_of : Bool → List Guid → InstanceState → Told
told_of clears gone x = record { left = emptied_by gone x; cleared = clears && owned_by gone x.owner }

abbrev pub ClearedIf : Bool → List ℕ → List ℕ → Type 0
ClearedIf b r s =
    (x : Instance) → r ≡ instance_bytes x → x.state.writers.len < 32 → (b ≡ true → x.state.owner.present ≡ true) →
    s ≡ instance_bytes (changed (λ (y : InstanceState). cond b (with_owner no_owner y) y) x)

-- neither before the span nor behind it
abbrev pub Within : Span → Guid → Type 0
Within w g = (num w.low ≤ num g) × (num g ≤ num w.high)

-- so much has one proof, as a field of a struct has to
pub within-prop : (w : Span) (gs : List Guid) → IsProp (All (Within w) gs)
within-prop w [] = Unit-prop
within-prop w (g ∷ gs) = ×_prop (×_prop le_prop le_prop) (within-prop w gs)
