-- What the passes over every instance make of one: a call, or the loss of several writers.
--     counted_as, counts              whether a call counts an instance, by what it reports
--     call_act, loss_act               a call; the loss of writers, one after the other
--     loss_by                         the loss of writers, all at once
--     strength_act                    the strength of an owner
--     owns_as, cleared_as, owner_act    the owner is cleared, if it is a writer or one of a participant
use Rattle.std.specs.Prelude.{ℕ, Bool, false, ◌&&◌, cond, List}
use Rattle.std.proofs.Math.Option.{some}
use Rattle.model.specs.declared.Guid.{Guid}
use Rattle.model.specs.declared.InstanceCall.{InstanceCall}
use Rattle.model.specs.declared.InstanceState.{InstanceState}
use Rattle.model.specs.declared.MaybeOwner.{MaybeOwner}
use Rattle.model.specs.declared.MaybeTime.{MaybeTime}
use Rattle.model.specs.declared.Report.{Report}
use Rattle.model.specs.declared.Report.TheVariants.{Nothing, Left, Owner, Prefix, Purge}
use Rattle.model.specs.declared.Sheet.{Sheet}
use Rattle.model.specs.InstanceCalls.{lists}
use Rattle.model.specs.InstanceRecord.{bit}
use Rattle.model.specs.Instances.{rule, effect, left_by, no_owner, owns, owns_prefix, purged, strength_updated, with_owner}
use Rattle.model.specs.Joined.{left_without_all, left_by_one, clearings}
use Rattle.instance_edits.specs.Losses.{emptied_by, owned_by}
use Rattle.instance_loss.specs.Lost.{lost_by}
use Rattle.instance_pass.specs.Acts.{Act}

-- ---- a call on every instance

-- its owner is cleared, or it is purged
abbrev pub counted_as : Report → Sheet → InstanceState → Bool
counted_as Nothing s x = false
counted_as Left s x = false
counted_as Owner s x = owns s.guid x.owner
counted_as Prefix s x = owns_prefix s.guid x.owner
counted_as Purge s x = purged s x

-- a call counts it
abbrev pub counts : InstanceCall → Sheet → InstanceState → Bool
counts c s x = counted_as (rule c).reports s x

abbrev pub call_act : InstanceCall → Sheet → Act
call_act c s =
    record {
      left = λ (x : InstanceState). effect c s x;
      listed = λ (x : InstanceState). lists c && left_by s.guid x;
      counted = λ (x : InstanceState). bit (counts c s x);
    }

-- ---- the loss of the writers gone

-- codes 7 and 18 for one after the other
abbrev pub loss_act : List Guid → MaybeTime → Act
loss_act gone at =
    record {
      left = λ (x : InstanceState). some (left_without_all gone at x);
      listed = λ (x : InstanceState). left_by_one gone at x;
      counted = λ (x : InstanceState). clearings gone at x;
    }

-- all at once: dropped and, where that is asked for, cleared as owners
abbrev pub loss_by : Bool → List Guid → MaybeTime → Act
loss_by clears gone at =
    record {
      left = λ (x : InstanceState). some (lost_by clears gone at x);
      listed = λ (x : InstanceState). emptied_by gone x;
      counted = λ (x : InstanceState). bit (clears && owned_by gone x.owner);
    }

-- ---- owners

-- the owner's strength is another, if it is g
abbrev pub strength_act : Guid → ℕ → Act
strength_act g strength =
    record {
      left = λ (x : InstanceState). some (strength_updated g strength x);
      listed = λ (x : InstanceState). false;
      counted = λ (x : InstanceState). 0;
    }

-- it is g, or of the participant of g
abbrev pub owns_as : Bool → Guid → MaybeOwner → Bool
owns_as prefix g o = cond prefix (owns_prefix g o) (owns g o)

abbrev pub cleared_as : Bool → Guid → InstanceState → InstanceState
cleared_as prefix g x = cond (owns_as prefix g x.owner) (with_owner no_owner x) x

abbrev pub owner_act : Bool → Guid → Act
owner_act prefix g =
    record {
      left = λ (x : InstanceState). some (cleared_as prefix g x);
      listed = λ (x : InstanceState). false;
      counted = λ (x : InstanceState). bit (owns_as prefix g x.owner);
    }
