-- An owner apart from the span is not in the list.
use mathlib.Core.Bool.{true}
use mathlib.Core.Path.{◌≡◌, sym, ◌∙◌}
use Rattle.model.specs.InstanceRecord.{instance_of}
use Rattle.writer_set_bytes.specs.Lists.{gones_in}
use Rattle.instance_loss.proofs.Losing.{apart_unowned, goes, not_no}
use Rattle.instance_loss.proofs.owner_goes.Goals as goal
use Rattle.instance_loss.proofs.owner_goes.Goals.{then-loss, else-loss}

pub returns-then-not-owner_apart : goal.returns-then-not-owner_apart
returns-then-not-owner_apart c =
    let v = c.if-not-owner_apart.true in
    let k : c.args.loss.now.clears ≡ true = elim c.if-loss.branch [ then-loss w ↦ w.if-loss.true | else-loss w ↦ sym w.value-is ∙ v ] in
    c.owner_listed.ensures ∙ goes c.args.loss.now.clears k

pub returns-else-not-owner_apart : goal.returns-else-not-owner_apart
returns-else-not-owner_apart c =
    let l = c.args.loss.now in
    let v = c.if-not-owner_apart.false in
    elim c.if-loss.branch [
      | then-loss w ↦ v ∙ apart_unowned l.clears l.span (gones_in l.gone.list.now) (instance_of c.args.s.now).state.owner l.within (w.owner_apart.ensures (not_no w.owner_apart.result (sym w.value-is ∙ v)))
      | else-loss w ↦ w.value-is ∙ rw w.if-loss.false
    ]
