-- `list_left` meets its contract, by its test and what it calls.
use mathlib.Core.Path.{ap, ◌∙◌}
use Prim.Native.Nat.{◌*◌}
use Rattle.octets.specs.Octets.{put}
use Rattle.model.specs.declared.InstanceHandle.{InstanceHandle}
use Rattle.model.specs.Guids.{guids_in}
use Rattle.model.specs.Reads.{left_with}
use Rattle.instance_reads.proofs.Lists.{list_skip, list-add}
use Rattle.instance_reads.proofs.Members.{part-ok, part-told}
use Rattle.instance_reads.proofs.list_left.Goals as goal

pub left_with-requires : goal.left_with-requires
left_with-requires c =
    let p = part-ok _ c.args.i c.requires.0 c.requires.1 in
    (p.0, p.1, c.requires.2)

pub returns-then-not-left_with-clause-count : goal.returns-then-not-left_with-clause-count
returns-then-not-left_with-clause-count c =
    let p = left_with (guids_in c.args.m c.args.gone.now) c.args.view_states in
    (list_skip _ c.args.k c.args.out.now c.args.out.now (part-told p _ c.args.i _ c.left_with.ensures ∙ c.if-not-left_with.true)).0

pub returns-then-not-left_with-clause-written : goal.returns-then-not-left_with-clause-written
returns-then-not-left_with-clause-written c =
    let p = left_with (guids_in c.args.m c.args.gone.now) c.args.view_states in
    (list_skip _ c.args.k _ _ (part-told p _ c.args.i _ c.left_with.ensures ∙ c.if-not-left_with.true)).1

pub returns-clause-count : goal.returns-clause-count
returns-clause-count c =
    let p = left_with (guids_in c.args.m c.args.gone.now) c.args.view_states in
    (list-add _ c.args.k c.args.out.now _ _ (part-told p _ c.args.i _ c.left_with.ensures ∙ c.if-not-left_with.false)
    (c.put_u64.ensures ∙ ap (λ (h : InstanceHandle). put 8 c.args.out.now (c.args.k * 8) h.0) c.handle_at-h.ensures)).0

pub returns-clause-written : goal.returns-clause-written
returns-clause-written c =
    let p = left_with (guids_in c.args.m c.args.gone.now) c.args.view_states in
    (list-add _ c.args.k _ _ _ (part-told p _ c.args.i _ c.left_with.ensures ∙ c.if-not-left_with.false)
    (c.put_u64.ensures ∙ ap (λ (h : InstanceHandle). put 8 c.args.out.now (c.args.k * 8) h.0) c.handle_at-h.ensures)).1
