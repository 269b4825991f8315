-- `writer_status::acknowledge_ok` meets its contract.
use mathlib.Core.Path.{◌≡◌, ap, ◌∙◌}
use borrow.Author.Rules.{rules}
use lib.IntN.{pos, ◌+ℤ◌, ◌-ℤ◌}
use mir.Syntax.{w32}
use mir.Val.{SFits, to_z}
use Rattle.model.specs.State.{state_of}
use Rattle.model.specs.WellFormed.{within}
use Rattle.writer_status.proofs.Idle.{lent-within, head-within, as_lent}
use Rattle.writer_status.proofs.acknowledge_ok.Goals as goal

pub part_within-requires : goal.part_within-requires
part_within-requires c =
    let h = c.args.head in
    let s = c.args.sheet in
    let f : SFits w32 h.alive_change = search rules in
    let g : SFits w32 h.not_alive_change = search rules in
    lent-within h.alive h.alive_change f (head-within h c.requires).0

pub part_within-requires-then-part_within : goal.part_within-requires-then-part_within
part_within-requires-then-part_within c =
    let h = c.args.head in
    let s = c.args.sheet in
    let f : SFits w32 h.alive_change = search rules in
    let g : SFits w32 h.not_alive_change = search rules in
    lent-within h.not_alive h.not_alive_change g (head-within h c.requires).1

pub returns-then-part_within : goal.returns-then-part_within
unfolding state_of
returns-then-part_within c =
    let h = c.args.head in
    let s = c.args.sheet in
    let f : SFits w32 h.alive_change = search rules in
    let g : SFits w32 h.not_alive_change = search rules in
    let a : c.part_within.result ≡ within ((pos h.alive -ℤ h.alive_change) +ℤ to_z w32 s.first) = c.part_within.ensures ∙ ap within (as_lent h.alive h.alive_change (to_z w32 s.first) f) in
    let b : c.part_within-then-part_within.result ≡ within ((pos h.not_alive -ℤ h.not_alive_change) +ℤ to_z w32 s.second) = c.part_within-then-part_within.ensures ∙ ap within (as_lent h.not_alive h.not_alive_change (to_z w32 s.second) g) in
    λ pens writers lost. rw (← a, c.if-part_within.true) b

pub returns-else-part_within : goal.returns-else-part_within
unfolding state_of
returns-else-part_within c =
    let h = c.args.head in
    let s = c.args.sheet in
    let f : SFits w32 h.alive_change = search rules in
    let g : SFits w32 h.not_alive_change = search rules in
    let a : c.part_within.result ≡ within ((pos h.alive -ℤ h.alive_change) +ℤ to_z w32 s.first) = c.part_within.ensures ∙ ap within (as_lent h.alive h.alive_change (to_z w32 s.first) f) in
    λ pens writers lost. rw (← a, c.if-part_within.false)
