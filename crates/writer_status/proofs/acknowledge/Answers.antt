-- `writer_status::acknowledge` meets its contract.
use mathlib.Core.List.{[]}
use mathlib.Core.Path.{◌∙◌}
use native.Mathlib.Omega.{arith}
use borrow.Author.Rules.{rules}
use mir.Syntax.{w32}
use mir.Val.{Fits, SFits, to_z}
use Rattle.writer_status.proofs.Idle.{lent-within, lent-part, head-within, acknowledgeable_parts, less_read, acknowledge-kept, both-changed}
use Rattle.writer_status.proofs.acknowledge.Goals as goal

lent : (c : goal.After-with_changes) → SFits w32 c.args.head.alive_change
lent c = search rules

lent-2 : (c : goal.After-with_changes) → SFits w32 c.args.head.not_alive_change
lent-2 c = search rules

pub change_less-first-requires : goal.change_less-first-requires
change_less-first-requires c =
    let h = c.args.head in
    let s = c.args.sheet in
    let f : SFits w32 h.alive_change = search rules in
    let g : SFits w32 h.not_alive_change = search rules in
    (c.requires.1, lent-within h.alive h.alive_change f (head-within h c.requires.0).0, lent-part h.alive h.alive_change (to_z w32 s.first) f (acknowledgeable_parts s h [] [] [] (c.requires.3 [] [] [])).0)

pub change_less-second-requires : goal.change_less-second-requires
change_less-second-requires c =
    let h = c.args.head in
    let s = c.args.sheet in
    let f : SFits w32 h.alive_change = search rules in
    let g : SFits w32 h.not_alive_change = search rules in
    (c.requires.2, lent-within h.not_alive h.not_alive_change g (head-within h c.requires.0).1, lent-part h.not_alive h.not_alive_change (to_z w32 s.second) g (acknowledgeable_parts s h [] [] [] (c.requires.3 [] [] [])).1)

pub returns : goal.returns
returns c =
    let h = c.args.head in
    let s = c.args.sheet in
    let f : SFits w32 h.alive_change = lent c in
    let g : SFits w32 h.not_alive_change = lent-2 c in
    let k : Fits w32 s.first = record { fits = omega (arith, c.well_formed.0) } in
    let m : Fits w32 s.second = record { fits = omega (arith, c.well_formed.0) } in
    let w = head-within h c.requires.0 in
    let v = acknowledgeable_parts s h [] [] [] (c.requires.3 [] [] []) in
    let x =
    less_read h.alive h.alive_change s.first f k w.0 c.change_less-first.result c.requires.1 v.0 c.change_less-first.ensures in
    let y =
    less_read h.not_alive h.not_alive_change s.second g m w.1 c.change_less-second.result c.requires.2 v.1 c.change_less-second.ensures in
    acknowledge-kept s h (omega (arith, c.well_formed.1)) record { answer = c.silent.result; head = c.with_changes.result } c.silent.ensures
    (c.with_changes.ensures ∙ both-changed h h.lost_count _ _ _ _ x y)
