-- `writer_expiry::take_lost` meets its contract.
use mathlib.Core.Path.{◌∙◌}
use native.Mathlib.Omega.{arith}
use borrow.Author.Rules.{rules}
use mir.Facts.{to_z-of_z}
use mir.Syntax.{w32}
use mir.Val.{SFits}
use Rattle.writer_status.proofs.Idle.{both-changed}
use Rattle.writer_expiry.proofs.Expiring.{lost-few}
use Rattle.writer_expiry.proofs.Taking.{take-leaves}
use Rattle.writer_expiry.proofs.take_lost.Goals as goal

lent : (c : goal.After-with_changes) → SFits w32 c.args.head.alive_change
lent c = search rules

lent-2 : (c : goal.After-with_changes) → SFits w32 c.args.head.not_alive_change
lent-2 c = search rules

pub copy-requires : goal.copy-requires
copy-requires c = (omega (arith, lost-few c.args.head.lost_count c.args.lost.now c.requires.1, c.requires.0), omega (arith, lost-few c.args.head.lost_count c.args.lost.now c.requires.1, c.requires.2))

pub clear-requires : goal.clear-requires
clear-requires c = omega (arith, lost-few c.args.head.lost_count c.args.lost.now c.requires.1, c.requires.0)

pub shape_of-out : goal.shape_of-out
shape_of-out c = c.copy.auto.dst

pub returns : goal.returns
returns c =
    let h = c.args.head in
    let f : SFits w32 h.alive_change = lent c in
    let g : SFits w32 h.not_alive_change = lent-2 c in
    take-leaves c.args.sheet h c.args.lost.now c.args.out.now (search rules) c.requires.0
    c.requires.1 (omega (arith, c.well_formed.1)) record { answer = c.listing.result; head = c.with_changes.result } c.clear.new.b
    c.copy.new.dst c.listing.ensures (c.with_changes.ensures ∙ both-changed h 0 _ _ _ _ (to_z-of_z f) (to_z-of_z g))
    c.clear.ensures c.copy.ensures
