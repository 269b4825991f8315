-- The set, then the owner, which the set does not change.
use mathlib.Core.Path.{refl}
use native.Mathlib.Omega.{arith}
use Rattle.writer_set_bytes.specs.Lists.{gones_in}
use Rattle.instance_loss.proofs.Losing.{owner-flag, lost-left}
use Rattle.instance_loss.proofs.lose.Goals as goal

pub clear_if-requires : goal.clear_if-requires
clear_if-requires c =
    let a = c.args in
    let l = a.loss.now in
    (omega (arith, c.requires.size), owner-flag l.clears (gones_in l.gone.list.now) l.at a.s.now c.drop_within-left.new.s c.owner_goes-cleared.result c.requires c.owner_goes-cleared.ensures c.drop_within-left.ensures.0)

pub returns : goal.returns
returns c =
    let a = c.args in
    let l = a.loss.now in (
      lost-left l.clears (gones_in l.gone.list.now) l.at a.s.now c.drop_within-left.new.s c.owner_goes-cleared.result c.requires c.owner_goes-cleared.ensures c.drop_within-left.ensures.0 c.clear_if.new.s c.clear_if.ensures,
      rw (c.drop_within-left.ensures.1, c.owner_goes-cleared.ensures) refl,
    )
