-- The set without the writers of the list, then the flags.
use Prim.Native.Nat.{ℕ, ◌%◌}
use mathlib.Core.Path.{ap}
use native.Mathlib.Omega.{arith}
use Rattle.writer_set_bytes.specs.Lists.{gones_in}
use Rattle.instance_loss.proofs.Dropping.{part_filled, flags_stay, count-few, dropped_left}
use borrow.Author.Rules.{rules}
use Rattle.instance_loss.proofs.drop_listed.Goals as goal

pub keep_others-k-requires : goal.keep_others-k-requires
keep_others-k-requires c =
    part_filled c.args.s.now (search rules) c.requires _ c.get_u16.ensures

pub write_remainder-requires : goal.write_remainder-requires
write_remainder-requires c =
    let a = c.args in
    let k = c.keep_others-k in
    let v = c.get_u16 in
    let g = gones_in a.gone.now.list.now in (
      omega (arith, c.requires.size),
      ap (λ (f : ℕ). f % 32) (flags_stay a.s.now (search rules) c.requires v.result k.result g k.new.set v.ensures k.ensures.0 k.ensures.1),
      count-few a.s.now (search rules) c.requires v.result k.result g k.new.set v.ensures k.ensures.0 k.ensures.1,
    )

pub returns : goal.returns
returns c =
    let a = c.args in
    let k = c.keep_others-k in
    let v = c.get_u16 in
    let t = c.write_remainder in
    dropped_left a.s.now (search rules) c.requires v.result k.result (gones_in a.gone.now.list.now) k.new.set v.ensures k.ensures.0 k.ensures.1 a.at t.new.s t.result t.ensures
