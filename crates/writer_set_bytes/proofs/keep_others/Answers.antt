-- A list of one, or a walk from the place of the first of the set on.
use native.Mathlib.Omega.{arith}
use Rattle.writer_set_bytes.proofs.Starts.{one-listed, start_few, start_after}
use Rattle.writer_set_bytes.proofs.WalkLaws.{filled_long}
use Rattle.writer_set_bytes.proofs.keep_others.Goals as goal

pub returns-then-m-eq1 : goal.returns-then-m-eq1
returns-then-m-eq1 c =
    let g = c.guid_at-g in
    let r = c.keep_all_but in
    rw (one-listed c.args.gone.now.list.now (omega arith), ← g.ensures) r.ensures

pub guid_at-first-requires : goal.guid_at-first-requires
guid_at-first-requires c =
    omega (arith, filled_long c.args.n c.args.set.now c.requires)

pub walk_through-requires : goal.walk_through-requires
walk_through-requires c =
    let a = c.args in
    let g = c.guid_at-first in
    let r = c.lower_listed-from in (
      c.requires,
      omega (arith, start_few a.gone.now.list.now a.set.now a.n g.result r.result g.ensures r.ensures),
      start_after a.gone.now.list.now a.set.now a.n g.result r.result g.ensures r.ensures c.requires,
    )
