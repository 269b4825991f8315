use mathlib.Core.Path.{refl}
use native.Mathlib.Omega.{arith}
use Rattle.instance_pass.proofs.PurgeLaws.{kept-le, purging_start, purging_turn, purging_end}
use Rattle.instance_pass.proofs.purge.Goals as goal

pub loop-i-init : goal.loop-i-init
loop-i-init c = (omega arith, refl, purging_start c.args.s c.args.count c.args.pens.now)

pub loop-i-preserved : goal.loop-i-preserved
loop-i-preserved c =
    let a = c.args in
    let l = c.loop-i in
    let r = c.purge_at-k in (
      omega (arith, kept-le _ l.i l.k r.result l.pens r.new.pens r.ensures, l.invariant.0),
      omega arith,
      purging_turn a.s a.count a.pens.now l.i l.k l.pens l.invariant.0 c.requires.0 c.requires.1 (omega arith) l.invariant.2 r.new.pens r.result (omega arith) r.ensures,
    )

pub returns : goal.returns
returns c =
    let a = c.args in
    let l = c.loop-i in
    let r = c.truncate in
    purging_end a.s a.count a.pens.now l.i l.k l.pens l.invariant.0 (omega arith) (omega arith) l.invariant.2 r.new.t r.ensures
