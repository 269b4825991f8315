use mathlib.Core.Path.{◌≡◌, ◌∙◌}
use native.Mathlib.Omega.{arith}
use lib.ListN.{length}
use borrow.Author.Rules.{rules}
use Rattle.instance_encoding.proofs.Writes.{written_to, written_start, written-turn, written-end}
use Rattle.instance_encoding.proofs.write_guids.Goals as goal

pub loop-i-init : goal.loop-i-init
loop-i-init c = written_start c.args.s.now c.args.gs

pub loop-i-preserved : goal.loop-i-preserved
loop-i-preserved c =
    let a = c.args in
    let l = c.loop-i in
    let many : length a.gs ≡ 16 = search rules in
    rw (c.put_guid.ensures, l.invariant) (written-turn a.s.now a.gs c.requires many l.i (omega arith))

pub returns : goal.returns
returns c =
    let a = c.args in
    let l = c.loop-i in
    let all : l.i ≡ 16 = omega arith in
    let many : length a.gs ≡ 16 = search rules in
    let e : l.s ≡ written_to a.s.now a.gs 16 = rw all at l.invariant in
    e ∙ written-end a.s.now a.gs c.requires many
