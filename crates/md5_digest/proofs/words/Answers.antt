use Rattle.std.proofs.Common.{◌≡◌, ℕ, sym, refl, ◌∙◌, add-one, arith, length-set, take_all, take-suc-set}
use lib.ListN.{length-replicate}
use Rattle.md5_digest.specs.Md5.{words}
use Rattle.md5_digest.proofs.words.Goals as goal

pub loop-j-init : goal.loop-j-init
unfolding words
loop-j-init c = (length-replicate {A = ℕ} 16 0, refl)

pub loop-j-preserved : goal.loop-j-preserved
unfolding words
loop-j-preserved c =
    let l = c.loop-j in
    (simp length-set l.invariant.0, rw (add-one, take-suc-set l.x l.j _ (omega arith), l.invariant.1) (rw c.word.ensures))

pub returns : goal.returns
returns c =
    let l = c.loop-j in
    let e : l.j ≡ 16 = omega arith in
    sym (take_all 16 l.x (omega arith)) ∙ (rw e at l.invariant.1)
