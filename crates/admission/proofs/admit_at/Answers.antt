-- The instance is replaced.
use mathlib.Core.Path.{refl}
use borrow.Author.Rules.{rules}
use Rattle.admission.proofs.Leaves.{known_place, known-usable, known-room, admitted-left}
use Rattle.admission.proofs.admit_at.Goals as goal

pub sampled-y-requires : goal.sampled-y-requires
sampled-y-requires c = (
  known-usable c.requires.0 c.args.s c.args.i c.args.x c.requires.1,
  known-room c.requires.0 c.args.s c.args.i c.args.x c.requires.1 c.requires.3,
)

pub replace-requires : goal.replace-requires
replace-requires c =
    (known_place c.requires.0 c.args.s c.args.i c.requires.1.only, c.sampled-y.ensures.few)

pub returns : goal.returns
returns c =
    rw c.left.ensures
    (admitted-left c.requires.0 c.args.s (λ n. search rules) c.args.i c.args.x c.requires.1
    c.admitted_answer.result c.args.t.next refl c.requires.2 c.requires.3 c.sampled-y.result c.replace.new.t c.requires.4
    c.sampled-y.ensures c.admitted_answer.ensures c.replace.ensures)
