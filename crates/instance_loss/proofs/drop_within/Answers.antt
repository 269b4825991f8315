-- A set apart from the span stays as it is.
use mathlib.Core.Path.{refl}
use Rattle.writer_set_bytes.specs.Lists.{gones_in}
use Rattle.instance_loss.proofs.Losing.{apart_stays}
use borrow.Author.Rules.{rules}
use Rattle.instance_loss.proofs.drop_within.Goals as goal

pub returns-then-set_apart : goal.returns-then-set_apart
returns-then-set_apart c =
    let l = c.args.loss.now in
    apart_stays l.span (gones_in l.gone.list.now) l.at c.args.s.now _ _ (search rules) c.requires l.within c.set_apart.ensures c.if-set_apart.true refl
