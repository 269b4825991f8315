-- The instance that is reached is read, and refused a writer or changed.
use mathlib.Core.Path.{sym, ◌∙◌}
use borrow.Author.Rules.{rules}
use Rattle.instance_reach.proofs.Table.{reached_place, reached-usable, reached-room, crowded_left, changed-left}
use Rattle.instance_reach.proofs.change.Goals as goal

pub instance_at-x-requires : goal.instance_at-x-requires
instance_at-x-requires c = reached_place c.args.t.next c.requires.0 c.requires.1

pub crowded-requires : goal.crowded-requires
crowded-requires c = reached-usable c.args.t.next c.requires.0 c.requires.1 c.instance_at-x.ensures

pub returns-then-crowded : goal.returns-then-crowded
returns-then-crowded c =
    rw c.stopped.ensures
    (crowded_left c.args.t.next c.requires.0 c.requires.1 c.instance_at-x.ensures (λ n. search rules)
    (sym c.crowded.ensures ∙ c.if-crowded.true))

pub acted-y-requires : goal.acted-y-requires
acted-y-requires c = (
  c.requires.1.one,
  reached-usable c.args.t.next c.requires.0 c.requires.1 c.instance_at-x.ensures,
  reached-room c.args.t.next c.requires.0 c.requires.1 c.instance_at-x.ensures (sym c.crowded.ensures ∙ c.if-crowded.false),
)

pub replace-requires : goal.replace-requires
replace-requires c =
    (reached_place c.args.t.next c.requires.0 c.requires.1, c.acted-y.ensures.few)

pub returns : goal.returns
returns c =
    rw (c.left.ensures, c.answered.ensures)
    (changed-left c.args.t.next c.requires.0 c.requires.1 c.instance_at-x.ensures (λ n. search rules)
    (sym c.crowded.ensures ∙ c.if-crowded.false) c.acted-y.result c.acted-y.ensures c.replace.new.t c.replace.ensures)
