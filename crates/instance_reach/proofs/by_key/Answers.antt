-- Where the key stands, or where its instance would go in.
use mathlib.Core.Path.{sym, ap, ◌∙◌}
use Rattle.model.specs.declared.Rule.{Rule}
use Rattle.model.specs.Instances.{starts_by}
use borrow.Author.Rules.{rules}
use Rattle.instance_reach.proofs.Table.{ready_most, ready_room_all, ready_rises, reached_key, absent_key, absent-left}
use Rattle.instance_reach.proofs.by_key.Goals as goal

pub find_key-requires : goal.find_key-requires
find_key-requires c = (ready_most c.requires.0, ready_room_all c.requires.0, ready_rises c.requires.0)

pub change-requires : goal.change-requires
change-requires c = (
  c.requires.0,
  reached_key c.args.c c.args.s _ c.requires.1 c.requires.2 (ready_rises c.requires.0) _
      (sym c.find_key.ensures ∙ c.in-Ok.is),
)

pub begin-requires : goal.begin-requires
begin-requires c = (
  c.requires.0,
  record {
    starts = ap (λ (r : Rule). starts_by r.reach) (sym c.rule_of.ensures) ∙ sym c.starts.ensures ∙ c.if-starts.true;
    missing = sym c.find_key.ensures ∙ c.in-Err.is;
  },
)

pub returns-else-starts : goal.returns-else-starts
returns-else-starts c =
    rw (c.idle.ensures c.args.s)
    (absent-left c.args.next c.requires.0
    (absent_key c.args.c c.args.s _ c.requires.1 c.requires.2 (ready_rises c.requires.0) _
    (sym c.find_key.ensures ∙ c.in-Err.is) (ap (λ (r : Rule). starts_by r.reach) (sym c.rule_of.ensures) ∙ sym c.starts.ensures ∙ c.if-starts.false)) (λ n. search rules))
