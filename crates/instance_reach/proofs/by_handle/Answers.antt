-- Where the handle stands, if it does.
use native.Mathlib.Omega.{arith}
use borrow.Author.Rules.{rules}
use Rattle.instance_reach.proofs.Table.{ready_room_all, ready_length, ready_distinct, reached-handle, absent-handle, absent-left}
use Rattle.instance_reach.proofs.by_handle.Goals as goal

pub find_handle-i-requires : goal.find_handle-i-requires
find_handle-i-requires c = ready_room_all c.requires.0

pub change-requires : goal.change-requires
change-requires c = (
  c.requires.0,
  reached-handle c.args.c c.args.s _ c.requires.1 _ c.find_handle-i.ensures (ready_distinct c.requires.0)
      (omega (arith, ready_length c.requires.0, c.if-i-n.true)),
)

pub returns : goal.returns
returns c =
    rw (c.idle.ensures c.args.s)
    (absent-left c.args.next c.requires.0
    (absent-handle c.args.c c.args.s _ c.requires.1 _ c.find_handle-i.ensures
    (omega (arith, ready_length c.requires.0, c.if-i-n.false))) (λ n. search rules))
