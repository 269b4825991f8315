use mathlib.Core.Path.{sym, ap, ◌∙◌}
use native.Mathlib.Omega.{arith}
use borrow.Author.Rules.{rules}
use Rattle.model.specs.State.{writers_in, writer_key}
use Rattle.tables.specs.Keys.{rising}
use Rattle.tables.proofs.RecordLaws.{rising-records}
use Rattle.writer_pass.proofs.Prefixes.{keys_are}
use Rattle.writer_pass.proofs.Asserting.{starts, asserting_start, asserting_there, asserting_turn, asserting_left, asserting_end, moves-not-alive, tally-moved, tally-stays}
use Rattle.writer_pass.proofs.assert_writers.Goals as goal
use Rattle.writer_pass.proofs.assert_writers.Goals.{then-assert_at, else-assert_at}

pub lower_bound-from-requires : goal.lower_bound-from-requires
lower_bound-from-requires c = (
  omega arith,
  c.requires.0.few,
  c.requires.0.room,
  ap rising (keys_are c.args.count c.args.t.now) ∙ rising-records writer_key (writers_in c.args.count c.args.t.now) ∙ c.requires.1,
)

pub loop-i-init : goal.loop-i-init
loop-i-init c =
    asserting_start c.args.a c.args.last c.args.t.now c.args.count c.lower_bound-from.result (search rules) c.requires.0 c.requires.1
    (starts c.args.t.now c.args.count c.lower_bound-from.result c.args.a.guid c.first_of.result c.lower_bound-from.ensures c.first_of.ensures)
    c.args.counts c.requires.2

pub writer_at-w-requires : goal.writer_at-w-requires
writer_at-w-requires c =
    omega (arith, c.requires.0, c.loop-i.invariant.amid)

pub shape_of-t-then-not-same_prefix : goal.shape_of-t-then-not-same_prefix
shape_of-t-then-not-same_prefix c = omega (arith, c.loop-i.invariant.amid)

pub returns-then-not-same_prefix : goal.returns-then-not-same_prefix
returns-then-not-same_prefix c =
    let n = c.loop-i in
    asserting_left c.args.a c.args.last c.args.t.now c.args.count c.lower_bound-from.result (search rules) c.requires.0 c.requires.1 n.t
    n.tally n.i n.invariant (omega arith) c.writer_at-w.result c.writer_at-w.ensures (sym c.same_prefix.ensures ∙ c.if-not-same_prefix.true)

pub assert_at-requires : goal.assert_at-requires
assert_at-requires c =
    omega (arith, c.requires.0, c.loop-i.invariant.amid)

pub raise-tally-requires : goal.raise-tally-requires
raise-tally-requires c =
    let n = c.loop-i in (
      n.invariant.few,
      n.invariant.moved,
      asserting_there c.args.a c.args.last c.args.t.now c.args.count c.lower_bound-from.result (search rules) c.requires.0 c.requires.1 n.t
          n.tally n.i n.invariant (omega arith) c.writer_at-w.result c.writer_at-w.ensures,
      moves-not-alive c.args.a c.writer_at-w.result (sym c.assert_at.ensures.1 ∙ c.if-assert_at.true),
    )

pub loop-i-preserved : goal.loop-i-preserved
loop-i-preserved c =
    let n = c.loop-i in
    let w = c.writer_at-w.result in
    let e = c.assert_at.ensures.1 in
    asserting_turn c.args.a c.args.last c.args.t.now c.args.count c.lower_bound-from.result (search rules) c.requires.0 c.requires.1 n.t
    n.tally n.i n.invariant (omega arith) w c.writer_at-w.ensures c.assert_at.new.t c.if-assert_at.tally c.assert_at.ensures.0
    (elim c.if-assert_at.branch [
      | then-assert_at b ↦ b.tally-is ∙ b.raise-tally.ensures ∙ tally-moved c.args.a w n.tally (sym e ∙ b.if-assert_at.true)
      | else-assert_at b ↦ b.tally-is ∙ tally-stays c.args.a w n.tally (sym e ∙ b.if-assert_at.false)
    ])

pub shape_of-t : goal.shape_of-t
shape_of-t c = omega (arith, c.loop-i.invariant.amid)

pub returns : goal.returns
returns c =
    let n = c.loop-i in
    asserting_end c.args.a c.args.last c.args.t.now c.args.count c.lower_bound-from.result (search rules) c.requires.0 c.requires.1 n.t
    n.tally n.i n.invariant (omega arith)
