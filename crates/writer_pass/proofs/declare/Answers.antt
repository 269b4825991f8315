use mathlib.Core.Path.{sym, ◌∙◌}
use native.Mathlib.Omega.{arith}
use Rattle.model.specs.Writers.{expired}
use Rattle.writer_pass.proofs.Passing.{amid_bounded, amid_forth}
use Rattle.writer_pass.proofs.Declaring.{declaring_start, declaring_room, declaring_alive, declared, passed, declared_end, undeclared}
use borrow.Author.Rules.{rules}
use Rattle.writer_pass.proofs.declare.Goals as goal
use Rattle.writer_pass.proofs.declare.Goals.{then-expires_at, else-expires_at}

pub returns-then-gone-eq0 : goal.returns-then-gone-eq0
returns-then-gone-eq0 c =
    undeclared c.args.t.now c.args.count c.args.clock c.args.lost.now c.args.n c.args.last (search rules) c.requires.0
    c.requires.1 c.requires.2 (omega (arith, c.requires.3, c.requires.4)) (omega (arith, c.requires.3, c.if-gone-eq0.true))

pub loop-i-init : goal.loop-i-init
loop-i-init c =
    declaring_start c.args.t.now c.args.count c.args.clock c.args.lost.now c.args.n c.args.last (search rules) c.requires.0
    c.requires.1 c.requires.2 (omega (arith, c.requires.3, c.requires.4))

pub expires_at-requires : goal.expires_at-requires
expires_at-requires c =
    let l = c.loop-i in (
      omega (arith, c.requires.0),
      amid_bounded (expired c.args.clock) c.args.t.now c.args.count (search rules) c.requires.0 l.t l.i
          l.invariant.amid (omega arith),
    )

pub declare_at-newest-requires : goal.declare_at-newest-requires
declare_at-newest-requires c =
    let e = sym c.expires_at.ensures ∙ c.if-expires_at.true in
    let l = c.loop-i in (
      omega (arith, c.requires.0),
      declaring_room c.args.t.now c.args.count c.args.clock c.args.lost.now c.args.n c.args.last (search rules) c.requires.0
          c.requires.1 c.requires.2 (omega (arith, c.requires.3, c.requires.4))
          l.t l.lost l.newest l.at l.i l.invariant (omega arith) e,
      amid_forth (expired c.args.clock) c.args.t.now c.args.count (search rules) c.requires.0 l.t l.i
          l.invariant.amid (omega arith),
      declaring_alive c.args.t.now c.args.count c.args.clock c.args.lost.now c.args.n c.args.last (search rules) c.requires.0
          c.requires.1 c.requires.2 (omega (arith, c.requires.3, c.requires.4))
          l.t l.lost l.newest l.at l.i l.invariant (omega arith) e,
    )

pub loop-i-preserved : goal.loop-i-preserved
loop-i-preserved c =
    let l = c.loop-i in
    elim c.if-expires_at.branch [
      | then-expires_at b ↦
          rw (b.t-is, b.lost-is, b.newest-is, b.at-is)
          (declared c.args.t.now c.args.count c.args.clock c.args.lost.now c.args.n c.args.last (search rules) c.requires.0
          c.requires.1 c.requires.2 (omega (arith, c.requires.3, c.requires.4))
          l.t l.lost l.newest l.at l.i l.invariant (omega arith) (sym c.expires_at.ensures ∙ b.if-expires_at.true) b.declare_at-newest.new.t
          b.declare_at-newest.new.lost b.declare_at-newest.result b.declare_at-newest.ensures.0 b.declare_at-newest.ensures.1 b.declare_at-newest.ensures.2)
      | else-expires_at b ↦
          rw (b.t-is, b.lost-is, b.newest-is, b.at-is)
          (passed c.args.t.now c.args.count c.args.clock c.args.lost.now c.args.n c.args.last (search rules) c.requires.0
          c.requires.1 c.requires.2 (omega (arith, c.requires.3, c.requires.4))
          l.t l.lost l.newest l.at l.i l.invariant (omega arith) (sym c.expires_at.ensures ∙ b.if-expires_at.false))
    ]

pub shape_of-t : goal.shape_of-t
shape_of-t c = omega (arith, c.loop-i.invariant.amid)

pub returns : goal.returns
returns c =
    let l = c.loop-i in
    declared_end c.args.t.now c.args.count c.args.clock c.args.lost.now c.args.n c.args.last (search rules) c.requires.0
    c.requires.1 c.requires.2 (omega (arith, c.requires.3, c.requires.4)) l.t l.lost l.newest l.at l.i l.invariant (omega arith)
