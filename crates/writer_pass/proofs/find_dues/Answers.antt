use Prim.Native.Nat.{◌-◌}
use mathlib.Core.Path.{◌≡◌, refl}
use native.Mathlib.Omega.{arith}
use Rattle.writer_pass.specs.Passes.{writer_in}
use Rattle.writer_pass.proofs.Reading.{bounded_in, dues_start, dues_turn, dues_room}
use Rattle.writer_pass.proofs.find_dues.Goals as goal

pub loop-i-init : goal.loop-i-init
loop-i-init c =
    let a = c.args in
    (omega arith, dues_start a.t.now a.count a.clock)

pub leased_at-requires : goal.leased_at-requires
leased_at-requires c = omega (arith, c.requires)

pub due_at-requires : goal.due_at-requires
due_at-requires c =
    let j = c.loop-i.i - 1 in
    let b = bounded_in c.args.t.now c.args.count j (writer_in c.args.t.now j) c.requires (omega arith) refl in
    (omega (arith, c.requires), b.0, b.1)

pub dues_with-d-requires : goal.dues_with-d-requires
dues_with-d-requires c =
    dues_room c.args.t.now c.args.count c.args.clock c.loop-i.i c.loop-i.d (omega arith) c.loop-i.invariant.0 c.requires.few c.loop-i.invariant.1

pub loop-i-preserved-then-leased_at : goal.loop-i-preserved-then-leased_at
loop-i-preserved-then-leased_at c =
    let j = c.loop-i.i - 1 in
    let w = writer_in c.args.t.now j in (
      omega arith,
      rw
          (dues_turn c.args.t.now c.args.count c.args.clock c.loop-i.i j w c.loop-i.d (omega arith) c.loop-i.invariant.0 refl c.loop-i.invariant.1, ← c.leased_at.ensures, c.if-leased_at.true, ← c.due_at.ensures)
          c.dues_with-d.ensures,
    )

pub loop-i-preserved : goal.loop-i-preserved
loop-i-preserved c =
    let j = c.loop-i.i - 1 in
    let w = writer_in c.args.t.now j in (
      omega arith,
      rw
          (dues_turn c.args.t.now c.args.count c.args.clock c.loop-i.i j w c.loop-i.d (omega arith) c.loop-i.invariant.0 refl c.loop-i.invariant.1, ← c.leased_at.ensures, c.if-leased_at.false),
    )

pub returns : goal.returns
returns c =
    let z : c.loop-i.i ≡ 0 = omega arith in
    rw z at c.loop-i.invariant.1
