use Prim.Native.Nat.{◌+◌, ◌/◌, ◌*◌, ◌≤◌}
use mathlib.Core.Path.{◌≡◌, sym, ◌∙◌}
use native.Mathlib.Omega.{arith}
use borrow.Author.Tests.{ltb-true, ltb-false}
use lib.ListN.{length}
use Rattle.model.specs.Guids.{num}
use Rattle.tables.specs.Keys.{keys}
use Rattle.tables.proofs.KeyLaws.{length-keys}
use Rattle.tables.proofs.Search.{mid_lt, mid_room, mid_key, bracket_start, bracket_up, bracket_down, bracket_end}
use Rattle.tables.proofs.lower_bound.Goals as goal

-- the record in the middle is within the table
room : (c : goal.After-from) → (let a = c.args in c.from.result * a.size + a.size ≤ length a.t.now)
room c =
    let a = c.args in
    omega (arith, mid_room a.size a.count a.t.now c.loop-lo.invariant (omega arith) c.from.result (omega arith))

pub loop-lo-init : goal.loop-lo-init
loop-lo-init c = bracket_start _ _ _ _ (omega arith) (omega (arith, length-keys c.args.size c.args.count c.args.t.now))

pub overflow_add-mid : goal.overflow_add-mid
overflow_add-mid c = omega (arith, length-keys c.args.size c.args.count c.args.t.now)

pub overflow_mul-from : goal.overflow_mul-from
overflow_mul-from c = omega (arith, room c)

pub guid_at-requires : goal.guid_at-requires
guid_at-requires c = omega (arith, room c)

pub overflow_add-lo : goal.overflow_add-lo
overflow_add-lo c =
    let a = c.args in
    omega (arith, mid_lt a.size a.count a.t.now c.loop-lo.invariant (omega arith) c.from.result (omega arith))

pub loop-lo-preserved-then-is_less : goal.loop-lo-preserved-then-is_less
loop-lo-preserved-then-is_less c =
    let a = c.args in
    let l = c.loop-lo in
    bracket_up c.requires.3 l.invariant ((l.lo + l.hi) / 2) (omega arith) (omega arith) _ (omega arith)
    (rw (mid_key a.size a.count a.t.now l.invariant (omega arith) c.from.result (omega arith) c.guid_at.result c.guid_at.ensures)
    (ltb-true _ _ (sym c.is_less.ensures ∙ c.if-is_less.true)))

pub loop-lo-preserved : goal.loop-lo-preserved
loop-lo-preserved c =
    let a = c.args in
    let l = c.loop-lo in
    bracket_down c.requires.3 l.invariant ((l.lo + l.hi) / 2) (omega arith) (omega arith)
    (rw (mid_key a.size a.count a.t.now l.invariant (omega arith) c.from.result (omega arith) c.guid_at.result c.guid_at.ensures)
    (ltb-false _ _ (sym c.is_less.ensures ∙ c.if-is_less.false)))

pub returns : goal.returns
returns c =
    let a = c.args in
    let l = c.loop-lo in
    let e : c.from-2.result ≡ l.lo = omega arith in
    rw e (bracket_end (keys a.size a.count a.t.now) (num a.key) l.lo l.hi l.invariant c.loop-lo-test.false)
