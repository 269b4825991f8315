use Prim.Native.Nat.{◌+◌, ◌-◌, ◌*◌, ◌≤◌}
use mathlib.Core.Path.{◌≡◌, refl, sym, ap₂, ◌∙◌}
use native.Mathlib.Omega.{arith}
use lib.ListN.{length}
use Rattle.model.specs.Guids.{less}
use Rattle.tables.specs.Keys.{keys, leads, rising}
use Rattle.tables.proofs.Search.{record_le, rise_turn, rise_stop}
use Rattle.tables.proofs.keys_rise.Goals as goal

-- record i is within the table
room : (c : goal.In-loop-i)
    → (let a = c.args in c.loop-i.i * a.size + a.size ≤ length a.t.now)
room c = omega (arith, record_le c.args.size c.loop-i-test.true)

pub returns-then-count-eq0 : goal.returns-then-count-eq0
unfolding keys rising
returns-then-count-eq0 c = let e : c.args.count ≡ 0 = omega arith in rw e

pub guid_at-last-requires : goal.guid_at-last-requires
guid_at-last-requires c = omega (arith, record_le c.args.size {i = 0} {n = c.args.count} (omega arith))

pub loop-i-init : goal.loop-i-init
unfolding keys rising leads
loop-i-init c = let e : (1 - 1) * c.args.size ≡ 0 = omega arith in (rw e c.guid_at-last.ensures, refl)

pub overflow_mul-i : goal.overflow_mul-i
overflow_mul-i c = omega (arith, room c)

pub guid_at-next-requires : goal.guid_at-next-requires
guid_at-next-requires c = omega (arith, room c)

pub returns-then-not-is_less : goal.returns-then-not-is_less
returns-then-not-is_less c =
    let a = c.args in
    let l = c.loop-i in
    rise_stop a.size a.count a.t.now l.i (omega arith) (omega arith)
    (sym (c.is_less.ensures ∙ ap₂ less l.invariant.0 c.guid_at-next.ensures) ∙ c.if-not-is_less.true)

pub loop-i-preserved : goal.loop-i-preserved
loop-i-preserved c =
    let a = c.args in
    let l = c.loop-i in
    let e : l.i + 1 - 1 ≡ l.i = omega arith in (
      rw e c.guid_at-next.ensures,
      rise_turn a.size a.t.now l.i (omega arith) l.invariant.1
          (sym (c.is_less.ensures ∙ ap₂ less l.invariant.0 c.guid_at-next.ensures) ∙ c.if-not-is_less.false),
    )

pub returns : goal.returns
returns c =
    let e : c.loop-i.i ≡ c.args.count = omega arith in
    rw e at (sym c.loop-i.invariant.1)
