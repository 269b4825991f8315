-- `values_ok` meets its contract: each test on the way decides.
use Prim.Native.Nat.{◌/◌, ◌%◌}
use mathlib.Core.Path.{◌≡◌, sym, ◌∙◌}
use native.Mathlib.Omega.{arith}
use borrow.Author.Tests.{le-ltb, lt-ltb}
use Rattle.model.specs.WellFormed.{writer_ok}
use Rattle.writer_validity.proofs.Values.{kind-zero, not-departed}
use Rattle.writer_validity.proofs.values_ok.Goals as goal

pub returns-then-not-lease_ok : goal.returns-then-not-lease_ok
unfolding writer_ok
returns-then-not-lease_ok c g = rw (sym c.lease_ok.ensures ∙ c.if-not-lease_ok.true)

pub returns-then-last-ge4611686018427387904 : goal.returns-then-last-ge4611686018427387904
unfolding writer_ok
returns-then-last-ge4611686018427387904 c g =
    rw (sym c.lease_ok.ensures ∙ c.if-not-lease_ok.false, le-ltb _ _ c.if-last-ge4611686018427387904.true)

pub returns-then-flags-ne3 : goal.returns-then-flags-ne3
unfolding writer_ok
returns-then-flags-ne3 c g =
    let a = c.args in
    rw (
      sym c.lease_ok.ensures ∙ c.if-not-lease_ok.false,
      lt-ltb _ _ c.if-last-ge4611686018427387904.false,
      not-departed (a.flags / 16 % 4) (omega arith) c.if-flags-ne3.true,
    )

pub returns : goal.returns
unfolding writer_ok
returns c g =
    let a = c.args in
    let departed : a.flags / 16 % 4 ≡ 3 = c.if-flags-ne3.false in
    rw (
      sym c.lease_ok.ensures ∙ c.if-not-lease_ok.false,
      lt-ltb _ _ c.if-last-ge4611686018427387904.false,
      departed,
      kind-zero (a.flags / 64),
    )
