-- `owner_listed` meets its contract.
use Prim.Native.Nat.{ℕ, ◌/◌, ◌%◌}
use mathlib.Core.Path.{sym, ap, ◌∙◌}
use native.Mathlib.Omega.{arith}
use borrow.Author.Tests.{eq-eqb, eqb-true}
use lib.ListN.{length}
use Rattle.model.specs.declared.Guid.{Guid}
use Rattle.model.specs.Guids.{num}
use Rattle.model.specs.InstanceRecord.{flags_at}
use Rattle.tables.specs.Found.{found_in}
use Rattle.tables.specs.Keys.{keys}
use Rattle.instance_edits.proofs.RecordReads.{listed_none, listed_by}
use Rattle.instance_edits.proofs.owner_listed.Goals as goal

pub returns-then-get_u16-eq0 : goal.returns-then-get_u16-eq0
returns-then-get_u16-eq0 c =
    listed_none c.args.s.now (length c.args.gone.now.list.now / 16) c.args.gone.now.list.now 0
    (λ e. omega (arith, eqb-true (flags_at c.args.s.now / 128 % 2) 1 e, c.get_u16.ensures))

pub returns : goal.returns
returns c =
    let n : ℕ = length c.args.gone.now.list.now / 16 in
    c.is_ok.ensures.value
    ∙ listed_by c.args.s.now n c.args.gone.now.list.now (eq-eqb (flags_at c.args.s.now / 128 % 2) 1 (omega (arith, c.get_u16.ensures))) c.args.gone.now.listed.rises
    c.find_listed.result
    (ap (λ (g : Guid). found_in (keys 16 n c.args.gone.now.list.now) (num g)) (sym c.guid_at-g.ensures) ∙ sym c.find_listed.ensures)
