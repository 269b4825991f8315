-- `writer_pass::declare_at` meets its contract.
use Prim.Native.Nat.{◌*◌}
use mathlib.Core.Path.{ap, ◌∙◌}
use native.Mathlib.Omega.{arith}
use Rattle.octets.specs.Patch.{patch}
use Rattle.model.specs.declared.Guid.{Guid}
use Rattle.std.specs.Prelude.{Some}
use Rattle.model.specs.Guids.{guid_bytes}
use Rattle.guid.proofs.Laws.{guid-patch}
use Rattle.writer_pass.proofs.Declaring.{guid-in}
use Rattle.writer_pass.proofs.declare_at.Goals as goal

pub returns : goal.returns
returns c =
    let g = c.guid_at-g.ensures ∙ guid-in c.args.t.now c.args.i in (
      c.expire_at.ensures,
      c.put_guid.ensures ∙ guid-patch c.args.lost.now (c.args.at * 16) c.guid_at-g.result (omega arith) ∙ ap (λ (z : Guid). patch c.args.lost.now (c.args.at * 16) 16 (guid_bytes z)) g,
      ap Some g,
    )
