-- `put_instance` meets its contract: the part that was lent is back as the record.
use mathlib.Core.Path.{ap, ◌∙◌}
use Prim.Native.Nat.{ℕ, ◌*◌}
use mathlib.Core.List.{List}
use Rattle.instance_decoding.proofs.Rows.{put_back}
use Rattle.octets.specs.Patch.{patch}
use Rattle.instance_encoding.proofs.put_instance.Goals as goal

pub returns : goal.returns
returns c =
    let a = c.args in
    put_back (a.i * 512) 512 a.t.now c.write_instance.new.s ∙ ap (λ (r : List ℕ). patch a.t.now (a.i * 512) 512 r) c.write_instance.ensures
