-- `put_strength` meets its contract.
use Prim.Native.Nat.{ℕ}
use mathlib.Core.List.{List}
use mathlib.Core.Path.{ap, ◌∙◌}
use Rattle.octets.specs.Octets.{put}
use Rattle.instance_edits.proofs.RecordEdits.{strengthened}
use Rattle.instance_edits.proofs.put_strength.Goals as goal

pub returns : goal.returns
returns c x e =
    let v : ℕ = c.args.strength in
    c.put_u32.ensures ∙ ap (λ (r : List ℕ). put 4 r 108 v) e ∙ strengthened x v
