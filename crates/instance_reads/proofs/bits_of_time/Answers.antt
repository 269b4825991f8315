-- `bits_of_time` meets its contract, by that of the seconds.
use mathlib.Core.Path.{ap, ◌∙◌}
use mir.Facts.{to_z-of_z}
use mir.Syntax.{w32}
use mir.Val.{of_z}
use borrow.Author.Rules.{rules}
use Rattle.instance_reads.proofs.Answers.{bits-time}
use Rattle.instance_reads.proofs.bits_of_time.Goals as goal

pub returns : goal.returns
returns c =
    let back = to_z-of_z {w = w32} {z = c.args.time.sec} (search rules) in
    bits-time c.args.time _ (c.bits_of-sec.ensures ∙ ap (of_z w32) back)
