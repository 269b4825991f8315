-- `head_status` meets its contract.
use borrow.Author.Rules.{rules}
use mir.Facts.{to_z-of_z}
use mir.Syntax.{w32}
use mir.Val.{SFits}
use Rattle.head_reads.proofs.Heads.{status_made}
use Rattle.head_reads.proofs.head_status.Goals as goal

pub returns : goal.returns
returns c =
    let h = c.args.h in
    let f : SFits w32 h.alive_change = search rules in
    let g : SFits w32 h.not_alive_change = search rules in
    status_made h _ _ _ (to_z-of_z f) (to_z-of_z g) c.publication_handle-handle.ensures
